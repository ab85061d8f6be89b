use Rattle.std.proofs.Common.{◌≡◌, List, ℕ, ◌++◌, ◌∷◌, [], ap, ◌∙◌, codes, decimal, length}
use Rattle.std.proofs.lemmas.Result.{IfOk-weaker}
use Rattle.edf_header.specs.Key.{Key, patient_code, investigation_code}
use Rattle.edf_fragment.specs.Fragment.{DataRecord}
use Rattle.edf_command.specs.Lines.{list_line, first_start}
use Rattle.edf_command.proofs.Texts.{first-start}
use Rattle.edf_command.proofs.listing.list_line.Goals as goal

-- a line whose parts are these
listed : (spell : ℕ → List ℕ) (place count start : ℕ) (k : Key) (records : List DataRecord)
    (a b s p v line : List ℕ) → a ≡ decimal place → b ≡ decimal count → count ≡ length records →
    s ≡ spell start → start ≡ first_start records → p ≡ patient_code k →
    v ≡ investigation_code k →
    line ≡ a ++ (codes " records=" ++ (b ++ (codes " first=" ++ (s ++ (codes " patient="
    ++ (p ++ (codes " investigation=" ++ (v ++ (10 ∷ []))))))))) →
    line ≡ list_line spell place k records
listed spell place count start k records a b s p v line ea eb ec es ef ep ev is =
    let b' : b ≡ decimal (length records) = eb ∙ ap (λ (n : ℕ). decimal n) ec in
    let s' : s ≡ spell (first_start records) = es ∙ ap spell ef in
    is
    ∙ ap (λ (t : List ℕ). t ++ (codes " records=" ++ (b ++ (codes " first=" ++ (s
    ++ (codes " patient=" ++ (p ++ (codes " investigation=" ++ (v ++ (10 ∷ [])))))))))) ea
    ∙ ap (λ (t : List ℕ). decimal place ++ (codes " records=" ++ (t ++ (codes " first=" ++ (s
    ++ (codes " patient=" ++ (p ++ (codes " investigation=" ++ (v ++ (10 ∷ [])))))))))) b'
    ∙ ap (λ (t : List ℕ). decimal place ++ (codes " records=" ++ (decimal (length records)
    ++ (codes " first=" ++ (t ++ (codes " patient=" ++ (p
    ++ (codes " investigation=" ++ (v ++ (10 ∷ [])))))))))) s'
    ∙ ap (λ (t : List ℕ). decimal place ++ (codes " records=" ++ (decimal (length records)
    ++ (codes " first=" ++ (spell (first_start records) ++ (codes " patient=" ++ (t
    ++ (codes " investigation=" ++ (v ++ (10 ∷ [])))))))))) ep
    ∙ ap (λ (t : List ℕ). decimal place ++ (codes " records=" ++ (decimal (length records)
    ++ (codes " first=" ++ (spell (first_start records) ++ (codes " patient=" ++ (patient_code k
    ++ (codes " investigation=" ++ (t ++ (10 ∷ [])))))))))) ev

pub returns : goal.returns
returns c =
    IfOk-weaker c.concat.result _ _ (λ r line spell records is s.
    listed spell c.args.place c.args.summary.now.records c.args.summary.now.first
    c.args.identity.now records c.as_bytes.result.now c.as_bytes-2.result.now
    c.as_slice.result.now c.patient_code.result.now c.investigation_code.result.now r.items
    (c.as_bytes.ensures.value ∙ c.in_ok-place.ensures.ok)
    (c.as_bytes-2.ensures.value ∙ c.in_ok-records.ensures.ok) s.0
    (c.as_slice.ensures.value ∙ c.in_ok-first.ensures spell is)
    (first-start records c.args.summary.now.first s.1) c.patient_code.ensures
    c.investigation_code.ensures line) c.concat.ensures
