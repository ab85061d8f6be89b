-- The file of some records, put out piece by piece.
use Rattle.std.proofs.Common.{◌≡◌, ℕ, ◌+◌, ◌-◌, ◌*◌, ◌≤◌, List, [], ◌∷◌, ◌++◌, length, ap, ◌∙◌}
use Rattle.std.proofs.Common.{subst, arith, length-append, All, replicate}
use Rattle.std.specs.List.{flat_map}
use Rattle.std.proofs.lemmas.List.Elements.{All-head, All-tail, All-cons, All-nil}
use Rattle.edf_header.specs.Key.{Key}
use Rattle.edf_header.proofs.Strides.{length-parts}
use Rattle.edf_fragment.specs.Fragment.{DataRecord}
use Rattle.edf_header.specs.Canonical.{IsCanonicalHeader}
use Rattle.edf_canonical.specs.File.{second_of, block_of, record_text, BlocksFit, IsLaidOut}
use Rattle.edf_canonical.proofs.Records.{length-filled}

-- every record's text has the samples' bytes and the block's
text-lengths : (base size bytes : ℕ) (rs : List DataRecord) →
    All (λ r. length r.samples ≡ bytes) rs → All (λ r. length (block_of base r) ≤ size) rs
    → All (λ r. length (record_text base size r) ≡ bytes + size) rs
text-lengths base size bytes [] lens fit =
    All-nil (λ r. length (record_text base size r) ≡ bytes + size)
text-lengths base size bytes (r ∷ rs) lens fit =
    let here = All-head (λ x. length x.samples ≡ bytes) r rs lens in
    let block = length-filled (block_of base r) size
    (All-head (λ x. length (block_of base x) ≤ size) r rs fit) in
    All-cons (λ x. length (record_text base size x) ≡ bytes + size) r rs
    (length-append r.samples (block_of base r ++ replicate (size - length (block_of base r)) 0)
    ∙ omega (arith, here, block))
    (text-lengths base size bytes rs (All-tail (λ x. length x.samples ≡ bytes) r rs lens)
    (All-tail (λ x. length (block_of base x) ≤ size) r rs fit))

pub file-length : (header : List ℕ) (base size bytes : ℕ) (rs : List DataRecord) →
    All (λ r. length r.samples ≡ bytes) rs → All (λ r. length (block_of base r) ≤ size) rs
    → length header + length rs * (bytes + size) ≡ length (header
    ++ flat_map (record_text base size) rs)
file-length header base size bytes rs lens fit =
    omega (
      arith,
      length-append header (flat_map (record_text base size) rs),
      length-parts (record_text base size) (bytes + size) rs
          (text-lengths base size bytes rs lens fit),
    )

-- what is put out is laid out as the records' file
pub laid-out : (k : Key) (records : List DataRecord) (first : DataRecord) (base start samples : ℕ)
    (header : List ℕ) → start ≡ first.start → base ≡ second_of first.start
    → IsCanonicalHeader header k start (length records) samples → BlocksFit base samples records →
    ((fewer : ℕ) → BlocksFit base fewer records → samples ≤ fewer)
    → IsLaidOut (header ++ flat_map (record_text base (2 * samples)) records) k first records
laid-out k records first base start samples header start-is base-is is-header holds least = record {
  samples = samples;
  header = header;
  is_header = subst (λ (n : ℕ). IsCanonicalHeader header k n (length records) samples) start-is
      is-header;
  holds = subst (λ (n : ℕ). BlocksFit n samples records) base-is holds;
  least = subst (λ (n : ℕ). (fewer : ℕ) → BlocksFit n fewer records →
      samples ≤ fewer) base-is least;
  parts = ap (λ (n : ℕ). header ++ flat_map (record_text n (2 * samples)) records) base-is;
}
