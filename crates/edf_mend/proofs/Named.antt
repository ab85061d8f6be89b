-- Who is named: in a file for which no code was given; by a code that was given.
use Rattle.std.proofs.Common.{◌≡◌, ℕ, List, ◌⊎◌, inl, inr, ap, ◌∙◌, subst, Bool}
use Rattle.edf_field.specs.Text.{subfields}
use Rattle.edf_header.specs.Fields.{patient_field, recording_field}
use Rattle.edf_header.specs.Header.{HeaderRecord, layout_of}
use Rattle.edf_header.specs.Key.{patient_code}
use Rattle.edf_field.proofs.Recordings.{one-after}
use Rattle.edf_mend.specs.Texts.{spaced, first_subfield, IsNoCode}
use Rattle.edf_mend.specs.Identification.{KeepsName, KeepsPatient, code_of, HasCodes}
use Rattle.edf_mend.specs.Header.{KeepsHeader}
use Rattle.edf_mend.specs.Laws.{NamesRecording}
use Rattle.edf_mend.specs.declared.wanted.Wanted.{Wanted}
use Rattle.edf_mend.specs.declared.wanted.Who.{Who}
use Rattle.edf_mend.specs.declared.wanted.Who.TheVariants.{AsNamed, Given, Replaced, Hidden}

-- the code that a field had is the one that it has
pub keeps-code : (old new : List ℕ) → KeepsName old new → first_subfield new ≡ code_of old
keeps-code old new (inl (plain, same)) = ap first_subfield same
keeps-code old new (inr one) = one.code

-- ---- by its header

module _ (w : Wanted) (first second : List ℕ) (timed : Bool) (h : HeaderRecord)
    (asked : w.who ≡ AsNamed) (x : KeepsHeader w first second timed h) where
  keeps-name : KeepsName (patient_field first) (patient_field x.strict)
  keeps-name = subst (λ (o : Who). KeepsPatient o (patient_field first) (patient_field x.strict))
      asked x.fixed.kept.patient

  code-is : patient_code (layout_of h).key ≡ code_of (patient_field first)
  code-is = ap first_subfield x.is_fixed.patient ∙ keeps-code _ _ keeps-name

  same-patient : KeepsName (patient_field first) (patient_field x.strict) →
      IsNoCode (patient_code (layout_of h).key) →
      (layout_of h).key.patient ≡ spaced (patient_field first)
  same-patient (inl (plain, same)) none = x.is_fixed.patient ∙ same
  same-patient (inr one) none = absurd (one.one (subst (λ (c : List ℕ). IsNoCode c) code-is none))

  same-codes : IsNoCode (patient_code (layout_of h).key) →
      HasCodes (recording_field first) (subfields (layout_of h).key.after)
  same-codes none = elim (x.fixed.nobody asked) [
    | inl some ↦
        absurd (some (subst (λ (c : List ℕ). IsNoCode c)
        (ap first_subfield x.is_fixed.patient) none))
    | inr s ↦
        subst (λ (l : List ℕ). HasCodes (recording_field first) (subfields l))
        (one-after _ _ _ _ _ s.recording.is_startdate x.is_fixed.recording.is_startdate).1 s.same
  ]

  pub names-recording : NamesRecording first (layout_of h).key
  names-recording = record {
    code = code-is;
    nobody = λ none. (same-patient keeps-name none, same-codes none);
  }

-- ---- by a code that was given

by-given : (code old new : List ℕ) → KeepsPatient (Given code) old new → first_subfield new ≡ code
by-given code old new (inl (same, name)) = keeps-code old new name ∙ same
by-given code old new (inr (gets, named)) = gets.0

by-replaced : (code old new : List ℕ) → KeepsPatient (Replaced code) old new →
    first_subfield new ≡ code
by-replaced code old new (inl (same, name)) = keeps-code old new name ∙ same
by-replaced code old new (inr (gets, other)) = gets.0

pub given-code : (w : Wanted) (code old new : List ℕ) →
    (w.who ≡ Given code) ⊎ ((w.who ≡ Replaced code) ⊎ (w.who ≡ Hidden code)) →
    KeepsPatient w.who old new → first_subfield new ≡ code
given-code w code old new (inl is) kept =
    by-given code old new (subst (λ (o : Who). KeepsPatient o old new) is kept)
given-code w code old new (inr (inl is)) kept =
    by-replaced code old new (subst (λ (o : Who). KeepsPatient o old new) is kept)
given-code w code old new (inr (inr is)) kept =
    let alone : KeepsPatient (Hidden code) old new =
    subst (λ (o : Who). KeepsPatient o old new) is kept in
    alone.0
