-- Whether a text is a duration, a patient identification or a recording identification.
use Rattle.std.proofs.Common.{◌≡◌, ◌≢◌, ℕ, suc, ◌+◌, ◌*◌, ◌^◌, ◌<◌, List, [], ◌∷◌, ◌++◌, length}
use Rattle.std.proofs.Common.{length-append, take, drop, arith, refl, sym, ap, ◌∙◌, subst, inl, inr}
use Rattle.std.proofs.Common.{ℤ, Option, Some, None}
use Rattle.std.specs.Prelude.{◌⊎◌, codes}
use Rattle.std.specs.Char.{digit_value}
use Rattle.std.specs.Str.Parse.{AllDigits, IsNumeral, digits_value}
use Rattle.std.proofs.lemmas.List.{take_at, take_all, drop_all}
use Rattle.edf_time.specs.Civil.{HasDateForm, IsIdDate}
use Rattle.edf_time.specs.Decimal.{IsDecimal, IsFine, fraction_value as places}
use Rattle.edf_field.specs.Number.{field, AreSpaces, IsDuration, IsDurationInRange, unpadded_len}
use Rattle.edf_field.proofs.Cited.{lasts-or-not, recording-no-fault}
use Rattle.edf_field.specs.Text.{FollowsStartdate, IsBirthdate, IsPatient, IsRecording, IsSex}
use Rattle.edf_field.specs.Text.{IsStartdate, subfields}
use Rattle.edf_field.specs.Fault.{IsPatientFault, IsRecordingFault, IsStartdateFault}
use Rattle.edf_field.specs.Fault.{SubfieldsHaveFault}
use Rattle.edf_field.specs.declared.fault.PatientFault.{PatientFault}
use Rattle.edf_field.specs.declared.fault.PatientFault.TheVariants.{NoSex, NoBirthdate, Few}
use Rattle.edf_field.specs.declared.fault.RecordingFault.{RecordingFault}
use Rattle.edf_field.specs.declared.fault.RecordingFault.TheVariants.{NoStartdate, NoDate}
use Rattle.edf_field.specs.declared.fault.RecordingFault.TheVariants.{Few as FewCodes}
use Rattle.edf_header.proofs.Decided.{Decided, like, both, either, less, same, same-bytes, every}
use Rattle.edf_header.proofs.Decided.{some-below}
use Rattle.edf_header.proofs.DecidedFields.{spaces, follows-startdate}
use Rattle.edf_time.proofs.Cited.{some-date, some-yearless, some-id_date}

all-digits : (ds : List ℕ) → Decided (AllDigits 10 ds)
all-digits [] = inl tt
all-digits (d ∷ ds) = both (less (digit_value d) 10) (all-digits ds)

numeral : (ds : List ℕ) → Decided (IsNumeral 10 ds)
numeral ds = both (less 0 (length ds)) (all-digits ds)

decimal : (text w f : List ℕ) → Decided (IsDecimal text w f)
decimal text w [] = both (numeral w) (same-bytes text w)
decimal text w (d ∷ ds) =
    like (both (numeral w) (both (numeral (d ∷ ds)) (same-bytes text (w ++ 46 ∷ d ∷ ds))))
    (λ p. (p.0, p.1.0, p.1.1)) (λ p. (p.0, (p.1, p.2)))

-- a decimal in the range of a duration that is not too fine
abbrev value : List ℕ → List ℕ → ℕ
value w f = digits_value 10 w * 10 ^ 9 + places (10 ^ 8) f

record IsWorth (text w f : List ℕ) : Type 0 where
  parts : IsDecimal text w f
  fine : IsFine f
  in_range : IsDurationInRange (value w f)

worth : (text w f : List ℕ) → Decided (IsWorth text w f)
worth text w f =
    like (both (decimal text w f) (both (every (λ d. d ≡ 48) 0 (λ d. same d 48) (drop 9 f))
    (lasts-or-not (value w f))))
    (λ p. record { parts = p.0; fine = p.1.0; in_range = p.1.1 })
    (λ p. (p.parts, (p.fine, p.in_range)))

-- its parts are those on the two sides of some offset
abbrev IsWorthAt : List ℕ → ℕ → Type 0
IsWorthAt text at = IsWorth text (take at text) (drop (suc at) text)

after-dot : (w f : List ℕ) → drop (suc (length w)) (w ++ 46 ∷ f) ≡ f
after-dot [] f = refl
after-dot (d ∷ w) f = after-dot w f

worth-at : (text w f : List ℕ) → IsWorth text w f → (at : ℕ) × (at < suc (length text))
    × IsWorthAt text at
worth-at text w [] is =
    let front : w ≡ take (length text) text = sym is.parts.1
    ∙ sym (take_all (length text) text (omega arith)) in
    let back : [] ≡ drop (suc (length text)) text =
    sym (drop_all (suc (length text)) text (omega arith)) in (
      length text,
      omega arith,
      subst (λ (l : List ℕ). IsWorth text (take (length text) text) l) back
          (subst (λ (l : List ℕ). IsWorth text l []) front is),
    )
worth-at text w (c ∷ f) is =
    let e : text ≡ w ++ 46 ∷ c ∷ f = is.parts.2 in
    let front : w ≡ take (length w) text =
    sym (ap (take (length w)) e ∙ take_at w (46 ∷ c ∷ f) (length w) refl) in
    let back : c ∷ f ≡ drop (suc (length w)) text =
    sym (ap (drop (suc (length w))) e ∙ after-dot w (c ∷ f)) in (
      length w,
      omega (arith, ap length e, length-append w (46 ∷ c ∷ f)),
      subst (λ (l : List ℕ). IsWorth text (take (length w) text) l) back
          (subst (λ (l : List ℕ). IsWorth text l (c ∷ f)) front is),
    )

from-worth : (text : List ℕ) →
    (((at : ℕ) × (at < suc (length (take (unpadded_len text) text)))
    × IsWorthAt (take (unpadded_len text) text) at) × AreSpaces (drop (unpadded_len text) text))
    → (nanos : ℕ) × IsDuration text nanos
from-worth text ((at, lt, is), blank) =
    let t : List ℕ = take (unpadded_len text) text in (
      value (take at t) (drop (suc at) t),
      record {
        seconds = record {
          whole = take at t;
          fraction = drop (suc at) t;
          parts = is.parts;
          fine = is.fine;
          value = refl;
        };
        spaces = blank;
        in_range = is.in_range;
      },
    )

to-worth : (text : List ℕ) → ((nanos : ℕ) × IsDuration text nanos)
    → ((at : ℕ) × (at < suc (length (take (unpadded_len text) text)))
    × IsWorthAt (take (unpadded_len text) text) at) × AreSpaces (drop (unpadded_len text) text)
to-worth text (nanos, d) =
    let s = d.seconds in
    let lasts = subst IsDurationInRange s.value d.in_range in (
      worth-at (take (unpadded_len text) text) s.whole s.fraction
          (record { parts = s.parts; fine = s.fine; in_range = lasts }),
      d.spaces,
    )

pub duration : (text : List ℕ) → Decided ((nanos : ℕ) × IsDuration text nanos)
duration text =
    let t : List ℕ = take (unpadded_len text) text in
    like (both (some-below (IsWorthAt t) (λ at. worth t (take at t) (drop (suc at) t))
    (suc (length t))) (spaces (drop (unpadded_len text) text))) (from-worth text) (to-worth text)

-- the patient field
sex : (text : List ℕ) → Decided (IsSex text)
sex text = either (same-bytes text (codes "F"))
    (either (same-bytes text (codes "M")) (same-bytes text (codes "X")))

birthdate : (text : List ℕ) → Decided (IsBirthdate text)
birthdate text = either (same-bytes text (codes "X")) (some-id_date text)

abbrev pub HasPatientFault : List ℕ → Type 0
HasPatientFault text = (why : PatientFault) × IsPatientFault text why

patient-by : (text : List ℕ) (parts : List (List ℕ)) → subfields text ≡ parts →
    IsPatient text ⊎ ((why : PatientFault) × SubfieldsHaveFault why parts)
patient-by text [] e = inr (Few, (omega arith, tt))
patient-by text (c ∷ []) e = inr (Few, (omega arith, tt))
patient-by text (c ∷ s ∷ []) e =
    elim (sex s) [
      | inl is ↦ inr (Few, (omega arith, is))
      | inr none ↦ inr (NoSex, none)
    ]
patient-by text (c ∷ s ∷ b ∷ []) e =
    elim (sex s) [
      | inl is ↦ elim (birthdate b) [
        | inl date ↦ inr (Few, (omega arith, (is, date)))
        | inr none ↦ inr (NoBirthdate, (is, none))
      ]
      | inr none ↦ inr (NoSex, none)
    ]
patient-by text (c ∷ s ∷ b ∷ n ∷ more) e =
    elim (sex s) [
      | inl is ↦ elim (birthdate b) [
        | inl date ↦ inl (record {
          code = c;
          sex = s;
          birthdate = b;
          name = n;
          more = more;
          parts = e;
          is_sex = is;
          is_birthdate = date;
        })
        | inr none ↦ inr (NoBirthdate, (is, none))
      ]
      | inr none ↦ inr (NoSex, none)
    ]

pub patient-or-fault : (text : List ℕ) → IsPatient text ⊎ HasPatientFault text
patient-or-fault text = patient-by text (subfields text) refl

-- the recording field
abbrev pub HasRecording : List ℕ → Type 0
HasRecording text = (startdate : Option ℤ) × (after : List ℕ) × IsRecording text startdate after

abbrev HasStartdate : List ℕ → Type 0
HasStartdate text = (startdate : Option ℤ) × (after : List ℕ) × IsStartdate text startdate after

abbrev pub HasRecordingFault : List ℕ → Type 0
HasRecordingFault text = (why : RecordingFault) × IsRecordingFault text why

no-startdate : (text : List ℕ) → take 11 text ≢ codes "Startdate X" →
    ((day : ℤ) → ¬ IsIdDate (field text 10 11) day) → (s : Option ℤ) (after : List ℕ) →
    ¬ IsStartdate text s after
no-startdate text no_x no_day None after p = no_x p.0
no-startdate text no_x no_day (Some day) after p = no_day day p.1

startdate : (text : List ℕ) → HasStartdate text
    ⊎ ((why : RecordingFault) × IsStartdateFault text why)
startdate text =
    elim (same-bytes (take 10 text) (codes "Startdate ")) [
      | inl front ↦ elim (same-bytes (take 11 text) (codes "Startdate X")) [
        | inl x ↦ inl (None, drop 11 text, (x, refl))
        | inr no_x ↦ elim (some-id_date (field text 10 11)) [
          | inl day ↦ inl (Some day.0, drop 21 text, (front, day.1, refl))
          | inr no_day ↦ inr (
            NoDate,
            (front, no-startdate text no_x (λ day is. no_day (day, is))),
          )
        ]
      ]
      | inr other ↦ inr (NoStartdate, other)
    ]

of-startdate : (text : List ℕ) (why : RecordingFault) → IsStartdateFault text why →
    IsRecordingFault text why
of-startdate text NoStartdate fails = fails
of-startdate text NoDate fails = fails
of-startdate text FewCodes fails = absurd fails

pub recording-or-fault : (text : List ℕ) → HasRecording text ⊎ HasRecordingFault text
recording-or-fault text =
    elim (startdate text) [
      | inl s ↦ elim (follows-startdate s.1) [
        | inl follows ↦ inl (s.0, s.1, record { is_startdate = s.2; rest = follows })
        | inr none ↦ inr (FewCodes, (s.0, s.1, s.2, none))
      ]
      | inr f ↦ inr (f.0, of-startdate text f.0 f.1)
    ]

pub recording : (text : List ℕ) → Decided (HasRecording text)
recording text =
    elim (recording-or-fault text) [
      | inl is ↦ inl is
      | inr f ↦ inr (λ r. recording-no-fault text r.0 r.1 f.0 r.2 f.1)
    ]

-- one with X in place of the startdate
pub undated : (text : List ℕ) → Decided ((after : List ℕ) × IsRecording text None after)
undated text =
    like (both (same-bytes (take 11 text) (codes "Startdate X")) (follows-startdate (drop 11 text)))
    (λ p. (drop 11 text, record { is_startdate = (p.0, refl); rest = p.1 }))
    (λ r. (r.1.is_startdate.0, subst FollowsStartdate r.1.is_startdate.1 r.1.rest))

-- the startdate
pub date-form : (text : List ℕ) (id : Option ℤ) → Decided (HasDateForm text id)
date-form text None = some-date text
date-form text (Some day) = either (some-date text) (some-yearless text)
