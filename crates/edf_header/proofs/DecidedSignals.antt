-- Whether the header of a signal is what it must be.
use Rattle.std.proofs.Common.{ℕ, ◌*◌, List, [], length, pos}
use Rattle.std.specs.Prelude.{All, ◌⊎◌, codes, neg_ℤ}
use Rattle.edf_field.specs.Number.{field, signed_value}
use Rattle.edf_header.specs.Signal.{HasDigital, HasPhysical, HasSamples, IsAnnotationsSignal}
use Rattle.edf_header.specs.Signal.{IsFirstBad, IsLabelled, Passes, labelled, ordinary, samples}
use Rattle.edf_header.specs.Signal.{samples_in_all}
use Rattle.edf_header.specs.Condition.{HasAnnotations, IsTooLarge}
use Rattle.edf_header.specs.declared.signal_checks.Check.{Check}
use Rattle.edf_header.specs.declared.signal_checks.Check.TheVariants.{Label, Annotations, Physical}
use Rattle.edf_header.specs.declared.signal_checks.Check.TheVariants.{Digital, Samples}
use Rattle.edf_header.specs.declared.limits.TheConstants.{MOST_BLOCK_BYTES}
use Rattle.edf_header.proofs.Decided.{Decided, like, both, either, negated, implied, less, at-most}
use Rattle.edf_header.proofs.Decided.{same-bytes, same-int, less-int, at-most-int, first-bad, every}
use Rattle.edf_header.proofs.DecidedFields.{physical, differ, signed, whole}

label : (row : List ℕ) → Decided (IsLabelled row)
label row = same-bytes (field row 0 16) (codes "EDF Annotations ")

has-physical : (row : List ℕ) → Decided (HasPhysical row)
has-physical row =
    like (both (physical (field row 104 8))
    (both (physical (field row 112 8)) (differ (field row 104 8) (field row 112 8))))
    (λ p. record { minimum = p.0; maximum = p.1.0; differ = p.1.1 })
    (λ p. (p.minimum, (p.maximum, p.differ)))

has-digital : (row : List ℕ) → Decided (HasDigital row)
has-digital row =
    let low = signed_value (field row 120 8) in
    let high = signed_value (field row 128 8) in
    like (both (both (signed (field row 120 8)) (signed (field row 128 8)))
    (both (at-most-int (neg_ℤ (pos 32_768)) low)
    (both (less-int low high) (at-most-int high (pos 32_767)))))
    (λ p. record { minimum = p.0.0; maximum = p.0.1; from = p.1.0; rises = p.1.1.0; to = p.1.1.1 })
    (λ p. ((p.minimum, p.maximum), (p.from, (p.rises, p.to))))

has-samples : (row : List ℕ) → Decided (HasSamples row)
has-samples row = like (both (whole (field row 216 8)) (at-most 1 (samples row)))
    (λ p. record { whole = p.0; some = p.1 }) (λ p. (p.whole, p.some))

annotations-signal : (row : List ℕ) → Decided (IsAnnotationsSignal row)
annotations-signal row =
    let low = field row 120 8 in
    let high = field row 128 8 in
    like (both (both (label row) (has-physical row))
    (both (both (signed low) (same-int (signed_value low) (neg_ℤ (pos 32_768))))
    (both (signed high) (same-int (signed_value high) (pos 32_767)))))
    (λ p. record {
      label = p.0.0;
      physical = p.0.1;
      minimum = p.1.0.0;
      minimum_is = p.1.0.1;
      maximum = p.1.1.0;
      maximum_is = p.1.1.1;
    })
    (λ p. ((p.label, p.physical), ((p.minimum, p.minimum_is), (p.maximum, p.maximum_is))))

passes : (check : Check) (row : List ℕ) → Decided (Passes check row)
passes Label row = negated (label row)
passes Annotations row = implied (label row) (annotations-signal row)
passes Physical row = implied (negated (label row)) (has-physical row)
passes Digital row = implied (negated (label row)) (has-digital row)
passes Samples row = has-samples row

-- all signals pass a check, or one is the first that does not
pub checked : (check : Check) (ss : List (List ℕ)) → All (Passes check) ss
    ⊎ ((at : ℕ) × IsFirstBad (Passes check) ss at)
checked check ss = first-bad (Passes check) (passes check) ss

-- the annotations signals, and their sizes
pub annotations : (ss : List (List ℕ)) → Decided (HasAnnotations ss)
annotations ss =
    like (both (at-most 1 (length (labelled ss)))
    (both (every IsAnnotationsSignal [] annotations-signal (labelled ss))
    (at-most 1 (length (ordinary ss)))))
    (λ p. record { annotations_some = p.0; annotations = p.1.0; ordinary_some = p.1.1 })
    (λ p. (p.annotations_some, (p.annotations, p.ordinary_some)))

pub too-large : (ss : List (List ℕ)) → Decided (IsTooLarge ss)
too-large ss = either (less MOST_BLOCK_BYTES (2 * samples_in_all (ordinary ss)))
    (less MOST_BLOCK_BYTES (2 * samples_in_all (labelled ss)))
