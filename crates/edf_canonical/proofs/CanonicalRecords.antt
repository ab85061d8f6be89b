-- Sound records: their canonical file is read again.
use Rattle.std.proofs.Common.{◌≡◌, ℕ, ◌+◌, ◌-◌, ◌*◌, ◌^◌, ◌≤◌, ◌<◌, List, [], ◌∷◌, ◌++◌, length}
use Rattle.std.proofs.Common.{sym, subst, replicate, All}
use Rattle.std.proofs.lemmas.List.Elements.{All-head, All-tail}
use Rattle.std.specs.List.{AllByRecursion}
use Rattle.edf_tal.proofs.Cited.{read-first, read-after, read-any}
use Rattle.edf_time.specs.Civil.{window}
use Rattle.edf_field.specs.Number.{duration_of}
use Rattle.edf_header.specs.Signal.{samples_in_all}
use Rattle.edf_header.specs.Header.{Layout}
use Rattle.edf_tal.specs.Tal.{Annotation, IsValidAnnotation}
use Rattle.edf_tal.specs.Block.{BlockParsesTo, IsWithinLimits}
use Rattle.edf_tal.specs.Canonical.{tals_text}
use Rattle.edf_tal.specs.declared.place.Place.{Place}
use Rattle.edf_tal.specs.declared.place.Place.TheVariants.{First, After, Any}
use Rattle.edf_fragment.specs.Fragment.{DataRecord, IsDataRecord, place_after}
use Rattle.edf_canonical.specs.File.{block_of, record_text}
use Rattle.edf_fragment.specs.Sound.{IsSoundRecord, AreSoundFrom}
use Rattle.edf_canonical.proofs.Records.{AreReadable, one_block, record-read}

-- where a record that starts at `start` may be in a file that starts at `base`
abbrev pub MayStand : Place → ℕ → ℕ → Type 0
MayStand First base start = (base ≤ start) × (start < base + 10 ^ 9)
MayStand (After before duration) base start = before + duration ≤ start
MayStand Any base start = Unit {0}

-- a written block is read again
again : (place : Place) (base start zeros : ℕ) (list : List Annotation) →
    MayStand place base start → start < window → base < window
    → IsWithinLimits list → AllByRecursion IsValidAnnotation list →
    BlockParsesTo (tals_text base start list ++ replicate zeros 0) base place start list
again First base start zeros list stands start-in base-in limits notes =
    read-first base start zeros list base-in start-in notes limits stands.0 stands.1
again (After before duration) base start zeros list stands start-in base-in limits notes =
    read-after base start zeros before duration list base-in start-in notes limits stands
again Any base start zeros list stands start-in base-in limits notes =
    read-any base start zeros list base-in start-in notes limits

-- the layout of a canonical file that starts at `base`
pub record IsCanonicalLayout (l : Layout) (base size : ℕ) : Type 0 where
  pub start : l.start ≡ base
  pub in_window : base < window
  pub blocks : l.blocks ≡ one_block (2 * samples_in_all l.key.signals) size
  pub record_bytes : l.record_bytes ≡ 2 * samples_in_all l.key.signals + size

readable : (l : Layout) (place : Place) (base size : ℕ) (r : DataRecord) →
    IsCanonicalLayout l base size → IsSoundRecord l.key r
    → MayStand place base r.start → length (block_of base r) ≤ size →
    IsDataRecord l place (record_text base size r) r
readable l place base size r is e stands fits =
    record-read l place base (2 * samples_in_all l.key.signals) size r e.samples_len is.blocks
    is.record_bytes fits
    (subst (λ (n : ℕ). BlockParsesTo
    (block_of base r ++ replicate (size - length (block_of base r)) 0) n
    place r.start r.annotations) (sym is.start)
    (again place base r.start (size - length (block_of base r)) r.annotations stands e.start
    is.in_window e.limits e.notes))

readable-after : (l : Layout) (before base size : ℕ) (rs : List DataRecord) →
    IsCanonicalLayout l base size
    → AreSoundFrom l.key (before + duration_of l.key.duration) rs →
    All (λ r. length (block_of base r) ≤ size) rs →
    AreReadable l (place_after l before) base size rs
readable-after l before base size [] is are fit = tt
readable-after l before base size (r ∷ rs) is (e, low, more) fit = (
  readable l (place_after l before) base size r is e low
      (All-head (λ x. length (block_of base x) ≤ size) r rs fit),
  readable-after l r.start base size rs is more
      (All-tail (λ x. length (block_of base x) ≤ size) r rs fit),
)

pub are-readable : (l : Layout) (base size low : ℕ) (r : DataRecord) (rs : List DataRecord) →
    IsCanonicalLayout l base size
    → AreSoundFrom l.key low (r ∷ rs) → (base ≤ r.start) × (r.start < base + 10 ^ 9) →
    All (λ x. length (block_of base x) ≤ size) (r ∷ rs)
    → AreReadable l First base size (r ∷ rs)
are-readable l base size low r rs is (e, lower, more) stands fit = (
  readable l First base size r is e stands
      (All-head (λ x. length (block_of base x) ≤ size) r rs fit),
  readable-after l r.start base size rs is more
      (All-tail (λ x. length (block_of base x) ≤ size) r rs fit),
)
