-- The cut file of a recording, by two readings of it.
use Rattle.std.specs.Prelude.{◌≡◌, ◌≢◌, ◌⊎◌, ℕ, List, [], length, Option, Some, None, IfSome}
use Rattle.std.specs.Io.KnownBytes.{Appends, Keeps}
use Rattle.edf_field.specs.Number.{duration_of}
use Rattle.edf_header.specs.Header.{Layout}
use Rattle.edf_header.specs.Key.{Key, MayStart}
use Rattle.edf_fragment.specs.Fragment.{DataRecord, IsFragmentFile}
use Rattle.edf_fragment.specs.Sound.{AreSoundFrom}
use Rattle.edf_fragment.specs.Whole.{ReadsFragment}
use Rattle.edf_canonical.specs.Measure.{IsMeasured}
use Rattle.edf_canonical.specs.Output.{WritesPrefix}
use Rattle.edf_runs.specs.Cut.{between, IsCutFile}
use Rattle.edf_runs.specs.Outline.{IsOutline}
use Rattle.edf_runs.specs.Twice.{AreJoined}
use Rattle.edf_runs.specs.declared.cut.Cut.{Cut}
use Rattle.edf_runs.specs.declared.fault.WriteFault.{WriteFault}
use Rattle.edf_runs.specs.declared.fault.WriteFault.TheVariants.{Undated, Changed}
use Rattle.edf_runs.specs.declared.outline.Outline.{Outline}

-- The outline has no data record of a time, or the plan is of those that it has.
abbrev pub IsPlanOf : ℕ → ℕ → List DataRecord → Option Cut → Type 0
IsPlanOf from to taken None = taken ≡ []
IsPlanOf from to taken (Some cut) = (cut.window.from ≡ from) × (cut.window.to ≡ to)
    × IsMeasured taken cut.measure

abbrev pub IsCutPlan : Outline → ℕ → ℕ → Option Cut → Type 0
IsCutPlan outline from to plan = IfSome plan (λ cut. cut.outline.now ≡ outline)
    × ((k : Key) (records : List DataRecord) → IsOutline k records outline →
    IsPlanOf from to (between (duration_of k.duration) from to records) plan)

-- The whole input was read again, and the cut file went out, with the starts and annotations of the
-- outline's data records and the samples of those that were read.
pub record IsCutWritten (again rest before after : Option (List ℕ)) (cut : Cut) (k : Key)
    (ones : List DataRecord) (len : ℕ) : Type 0 where
  pub layout : Layout
  pub same : layout.key ≡ k
  pub others : List DataRecord
  pub read : ReadsFragment again rest layout others
  pub records : List DataRecord
  pub joined : AreJoined ones others records
  pub sound : AreSoundFrom k 0 records
  pub file : List ℕ
  pub is_file : IsCutFile file k records cut.window.from cut.window.to
  pub wrote : Appends before after file
  pub len_is : len ≡ length file

module _ (again before after : Option (List ℕ)) (cut : Cut) (fault : WriteFault) where
  -- Of an input that still is a file with the starts of the outline's data records nothing went
  -- out, or a prefix of the cut file; and it is not told as one that changed.
  abbrev pub StopsUnchanged : Type 0
  StopsUnchanged = (bytes : List ℕ) (k : Key) (ones others records : List DataRecord) →
      again ≡ Some bytes → IsFragmentFile bytes k others → IsOutline k ones cut.outline.now →
      AreJoined ones others records → IsMeasured
      (between (duration_of k.duration) cut.window.from cut.window.to ones) cut.measure →
      (fault ≢ Changed)
      × (Keeps before after ⊎ ((file : List ℕ)
      × IsCutFile file k records cut.window.from cut.window.to × WritesPrefix before after file))

  -- Why the file did not go out whole. Nothing of it did where no header can name its start. The
  -- output only grew.
  pub record IsCutUnwritten : Type 0 where
    pub grows : (text : List ℕ) × Appends before after text
    pub undated : fault ≡ Undated → Keeps before after
        × ¬ MayStart cut.outline.now.identity cut.measure.first
    pub unchanged : StopsUnchanged
