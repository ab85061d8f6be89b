-- A writer gets the data records of a source.
use Rattle.std.specs.Prelude.{◌≡◌, ℕ, ◌*◌, ◌⊎◌, List, [], ◌∷◌, ◌++◌, Option, Some, None, Result, Ok}
use Rattle.std.specs.Prelude.{Err, MatchResult}
use Rattle.std.specs.Io.KnownBytes.{Appends}
use Rattle.edf_fragment.specs.Fragment.{DataRecord}
use Rattle.edf_canonical.specs.File.{second_of, record_text}
use Rattle.edf_canonical.specs.Measure.{IsMeasured, IsWithinMeasure, MayBePrefix, records_text}
use Rattle.edf_canonical.specs.Measure.{planned_text}
use Rattle.edf_canonical.specs.Output.{Buffered, Writes, WritesPrefix, CountsOutputFault}
use Rattle.edf_canonical.specs.Source.{At, Answers, Gives}
use Rattle.edf_canonical.specs.declared.fault.OutputFault.{OutputFault}
use Rattle.edf_canonical.specs.declared.fault.OutputFault.TheVariants.{Write}
use Rattle.edf_canonical.specs.declared.fault.SendFault.{SendFault}
use Rattle.edf_canonical.specs.declared.fault.SendFault.TheVariants.{Source, Unlike, Output}
use Rattle.edf_canonical.specs.declared.measure.Measure.{Measure}

-- ---- all of them

module _ {S F R E : Type 0}
    (answers : S → F → R → S → F → R → Result (Option DataRecord) E → Type 0) (from to : At S F R)
    (whole : Measure) where
  -- the source returned all, which have this measure; this holds of them
  pub record SendsAll (Text : List DataRecord → Type 0) : Type 0 where
    pub records : List DataRecord
    pub mid : At S F R
    pub gave : Gives answers from mid records
    pub end : Answers answers mid to (Ok None)
    pub measured : IsMeasured records whole
    pub wrote : Text records

  -- it returned one that can't be among the first of those measured, or ended too early
  abbrev pub IsUnlike : At S F R → List DataRecord → Type 0
  IsUnlike mid records =
      ((r : DataRecord) × Answers answers mid to (Ok (Some r))
      × ¬ MayBePrefix (records ++ r ∷ []) whole)
      ⊎ (Answers answers mid to (Ok None) × ¬ IsMeasured records whole)

  -- the fault after these data records: of the source, of one that is unlike, or of the output;
  -- where the source had ended, they were all, and what was held back could not be written
  abbrev pub StopsFor : At S F R → List DataRecord → SendFault E → Type 0
  StopsFor mid records (Source fault) = Answers answers mid to (Err fault)
  StopsFor mid records Unlike = IsUnlike mid records
  StopsFor mid records (Output fault) = (to ≡ mid)
      ⊎ (Answers answers mid to (Ok None) × IsMeasured records whole × (fault ≡ Write))

  -- the source returned some, which may be the first of those measured; this holds of them
  pub record StopsAfter (Prefix : List DataRecord → Type 0) (fault : SendFault E) : Type 0 where
    pub records : List DataRecord
    pub mid : At S F R
    pub gave : Gives answers from mid records
    pub first : MayBePrefix records whole
    pub why : StopsFor mid records fault
    pub prefix : Prefix records

-- one more write failed where a failed write is the fault
abbrev pub CountsSendFault : {E : Type 0} → ℕ → ℕ → SendFault E → Type 0
CountsSendFault old new (Source fault) = new ≡ old
CountsSendFault old new Unlike = new ≡ old
CountsSendFault old new (Output fault) = CountsOutputFault old new fault

module _ {S F R E : Type 0}
    (answers : S → F → R → S → F → R → Result (Option DataRecord) E → Type 0) (from to : At S F R)
    (whole : Measure) where
  -- all were put, or a prefix of the first of them
  abbrev pub PutsAll : Buffered → Buffered → Result Unit (SendFault E) → Type 0
  PutsAll before after result =
      MatchResult result
      (λ _. SendsAll answers from to whole
      (λ rs. Writes before after (records_text whole rs) after.held)
      × (after.failures ≡ before.failures))
      (λ fault. StopsAfter answers from to whole
      (λ rs. (rest : List ℕ) × Writes before after (records_text whole rs) rest) fault
      × CountsSendFault before.failures after.failures fault)

  -- a header and all of them were written, or a prefix of these; and so many writes failed before
  -- and after
  abbrev pub Sends : Option (List ℕ) → Option (List ℕ) → ℕ → ℕ → List ℕ →
      Result Unit (SendFault E) → Type 0
  Sends before after failed_before failed_after header result =
      MatchResult result
      (λ _. SendsAll answers from to whole
      (λ rs. Appends before after (planned_text header whole rs))
      × (failed_after ≡ failed_before))
      (λ fault. StopsAfter answers from to whole
      (λ rs. WritesPrefix before after (planned_text header whole rs)) fault
      × CountsSendFault failed_before failed_after fault)

-- ---- one more

-- the data record as it is in the file of those that were measured
abbrev pub next_text : Measure → DataRecord → List ℕ
next_text whole r = record_text (second_of whole.first) (2 * whole.block_samples) r

-- one data record more was put, and with it this is measured
pub record IsPutNext (before after : Buffered) (whole : Measure) (records : List DataRecord)
    (r : DataRecord) (m : Measure) : Type 0 where
  pub measured : IsMeasured (records ++ r ∷ []) m
  pub no_more : IsWithinMeasure m whole
  pub wrote : Writes before after (next_text whole r) after.held
  pub counted : after.failures ≡ before.failures

-- or a prefix of it
pub record StopsInNext (before after : Buffered) (whole : Measure) (records : List DataRecord)
    (r : DataRecord) : Type 0 where
  pub first : MayBePrefix (records ++ r ∷ []) whole
  pub remaining : List ℕ
  pub wrote : Writes before after (next_text whole r) remaining

-- or with it they can't be among the first of those that were measured, and it was not put
abbrev pub PutsNext : Buffered → Buffered → Measure → List DataRecord → DataRecord →
    Result (Option Measure) OutputFault → Type 0
PutsNext before after whole records r (Ok (Some m)) = IsPutNext before after whole records r m
PutsNext before after whole records r (Ok None) =
    (after ≡ before) × ¬ MayBePrefix (records ++ r ∷ []) whole
PutsNext before after whole records r (Err fault) =
    StopsInNext before after whole records r
    × CountsOutputFault before.failures after.failures fault
