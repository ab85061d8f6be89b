-- A file is read twice, and another is written of it.
use Rattle.std.specs.Prelude.{◌≡◌, ℕ, List, Option, Some}
use Rattle.std.specs.Io.KnownBytes.{Appends}
use Rattle.std.specs.List.{AllZip}
use Rattle.edf_header.specs.Header.{Layout}
use Rattle.edf_header.specs.Key.{Key}
use Rattle.edf_fragment.specs.Fragment.{DataRecord, IsFragmentFile}
use Rattle.edf_fragment.specs.Whole.{ReadsFragment}
use Rattle.edf_runs.specs.FillAnswers.{IsFilledWithin}
use Rattle.edf_runs.specs.declared.filled.FillLimits.{FillLimits}

-- These data records have the starts and the annotations of some, and the starts and the samples of
-- others.
pub record AreJoined (ones others joined : List DataRecord) : Type 0 where
  pub annotated : AllZip (λ one r. (one.start ≡ r.start) × (one.annotations ≡ r.annotations)) ones
      joined
  pub sampled : AllZip (λ other r. (other.start ≡ r.start) × (other.samples ≡ r.samples)) others
      joined

-- Of the data records of a recording the first reading has the starts and the annotations, and the
-- second the same starts, and the samples; both read the whole input.
pub record IsReadTwice (once again : Option (List ℕ)) (k : Key) (records : List DataRecord) : Type 0
  where
    pub layout : Layout
    pub layout' : Layout
    pub keys : (layout.key ≡ k) × (layout'.key ≡ k)
    pub rest : Option (List ℕ)
    pub rest' : Option (List ℕ)
    pub ones : List DataRecord
    pub others : List DataRecord
    pub read : ReadsFragment once rest layout ones
    pub reread : ReadsFragment again rest' layout' others
    pub joined : AreJoined ones others records

-- Where the same bytes are read both times, they are just those that the bytes spell.
abbrev pub SameIsRead : Type 0
SameIsRead = (bytes : List ℕ) (k : Key) (records : List DataRecord) →
    IsReadTwice (Some bytes) (Some bytes) k records → IsFragmentFile bytes k records

-- The filled file of what was read went out, within these limits.
pub record IsFilledOut (limits : FillLimits) (once again before after : Option (List ℕ)) : Type 0
  where
    pub key : Key
    pub records : List DataRecord
    pub read : IsReadTwice once again key records
    pub file : List ℕ
    pub is_file : IsFilledWithin limits file key records
    pub wrote : Appends before after file
