-- Words of private contracts.
use Rattle.std.specs.Prelude.{◌≡◌, ℕ, ◌+◌, ◌<◌, List, ◌++◌, length, map, Option, Result, IfOk}
use Rattle.std.specs.Prelude.{MatchOption}
use Rattle.std.specs.List.{flat_map}
use Rattle.std.specs.Io.KnownBytes.{Consumes, IsAtEnd}
use Rattle.edf_header.specs.Header.{Layout, HeaderRecord, layout_of}
use Rattle.edf_tal.specs.declared.place.Place.TheVariants.{First}
use Rattle.edf_fragment.specs.Fragment.{DataRecord, blocks, ordinary_bytes, place_after}
use Rattle.edf_fragment.specs.Sound.{IsValidRecord}
use Rattle.edf_fragment.specs.declared.streams.Input.{Ghosts}
use Rattle.edf_mend.specs.Changes.{FieldChange}
use Rattle.edf_mend.specs.Body.{BlocksReadAs, record_size, RecordReadsAs}
use Rattle.edf_mend.specs.Header.{KeepsFields, KeepsHeader}
use Rattle.edf_mend.specs.Mends.{ListsHeader}
use Rattle.edf_mend.specs.declared.fault.MendFault.{MendFault}
use Rattle.edf_mend.specs.declared.header.GoodFixed.{GoodFixed}
use Rattle.edf_mend.specs.declared.opening.Opened.{Opened}
use Rattle.edf_mend.specs.declared.reading.LenientFile.{LenientFile}
use Rattle.edf_mend.specs.declared.reading.LenientSource.{LenientSource}
use Rattle.edf_mend.specs.declared.record.GoodRecord.{GoodRecord}
use Rattle.edf_mend.specs.declared.wanted.Wanted.{Wanted}

abbrev pub IsGoodFixed : Wanted → List ℕ → GoodFixed → Type 0
IsGoodFixed w first good =
    KeepsFields w first good.patient good.text.items good.date good.time good.duration.items

pub record OpensLeniently (w : Wanted) (input remaining : Option (List ℕ)) (o : Opened) : Type 0
  where
    pub second : List ℕ
    pub h : HeaderRecord
    pub read : Consumes input remaining (o.first ++ second)
    pub header : KeepsHeader w o.first second o.file.timed h
    pub number : header.n ≡ o.signals
    pub lists : ListsHeader header o.file.changes.items
    pub layout : o.file.header ≡ layout_of h
    pub place : o.file.place ≡ First
    pub given : o.file.given ≡ 0

-- These are the samples of a data record, and the good form of its blocks.
pub record IsGoodRecord (l : Layout) (nth : ℕ) (bytes : List ℕ) (good : GoodRecord) : Type 0 where
  pub samples : good.samples.items ≡ ordinary_bytes l bytes
  pub read : List (List ℕ)
  pub each : BlocksReadAs nth l.blocks (blocks l bytes) read good.changes.items
  pub joined : good.joined.items ≡ flat_map (λ b. b) read
  pub sizes : good.sizes.items ≡ map length read

-- A reading gave one data record more.
pub record ReadsRecord (old new : LenientFile) (input remaining : Option (List ℕ))
    (r : DataRecord) : Type 0 where
  pub bytes : List ℕ
  pub read : Consumes input remaining bytes
  pub len : length bytes ≡ record_size old.timed old.header
  pub changes : List FieldChange
  pub is_read : RecordReadsAs old.timed old.header old.place (old.given + 1) bytes r changes
  pub changes_are : new.changes.items ≡ old.changes.items ++ changes
  pub given : new.given ≡ old.given + 1
  pub valid : IsValidRecord r
  pub place : new.place ≡ place_after old.header r.start

-- Or it is the end, and what is left out.
pub record ReadsEnd (old new : LenientFile) (input remaining : Option (List ℕ)) : Type 0 where
  pub tail : List ℕ
  pub read : Consumes input remaining tail
  pub end : IsAtEnd remaining
  pub less : length tail < record_size old.timed old.header
  pub left_out : new.left_out ≡ length tail
  pub changes : new.changes.items ≡ old.changes.items

module _ {R : Type 0} (g : Ghosts R) where
  pub record ReadsLeniently (from : LenientSource) (old : LenientFile) (input : R)
      (to : LenientSource) (new : LenientFile) (remaining : R)
      (answer : Result (Option DataRecord) MendFault) : Type 0 where
    pub header : new.header ≡ old.header
    pub timed : new.timed ≡ old.timed
    pub answers : IfOk answer (λ found. MatchOption found
        (ReadsEnd old new (g.remaining input) (g.remaining remaining))
        (ReadsRecord old new (g.remaining input) (g.remaining remaining)))
