-- **What is read of a file**: the relation between its bytes and the key and data records of which
-- the canonical file is written.
use Rattle.std.specs.Prelude.{◌≡◌, ℕ, List, ◌++◌, length, Bool, false, Option, None}
use Rattle.std.specs.Io.KnownBytes.{Consumes, IsAtEnd, Appends}
use Rattle.edf_header.specs.Header.{HeaderRecord, layout_of}
use Rattle.edf_header.specs.Key.{Key}
use Rattle.edf_fragment.specs.Fragment.{DataRecord}
use Rattle.edf_canonical.specs.File.{IsCanonicalFile}
use Rattle.edf_mend.specs.Header.{KeepsHeader}
use Rattle.edf_mend.specs.Body.{BodyReadsAs}
use Rattle.edf_mend.specs.Changes.{FieldChange, changes_of_fixed, changes_of_signals}
use Rattle.edf_mend.specs.Changes.{changes_of_count}
use Rattle.edf_mend.specs.declared.wanted.Wanted.{Wanted}
use Rattle.edf_mend.specs.declared.wanted.Who.TheVariants.{AsNamed}

pub record AsksNothing (w : Wanted) : Type 0 where
  pub who : w.who ≡ AsNamed
  pub startdate : w.startdate ≡ None
  pub starttime : w.starttime ≡ None
  pub all : w.all ≡ false

-- The file reads as this key and these data records. Some bytes behind them are left out.
pub record Mends (w : Wanted) (file : List ℕ) (key : Key) (records : List DataRecord)
    (left_out : ℕ) : Type 0 where
  pub first : List ℕ
  pub second : List ℕ
  pub body : List ℕ
  pub timed : Bool
  pub h : HeaderRecord
  pub parts : file ≡ first ++ (second ++ body)
  pub header : KeepsHeader w first second timed h
  pub key_is : key ≡ (layout_of h).key
  pub records_are : BodyReadsAs w timed first header.n (layout_of h) body records left_out

-- The changes are all fields of the header that differ in the good form.
abbrev pub ListsHeader : {w : Wanted} {first second : List ℕ} {timed : Bool} {h : HeaderRecord} →
    KeepsHeader w first second timed h → List FieldChange → Type 0
ListsHeader {w} {first} {second} {timed} {h} x changes = changes ≡ changes_of_fixed first x.strict
    ++ changes_of_signals x.n second h.fixed.signal_count x.strict_signals x.n

-- The file becomes the canonical file of what is read of it. What differs in the header is listed,
-- what differs in annotations, and the count.
pub record MendsFile (w : Wanted) (old new : List ℕ) (changes : List FieldChange) (left_out : ℕ) :
    Type 0 where
  pub key : Key
  pub records : List DataRecord
  pub mends : Mends w old key records left_out
  pub canonical : IsCanonicalFile new key records
  pub header_changes : List FieldChange
  pub lists : ListsHeader mends.header header_changes
  pub changes_are : changes ≡ header_changes
      ++ (mends.records_are.changes ++ changes_of_count mends.first (length records))

-- A whole input was read, and its file went out.
pub record MendsTo (w : Wanted) (input remaining before after : Option (List ℕ))
    (changes : List FieldChange) (left_out : ℕ) : Type 0 where
  pub old : List ℕ
  pub new : List ℕ
  pub read : Consumes input remaining old
  pub end : IsAtEnd remaining
  pub mends : MendsFile w old new changes left_out
  pub wrote : Appends before after new
