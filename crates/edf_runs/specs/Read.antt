-- What is read where runs are listed, and where data records are read a second time.
use Rattle.std.specs.Prelude.{◌≡◌, ◌≢◌, ℕ, ◌+◌, ◌≤◌, List, [], length, Option}
use Rattle.std.specs.Io.KnownBytes.{Consumes}
use Rattle.edf_field.specs.Number.{duration_of}
use Rattle.edf_header.specs.Header.{Layout, most_records}
use Rattle.edf_fragment.specs.Fragment.{DataRecord, BeginWithDataRecords}
use Rattle.edf_fragment.specs.Whole.{ReadsFragment}
use Rattle.edf_fragment.specs.declared.advance.Progress.{Progress}
use Rattle.edf_fragment.specs.declared.advance.ReaderState.TheVariants.{Reading}
use Rattle.edf_runs.specs.Runs.{AreListed}
use Rattle.edf_runs.specs.declared.run_list.Listing.{Listing}

-- the whole input was read, and these are the key and the runs of what it spells
pub record ReadsRuns (left rest : Option (List ℕ)) (listing : Listing) : Type 0 where
  pub layout : Layout
  pub records : List DataRecord
  pub read : ReadsFragment left rest layout records
  pub identity : listing.identity ≡ layout.key
  pub listed : AreListed (duration_of layout.key.duration) records listing.runs.items

-- these data records were read next, and no byte more
pub record ReadsOn (l : Layout) (from to : Progress) (left rest : Option (List ℕ))
    (records : List DataRecord) : Type 0 where
  pub going : records ≢ [] → from.state ≡ Reading
  pub bytes : List ℕ
  pub read : Consumes left rest bytes
  pub are_records : BeginWithDataRecords l from.place bytes records to.place []
  pub given : to.given ≡ from.given + length records
  pub within : to.given ≤ most_records l.count
  pub state : to.state ≡ from.state
