-- What the steps to a night leave of the store in memory, and what they answer.
use Rattle.std.specs.Prelude.{◌≡◌, ℕ, List, map, length, codes, Option, Some, None, Err, true}
use Rattle.std.specs.List.{AllZip}
use Rattle.sqlite_trees.specs.declared.memory.MemStore.{MemStore}
use Rattle.sqlite.specs.Steps.{over_memory}
use Rattle.edf_header.specs.declared.limits.TheConstants.{MOST_RECORDS}
use Rattle.edf_header.specs.Key.{Key}
use Rattle.edf_fragment.specs.Parsed.{Parsed, ParsesTo}
use Rattle.edf_holdings.specs.Holdings.{Holdings}
use Rattle.edf_holdings.specs.Keys.{AreKeysOf}
use Rattle.edf_holdings.specs.Reply.{reply, replies, after_one, after}
use Rattle.edf_store.specs.Held.{StoreModel, Holds}
use Rattle.edf_store.specs.declared.fault.StoreFault.{StoreFault}
use Rattle.edf_store.specs.declared.fault.StoreFault.TheVariants as fault
use Rattle.edf_intake.specs.Refusal.{Answer, reply_of}
use Rattle.edf_intake.specs.declared.answer.Refusal.TheVariants as refusal
use Rattle.edf_cli.specs.Making.{Making}
use Rattle.edf_cli.specs.Output.{OutputChange}
use Rattle.edf_cli.specs.Text.{IsInstantFormat}
use Rattle.edf_cli.specs.declared.status.Status.TheVariants.{Done}
use Rattle.edf_command.specs.Lines.{list_lines}
use Rattle.edf_export.specs.Headline.{IsOnlyCanonicalFile}
use Rattle.edf_runs.specs.declared.run_list.Listing.{Listing}
use Rattle.edfruns_command.specs.Lines.{each_line}
use Rattle.edfruns_command.specs.Listing.{HasRuns}
use Rattle.edfruns_command.specs.Picturing.{IsPictureOf}
use Rattle.edfruns_command.specs.Run.{Asked, IsDone}
use Rattle.edf_page.specs.Night.{lines_by}
use Rattle.edf_page.specs.Programs.{IsText}
use Rattle.edf_page.specs.declared.given.GivenFile.{GivenFile}
use Rattle.edf_page.specs.declared.stopped.Stopped.{Stopped}
use Rattle.edf_page.specs.declared.stopped.Stopped.TheVariants.{Memory, Store}

-- a store in memory takes as many data records of a recording as a file may have, and holds this
pub record HasIn (store : StoreModel MemStore) (h : Holdings) : Type 0 where
  pub cap_is : store.cap ≡ MOST_RECORDS
  pub holds : Holds over_memory store h

-- it holds what it held
abbrev pub HoldsStill : StoreModel MemStore → StoreModel MemStore → Type 0
HoldsStill old new = (h : Holdings) → HasIn old h → HasIn new h

-- why nothing is given where the store refused; one that was empty has no rows of others
abbrev pub stop_by : StoreFault → Stopped
stop_by fault.Memory = Memory
stop_by refused = Store

-- where an answer says nothing of its file
abbrev pub stop_in : Answer → Option Stopped
stop_in (Err refusal.Read) = Some Memory
stop_in (Err refusal.Memory) = Some Memory
stop_in (Err (refusal.Store met)) = Some (stop_by met)
stop_in answer = None

-- a file was submitted, whatever was held: the answer is the reply to what it tells, and this is
-- held then
abbrev pub Submits : StoreModel MemStore → StoreModel MemStore → List ℕ → Answer → Type 0
Submits old new bytes answer = (h : Holdings) (submission : Parsed) → HasIn old h →
    ParsesTo bytes submission →
    (reply_of answer ≡ Some (reply MOST_RECORDS h submission))
    × HasIn new (after_one MOST_RECORDS h submission)

-- files of these names, which tell these, were taken where h was held, and these are their lines
pub record TakesTold (new : StoreModel MemStore) (lines names : List (List ℕ)) (h : Holdings)
    (submissions : List Parsed) : Type 0 where
  pub answers : List Answer
  pub answered : map reply_of answers ≡ map Some (replies MOST_RECORDS h submissions)
  pub each : length answers ≡ length names
  pub lines_are : (spell : ℕ → List ℕ) → IsInstantFormat spell →
      lines ≡ lines_by spell names answers
  pub has : HasIn new (after MOST_RECORDS h submissions)

-- so whatever was held
abbrev pub Takes : StoreModel MemStore → StoreModel MemStore → List (List ℕ) → List (List ℕ) →
    List (List ℕ) → Type 0
Takes old new lines names files = (h : Holdings) (submissions : List Parsed) → HasIn old h →
    AllZip ParsesTo files submissions → TakesTold new lines names h submissions

-- of these files
abbrev pub TakesGiven : StoreModel MemStore → StoreModel MemStore → List (List ℕ) →
    List GivenFile → Type 0
TakesGiven old new lines files = Takes old new lines (map (λ file. file.name.now) files)
    (map (λ file. file.bytes.now) files)

-- the lines of a store's recordings
pub record ListsHeld (h : Holdings) (text : List ℕ) : Type 0 where
  pub keys : List Key
  pub are_keys : AreKeysOf h keys
  pub lines : (spell : ℕ → List ℕ) → IsInstantFormat spell → text ≡ list_lines spell h 1 keys

-- their files
pub record ExportsHeld (h : Holdings) (files : List (List ℕ)) : Type 0 where
  pub keys : List Key
  pub are_keys : AreKeysOf h keys
  pub each : AllZip (λ k file. IsOnlyCanonicalFile file k (h k)) keys files

-- what lines call it where a command stops
abbrev pub recording_name : List ℕ
recording_name = codes "recording"

-- what was asked for was done of just these bytes, where nothing was written before
pub record IsWrittenOf (asked : Asked) (bytes text : List ℕ) : Type 0 where
  pub made : Making
  pub out : OutputChange
  pub err : OutputChange
  pub done : IsDone (λ _. Some bytes) made out err asked Done
  pub is_text : IsText out text

-- the lines of the runs of a file, and a picture of it
pub record ListsFile (file text : List ℕ) : Type 0 where
  pub listing : Listing
  pub has : HasRuns (Some file) listing
  pub lines : (spell : ℕ → List ℕ) → IsInstantFormat spell →
      text ≡ each_line spell listing.identity listing.runs.items

pub record DrawsFile (file picture : List ℕ) : Type 0 where
  pub listing : Listing
  pub has : HasRuns (Some file) listing
  pub is_picture : IsPictureOf listing.identity true listing.runs.items picture
