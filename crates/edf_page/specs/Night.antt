-- What comes of files in a page. They are taken in turn into a store that holds nothing; of all
-- that it then holds there are the lines and, recording by recording, the file, its runs and a
-- picture.
use Rattle.std.specs.Prelude.{◌≡◌, ℕ, List, [], ◌∷◌, ◌++◌, length, map, codes, Some, true}
use Rattle.std.specs.List.{AllZip, flat_map, zip}
use Rattle.edf_field.specs.Number.{duration_of}
use Rattle.edf_header.specs.declared.limits.TheConstants.{MOST_RECORDS}
use Rattle.edf_header.specs.Key.{Key}
use Rattle.edf_fragment.specs.Fragment.{DataRecord}
use Rattle.edf_fragment.specs.Parsed.{Parsed, ParsesTo}
use Rattle.edf_holdings.specs.Holdings.{Holdings, nothing_held}
use Rattle.edf_holdings.specs.Keys.{AreKeysOf}
use Rattle.edf_holdings.specs.Reply.{after, replies}
use Rattle.edf_intake.specs.Refusal.{Answer, reply_of}
use Rattle.edf_cli.specs.Text.{IsInstantFormat}
use Rattle.edf_command.specs.Lines.{take_line, list_lines}
use Rattle.edf_export.specs.Headline.{IsOnlyCanonicalFile}
use Rattle.edf_runs.specs.Runs.{AreListed}
use Rattle.edf_runs.specs.declared.run.Run.{Run}
use Rattle.edfruns_command.specs.Lines.{each_line}
use Rattle.edfruns_command.specs.Picturing.{IsPictureOf}
use Rattle.edf_page.specs.declared.stopped.Stopped.{Stopped}
use Rattle.edf_page.specs.declared.stopped.Stopped.TheVariants.{Memory, Store}
use Rattle.edf_page.specs.declared.night.GivenNight.{GivenNight}
use Rattle.edf_page.specs.declared.night.Recording.{Recording}

-- ---- the files, in turn

-- the answers are the replies to the files, of which each meets what those before it left, where at
-- first nothing is held
abbrev pub AreAnswered : List Parsed → List Answer → Type 0
AreAnswered submissions answers =
    map reply_of answers ≡ map Some (replies MOST_RECORDS nothing_held submissions)

-- what is held then
abbrev pub held_after : List Parsed → Holdings
held_after submissions = after MOST_RECORDS nothing_held submissions

-- a line for each file, in their order: joined they are the lines of `edfstore take`
abbrev pub lines_by : (ℕ → List ℕ) → List (List ℕ) → List Answer → List (List ℕ)
lines_by spell names answers = map (λ p. take_line spell p.0 p.1) (zip names answers)

-- each file has its line, by its name, as `edfstore take` has it
pub record AreTaken (names : List (List ℕ)) (submissions : List Parsed)
    (lines : List (List ℕ)) : Type 0
  where
    pub answers : List Answer
    pub answered : AreAnswered submissions answers
    pub each : (spell : ℕ → List ℕ) → IsInstantFormat spell → lines ≡ lines_by spell names answers

-- ---- the recordings

-- the lines of a recording's runs, each with the recording's codes, as `edfruns list` has them
pub record AreRunLines (k : Key) (records : List DataRecord) (lines : List ℕ) : Type 0 where
  pub runs : List Run
  pub are_runs : AreListed (duration_of k.duration) records runs
  pub are_lines : (spell : ℕ → List ℕ) → IsInstantFormat spell → lines ≡ each_line spell k runs

-- a picture of this recording, with its codes and the times of the runs of its data records, as
-- `edfruns picture` draws one
pub record HasPicture (k : Key) (records : List DataRecord) (picture : List ℕ) : Type 0 where
  pub runs : List Run
  pub are_runs : AreListed (duration_of k.duration) records runs
  pub is_picture : IsPictureOf k true runs picture

-- the recording of a key: the one file of what is held, its runs and its picture
pub record IsRecording (h : Holdings) (k : Key) (r : Recording) : Type 0 where
  pub is_file : IsOnlyCanonicalFile r.file.items k (h k)
  pub runs : AreRunLines k (h k) r.runs.items
  pub picture : HasPicture k (h k) r.picture.items

-- each recording that is held has its line, as `edfstore list` has it, and in the same order each
-- is given
pub record AreGiven (h : Holdings) (listed : List ℕ) (recordings : List Recording) : Type 0 where
  pub keys : List Key
  pub are_keys : AreKeysOf h keys
  pub lines : (spell : ℕ → List ℕ) → IsInstantFormat spell → listed ≡ list_lines spell h 1 keys
  pub each : AllZip (IsRecording h) keys recordings

-- ---- all of it

abbrev pub taken_lines : GivenNight → List (List ℕ)
taken_lines night = map (λ line. line.items) night.taken.items

-- what comes of files of these names, which have these bytes: by a law they tell one list alone,
-- and two such nights differ in pictures at most
pub record IsNight (names files : List (List ℕ)) (night : GivenNight) : Type 0 where
  pub each : length names ≡ length files
  pub submissions : List Parsed
  pub parsed : AllZip ParsesTo files submissions
  pub taken : AreTaken names submissions (taken_lines night)
  pub given : AreGiven (held_after submissions) night.listed.items night.recordings.items

-- ---- why nothing is given

-- the line of `edfstore` where its store can't be opened: of E41 or E42
abbrev pub stopped_line : Stopped → List ℕ
stopped_line Memory = codes "store refused E41 Memory\n"
stopped_line Store = codes "store refused E42 Store\n"

-- ---- one piece after another

abbrev pub pieces_of_one : Recording → List (List ℕ)
pieces_of_one r = r.file.items ∷ r.runs.items ∷ r.picture.items ∷ []

-- its pieces, in the order in which they are laid down
abbrev pub pieces_of : GivenNight → List (List ℕ)
pieces_of night = taken_lines night
    ++ (night.listed.items ∷ flat_map pieces_of_one night.recordings.items)
