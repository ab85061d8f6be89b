-- What the command does: what it makes and writes, the status that it answers, and which file it
-- opens.
use Rattle.std.specs.Prelude.{◌≡◌, ◌⊎◌, ℕ, ◌+◌, ◌==◌, List, [], ◌∷◌, ◌++◌, length, Option, Some}
use Rattle.std.specs.Prelude.{None, IfSome, option_map, string_bytes, Bool, true, false}
use Rattle.std.specs.Prelude.{if◌then◌else◌, codes, ◌≤◌}
use Rattle.std.specs.Bool.{MatchBool}
use Rattle.std.specs.List.{flat_map}
use Rattle.edf_header.specs.Key.{Key}
use Rattle.edf_fragment.specs.Fragment.{DataRecord, IsFragmentFile}
use Rattle.edf_fragment.specs.Fault.{fragment_fault_number}
use Rattle.edf_canonical.specs.File.{IsCanonicalFile}
use Rattle.edf_mend.specs.Changes.{FieldChange}
use Rattle.edf_mend.specs.Mends.{AsksNothing, MendsFile}
use Rattle.edf_mend.specs.declared.fault.MendFault.{MendFault}
use Rattle.edf_mend.specs.declared.fault.MendFault.TheVariants as fault
use Rattle.edf_mend.specs.declared.mending.Mended.{Mended}
use Rattle.edf_mend.specs.declared.wanted.Wanted.{Wanted}
use Rattle.edf_cli.specs.Output.{OutputChange, Gets, IsWritten, Explains}
use Rattle.edf_cli.specs.Text.{there_line}
use Rattle.edf_cli.specs.declared.status.Status.{Status}
use Rattle.edf_cli.specs.declared.status.Status.TheVariants.{Done, Refused, Trouble}
use Rattle.edf_cli.specs.Made.{MadeFile, finished, removed, not_removed}
use Rattle.edf_cli.specs.Making.{Making, MakesNothing}
use Rattle.edf_cli.specs.There.{IsVacant, MayBeThere}
use Rattle.edf_cli.specs.Status.{status_of_number}
use Rattle.edfmend_command.specs.declared.mend_command.MendCommand.{MendCommand}

-- A command asks for this: the file to mend, the new one, or none where the changes are only told,
-- and what a person says of it.
pub record Asked : Type 0 where
  pub input : List ℕ
  pub output : Option (List ℕ)
  pub wanted : Wanted

abbrev pub meaning : MendCommand → Asked
meaning command = record {
  input = string_bytes command.input;
  output = option_map string_bytes command.output;
  wanted = command.wanted;
}

-- The bytes are a good file.
abbrev pub IsGood : List ℕ → Type 0
IsGood file = (key : Key) × (records : List DataRecord) × IsFragmentFile file key records

-- They are none, or something is asked of them.
abbrev pub IsToMend : Option (List ℕ) → Wanted → Type 0
IsToMend bytes w = IfSome bytes (λ file. AsksNothing w → ¬ IsGood file)

-- A good file of which nothing is asked becomes its own canonical file.
pub record StaysFile (w : Wanted) (old new : List ℕ) (mended : Mended) : Type 0 where
  pub nothing : AsksNothing w
  pub key : Key
  pub records : List DataRecord
  pub good : IsFragmentFile old key records
  pub canonical : IsCanonicalFile new key records
  pub same : mended.changes.items ≡ []
  pub whole : mended.left_out ≡ 0

-- `new` is the file of these bytes, mended: that file, or what is read of any other leniently.
pub record IsMendedFile (bytes : Option (List ℕ)) (w : Wanted) (is_good : Bool) (mended : Mended)
    (new : List ℕ) : Type 0 where
  pub old : List ℕ
  pub old_is : IfSome bytes (λ known. known ≡ old)
  pub made : MatchBool is_good (StaysFile w old new mended)
      (IsToMend bytes w × MendsFile w old new mended.changes.items mended.left_out)

-- There is none: a good file of which nothing is asked is refused only for trouble.
abbrev pub IsTrouble : MendFault → Type 0
IsTrouble why = (why ≡ fault.Read) ⊎ ((why ≡ fault.Memory) ⊎ (why ≡ fault.Write))

abbrev pub IsNotMended : Option (List ℕ) → Wanted → MendFault → Type 0
IsNotMended bytes w why = IfSome bytes (λ file. AsksNothing w → IsGood file → IsTrouble why)

-- These are so many lines, each of which ends with byte 10.
abbrev pub AreLines : ℕ → List ℕ → Type 0
AreLines n text = (lines : List (List ℕ)) × (length lines ≡ n)
    × (text ≡ flat_map (λ line. line ++ (10 ∷ [])) lines)

-- Where no field differs and no bytes are left out, one line says which of both the file is.
abbrev pub one_line : Bool → List ℕ → List ℕ
one_line true name = name ++ codes " needs nothing\n"
one_line false name = name ++ codes " differs in fill at most\n"

-- A ledger has a line for each field that differs, and one for bytes left out; or that one.
abbrev pub line_count : List FieldChange → ℕ → ℕ
line_count changes left_out =
    if left_out == 0 then length changes else length changes + 1

abbrev pub IsLedger : Bool → List ℕ → List FieldChange → ℕ → List ℕ → Type 0
IsLedger is_good name changes left_out text =
    ((1 ≤ line_count changes left_out) × AreLines (line_count changes left_out) text)
    ⊎ ((changes ≡ []) × (left_out ≡ 0) × (text ≡ one_line is_good name))

-- All lines went out; or not all, and a line says so.
abbrev pub IsLine : List ℕ → Type 0
IsLine text = (line : List ℕ) × (1 ≤ length line) × (text ≡ line ++ (10 ∷ []))

abbrev pub IsLedgerPrinted : OutputChange → OutputChange → Bool → List ℕ → Mended → Status → Type 0
IsLedgerPrinted out err is_good name mended status = (text : List ℕ)
    × ((IsLedger is_good name mended.changes.items mended.left_out text × Gets out text
    × Gets err [] × (status ≡ Done)) ⊎ (IsLine text × IsWritten err text Trouble status))

-- 1 for what the file or the words are, 3 for what failed
abbrev pub why_status : MendFault → Status
why_status (fault.Refused met) = status_of_number (fragment_fault_number met)
why_status fault.Check = Trouble
why_status fault.Changed = Trouble
why_status fault.Read = Trouble
why_status fault.Memory = Trouble
why_status fault.Write = Trouble
why_status why = Refused

-- a line says why a file is not mended, or that memory ran out; one more names a part of the new
-- file that is left, which is trouble
abbrev pub left_line : Bool → List ℕ → List ℕ
left_line true name = name ++ codes ".part could not be removed\n"
left_line false name = []

abbrev pub SaysWhy : OutputChange → List ℕ → MendFault → Bool → Status → Type 0
SaysWhy err name why is_left status = (line : List ℕ) × (1 ≤ length line)
    × (IsWritten err (line ++ (10 ∷ left_line is_left name)) (why_status why) status
    ⊎ IsWritten err (line ++ (10 ∷ left_line is_left name)) Trouble status)
    × (is_left ≡ true → status ≡ Trouble)

-- nothing was made, or just a part of a file of this name, which was removed again, or is left
abbrev pub LeavesPart : List MadeFile → List MadeFile → List ℕ → Bool → Type 0
LeavesPart before after name is_left = ((after ≡ before) × (is_left ≡ false))
    ⊎ ((part : MadeFile) × (part.name ≡ name) × (part.whole ≡ false) × MatchBool is_left
    (after ≡ before ++ (not_removed part ∷ [])) (after ≡ before ++ (removed part ∷ [])))

module _ (out err : OutputChange) (file : List ℕ) (bytes : Option (List ℕ)) (w : Wanted)
    (status : Status) where
  -- the file was mended to these bytes, and its ledger printed
  pub record IsMended (new : List ℕ) : Type 0 where
    pub is_good : Bool
    pub mended : Mended
    pub is_mended : IsMendedFile bytes w is_good mended new
    pub printed : IsLedgerPrinted out err is_good file mended status

  -- it was not, and a line says why, or one more names the part of the new file that is left
  pub record IsRefused (name : List ℕ) (is_left : Bool) : Type 0 where
    pub why : MendFault
    pub is_why : IsNotMended bytes w why
    pub unsaid : Gets out []
    pub said : SaysWhy err name why is_left status

  module _ (m : Making) (name : List ℕ) where
    -- there is something of that name, and nothing was made
    pub record FindsName : Type 0 where
      pub taken : MayBeThere m.there name
      pub nothing : MakesNothing m
      pub said : Explains out err (there_line name) Refused status

    -- the mended file is there under that name with just its bytes, and no other was made; it stays
    -- there where its ledger can't be printed whole
    pub record MakesMended : Type 0 where
      pub new : List ℕ
      pub is_mended : IsMended new
      pub free : IsVacant m.there name
      pub held : Option (List ℕ)
      pub made : m.after ≡ m.before ++ (finished name held ∷ [])
      pub holds : m.known ≡ true → held ≡ Some new

    -- there is none, and nothing of it is left, if it could be removed
    pub record MakesNoFile : Type 0 where
      pub is_left : Bool
      pub is_refused : IsRefused name is_left
      pub free : IsVacant m.there name
      pub leaves : LeavesPart m.before m.after name is_left

-- by what makes files, the two writers, the file's name and the bytes that it stands for, and the
-- new name
abbrev pub IsDoneTo : Making → OutputChange → OutputChange → List ℕ → Option (List ℕ) → Wanted →
    Option (List ℕ) → Status → Type 0
IsDoneTo m out err file bytes w None status = MakesNothing m
    × (((new : List ℕ) × IsMended out err file bytes w status new)
    ⊎ IsRefused out err file bytes w status file false)
IsDoneTo m out err file bytes w (Some name) status = FindsName out err file bytes w status m name
    ⊎ (MakesMended out err file bytes w status m name
    ⊎ MakesNoFile out err file bytes w status m name)

abbrev pub IsMendDone : Making → OutputChange → OutputChange → Option (List ℕ) → Asked → Status →
    Type 0
IsMendDone m out err bytes asked status =
    IsDoneTo m out err asked.input bytes asked.wanted asked.output status
