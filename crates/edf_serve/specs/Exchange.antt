-- A line of a session and its answer: what its command does, what goes out, and what comes after.
use Rattle.std.specs.Prelude.{◌≡◌, ◌⊎◌, ◌<◌, ◌≤◌, ℕ, Bool, true, false, List, [], ◌∷◌, ◌++◌, length}
use Rattle.std.specs.Prelude.{Option, Some, None, cond, codes, IsTrue}
use Rattle.sqlite_trees.specs.declared.store.Store.{Ghosts}
use Rattle.edf_store.specs.Fault.{number, store_fault_name}
use Rattle.edf_store.specs.Held.{StoreModel, at}
use Rattle.edf_store.specs.declared.fault.StoreFault.TheVariants.{Store}
use Rattle.edf_intake.specs.declared.answer.Receipt.{Receipt}
use Rattle.edf_command.specs.Lines.{accepted_line}
use Rattle.edf_command.specs.Listing.{AreRecordingsListed}
use Rattle.edf_cli.specs.Output.{IsWritten}
use Rattle.edf_cli.specs.Text.{refused_line}
use Rattle.edf_cli.specs.declared.status.Status.{Status}
use Rattle.edf_cli.specs.declared.status.Status.TheVariants.{Done, Usage, Trouble}
use Rattle.edf_serve.specs.Client.{GetsAnswer, looked, IsIdle, status_line}
use Rattle.edf_serve.specs.Line.{LineAsked, IsRead}
use Rattle.edf_serve.specs.Line.LineAsked.{take, list}
use Rattle.edf_serve.specs.Lines.{whole_lines}
use Rattle.edf_serve.specs.Taking.{IsTaken}
use Rattle.edf_serve.specs.Work.{Point, Work, grown, EndsAs, OnlyWrites}
use Rattle.edf_serve.specs.declared.answering.Answered.{Answered}
use Rattle.edf_serve.specs.declared.answering.End.{End}
use Rattle.edf_serve.specs.declared.answering.End.TheVariants.{TooLong, Stopped, Lost, Unwritten}
use Rattle.edf_serve.specs.declared.room.Outcome.{Outcome}
use Rattle.edf_serve.specs.declared.room.Outcome.TheVariants as outcome

-- the line, what it asks for, the work of that, and how it was answered
pub record Exchange (S : Type 0) : Type 0 where
  pub line : List ℕ
  pub asked : Option LineAsked
  pub work : Work S
  pub answered : Answered

-- what the command of a line does, before anything goes out
abbrev pub IsWorked : {S : Type 0} → Ghosts S → Option (List ℕ) → Work S → Option LineAsked →
    Type 0
IsWorked g folder w None = OnlyWrites w (λ out status.
    IsWritten out (codes "no such command" ++ (10 ∷ [])) Usage status)
IsWorked g folder w (Some (take name)) = IsTaken g w name folder
IsWorked g folder w (Some list) =
    (w.new ≡ record w.old { store = w.new.store; out = w.new.out; why = w.new.why })
    × EndsAs w (AreRecordingsListed g w.old.store w.new.store (grown w.old.out w.new.out)
    (grown w.old.why w.new.why))

-- What comes after a command that accepted no file. The session goes on over a store in no
-- transaction, or ends after a line that was too long; or it is stopped, with trouble: memory ran
-- out or the store refused, or is in a transaction.
abbrev pub IsAfterTold : {S : Type 0} → Ghosts S → StoreModel S → List ℕ → Status → Bool →
    Status → Option End → Type 0
IsAfterTold g store line told is_stopped status None = (status ≡ told)
    × (is_stopped ≡ false) × IsIdle g store × (length line ≤ 65536)
IsAfterTold g store line told is_stopped status (Some TooLong) = (status ≡ told)
    × (is_stopped ≡ false) × IsIdle g store × (65536 < length line)
IsAfterTold g store line told is_stopped status (Some Stopped) = (status ≡ Trouble)
    × (IsTrue (at g store).in_transaction ⊎ (is_stopped ≡ true))
IsAfterTold g store line told is_stopped status other = ⊥

module _ {S : Type 0} (g : Ghosts S) (x : Exchange S) (b : Point S) where
  -- Whole lines, and behind them the line of the status, go out to the client. The session goes on
  -- or ends so, or ends since not all of that went out.
  pub record TellsAnswer (lines : List ℕ) (status : Status) (goes : Option End) : Type 0 where
    pub whole : lines ≡ whole_lines lines
    pub is_out : Bool
    pub went : GetsAnswer x.work.new.heard b.heard (lines ++ status_line status) is_out
    pub answered : x.answered ≡ record {
      status = status;
      after = cond is_out goes (Some Unwritten);
    }

  -- its lines go out, of each text those that are whole
  pub record TellsLines (told : Status) (is_stopped : Bool) : Type 0 where
    pub status : Status
    pub goes : Option End
    pub tells : TellsAnswer (whole_lines x.work.new.out.bytes.items
        ++ whole_lines x.work.new.why.bytes.items) status goes
    pub after : IsAfterTold g b.store x.line told is_stopped status goes
    pub same : b ≡ record x.work.new { heard = b.heard }

  -- It was asked whether the store's path stands for its files, and it does: the file is told as
  -- accepted.
  pub record TellsAccepted (name : List ℕ) (receipt : Receipt) : Type 0 where
    pub tells : TellsAnswer (accepted_line name receipt.new receipt.known) Done None
    pub same : b ≡ record x.work.new {
      heard = b.heard;
      looks = looked x.work.new.looks true;
    }

  -- It does not: the file is told as refused with E42, and the session ends.
  pub record TellsLost (name : List ℕ) : Type 0 where
    pub said : IsWritten (grown x.work.new.out b.out)
        (refused_line name (number (Store None)) (store_fault_name (Store None))) Trouble Trouble
    pub tells : TellsAnswer (whole_lines b.out.bytes.items ++ whole_lines
        x.work.new.why.bytes.items)
        Trouble (Some Lost)
    pub same : b ≡ record x.work.new {
      out = b.out;
      heard = b.heard;
      looks = looked x.work.new.looks false;
    }

  abbrev pub IsAnswered : Outcome → Type 0
  IsAnswered (outcome.Told told is_stopped) = TellsLines told is_stopped
  IsAnswered (outcome.Accepted name receipt) = TellsAccepted name.now receipt
      ⊎ TellsLost name.now

  -- the line was read, its command was done, with empty texts at first, and it was answered
  pub record IsServed (folder : Option (List ℕ)) (a : Point S) : Type 0 where
    pub read : IsRead x.line x.asked
    pub begins : x.work.old ≡ record a { out = x.work.old.out; why = x.work.old.why }
    pub blank : (x.work.old.out.bytes.items ≡ []) × (x.work.old.why.bytes.items ≡ [])
    pub unfailed : (x.work.old.out.failures ≡ 0) × (x.work.old.why.failures ≡ 0)
    pub worked : IsWorked g folder x.work x.asked
    pub answered : IsAnswered x.work.outcome
    pub cap : b.store.cap ≡ a.store.cap
