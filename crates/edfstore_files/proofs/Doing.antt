-- A command's turns, and what they do to the open store.
use Rattle.std.proofs.Common.{◌≡◌, ◌⊎◌, inl, inr, ℕ, List, [], ◌∷◌, length, map, Option, Ok, Err}
use Rattle.std.proofs.Common.{refl, sym, ap, subst, ◌∙◌, arith}
use Rattle.std.proofs.lemmas.Simd.{map-map}
use Rattle.sqlite_disk.specs.declared.Disk as disk
use Rattle.sqlite_trees.specs.declared.store.Store.{Ghosts}
use Rattle.sqlite_trees.specs.Tree.{Trees}
use Rattle.sqlite_store.specs.declared.store.FileStore.{FileStore}
use Rattle.sqlite.specs.State.{HasCleanDisk}
use Rattle.sqlite.specs.Files.{over_files}
use Rattle.sqlite.proofs.StateLemmas.{survives_then, survives_weaker}
use Rattle.edf_tables.proofs.Commits.{survives_same}
use Rattle.edf_tables.proofs.Others.{others_same}
use Rattle.edf_holdings.specs.Holdings.{Holdings}
use Rattle.edf_holdings.specs.Reply.{after}
use Rattle.edf_rows.specs.Rows.{RepresentCommitted}
use Rattle.edf_store.specs.Held.{StoreModel, at, KeepsOtherTables, KeepsHoldings}
use Rattle.edf_store.proofs.Held.{others_committed_then}
use Rattle.edf_intake.specs.Refusal.{Answer}
use Rattle.edf_fragment.specs.Call.{InputState}
use Rattle.edf_intake.specs.Submitted.{IsSubmitAnswer}
use Rattle.edf_intake.specs.Batch.{Turn, some_values, MayHaveCommittedNext, MayRemainAfterCrash}
use Rattle.edf_intake.proofs.Turns.{IsMade, turn_of}
use Rattle.edf_intake.proofs.Batches.{in_turn}
use Rattle.edf_command.specs.Arguments.{Request}
use Rattle.edf_command.specs.Arguments.Request.{take, list, export, convert}
use Rattle.edf_cli.specs.Output.{OutputChange, Explains, AreLinesPrinted}
use Rattle.edf_cli.specs.Text.{memory_line}
use Rattle.edf_cli.proofs.Undone.{trouble-told}
use Rattle.edf_cli.specs.declared.status.Status.{Status}
use Rattle.edf_cli.specs.declared.status.Status.TheVariants.{Trouble}
use Rattle.edf_command.specs.Lines.{first_take_lines, take_status, take_memory_line}
use Rattle.edf_command.specs.Taking.{IsTaken, HasOpened}
use Rattle.edf_command.specs.Run.{files_of, IsDone, IsConverted}
use Rattle.edfstore_files.specs.ProgramRun.{Command, Prints, DoesCommand}
use Rattle.edfstore_files.specs.Turns.{TakesTurns}

module _ {S : Type 0} (g : Ghosts S) where
  -- ---- no turn

  stays_turns : (old new : StoreModel S) → KeepsHoldings g old new → TakesTurns g old new []
  stays_turns old new stays = record {
    cap = stays.cap;
    each = tt;
    replies_are = λ clean h held. refl;
    holdings = stays.holdings;
    others = stays.others;
    crash = survives_weaker (at g old) (at g new) (λ _. ⊥) _ (λ clean rows none. absurd none)
        stays.crash;
  }

  same_others : (old : StoreModel S) → KeepsOtherTables (at g old) (at g old)
  same_others old = record {
    was_open = λ _ o. o;
    others = λ _ _. others_same (at g old).committed;
    crash = survives_same (at g old) _;
  }

  same_turns : (old new : StoreModel S) → new ≡ old → TakesTurns g old new []
  same_turns old new same = subst (λ (s : StoreModel S). TakesTurns g old s []) (sym same)
      (record {
        cap = refl;
        each = tt;
        replies_are = λ clean h held. refl;
        holdings = λ h held. held;
        others = same_others old;
        crash = survives_same (at g old) _;
      })

  -- ---- one

  left_by : (cap : ℕ) (h : Holdings) (u : Turn) (rows : Trees) →
      RepresentCommitted cap rows (after cap h (some_values (u.submission ∷ [])))
      ⊎ MayHaveCommittedNext cap h (u ∷ []) rows → MayRemainAfterCrash cap h (u ∷ []) rows
  left_by cap h u rows (inl kept) = record {
    first = u ∷ [];
    rest = [];
    splits = refl;
    stand = inl kept;
  }
  left_by cap h u rows (inr unended) = record {
    first = [];
    rest = u ∷ [];
    splits = refl;
    stand = inr unended;
  }

  made_turn : (old new : StoreModel S) (t : Turn) → IsMade g old new t →
      TakesTurns g old new (t ∷ [])
  made_turn old new t made = record {
    cap = made.cap;
    each = (made.is_turn, tt);
    replies_are = made.replied;
    holdings = made.holdings;
    others = made.others;
    crash = survives_weaker (at g old) (at g new) _ _ (λ clean rows left h held.
        left_by old.cap h t rows (left h held)) made.crash;
  }

  -- what comes after the turns leaves what is held
  pub then_stays : (old mid new : StoreModel S) (turns : List Turn) →
      TakesTurns g old mid turns → KeepsHoldings g mid new → TakesTurns g old new turns
  then_stays old mid new turns it stays = record {
    cap = stays.cap ∙ it.cap;
    each = it.each;
    replies_are = λ clean h held. let was : HasCleanDisk (at g mid) =
        omega (arith, stays.crash.clean, clean) in it.replies_are was h held;
    holdings = λ h held. stays.holdings _ (it.holdings h held);
    others = others_committed_then (at g old) (at g mid) (at g new) it.others stays.others;
    crash = survives_then (at g old) (at g mid) (at g new) _ _ _ (λ clean rows left. left)
        (λ clean rows none. absurd none) it.crash stays.crash;
  }

-- ---- a command

pub record Turned {D : Type 0} {g : disk.Ghosts D} (c : Command)
    (old new : StoreModel (FileStore D g)) (err : OutputChange) (status : Status) : Type 0 where
  pub turns : List Turn
  pub takes : TakesTurns over_files old new turns
  pub does : DoesCommand c old new turns err status

module _ {D : Type 0} {g : disk.Ghosts D} (bytes : List ℕ → Option (List ℕ))
    (before after : List (List ℕ)) (out err : OutputChange) where
  -- no file was to be taken, and what is held stays
  idle_done : (asked : Request) (old new : StoreModel (FileStore D g)) (status : Status) →
      IsDone over_files old new out err bytes asked status →
      HasOpened before after (files_of asked) status → files_of asked ≡ [] →
      Prints out asked [] status → KeepsHoldings over_files old new →
      Turned (asked, bytes, before, after, out) old new err status
  idle_done asked old new status done opened none prints stays = record {
    turns = [];
    takes = stays_turns over_files old new stays;
    does = (done, opened, inl (ap (map bytes) (sym none), prints));
  }

  -- memory for them ran out
  none_done : (asked : Request) (old new : StoreModel (FileStore D g)) (status : Status)
      (line : List ℕ) → IsDone over_files old new out err bytes asked status →
      HasOpened before after (files_of asked) status → new ≡ old →
      Explains out err line Trouble status →
      Turned (asked, bytes, before, after, out) old new err status
  none_done asked old new status line done opened same told = record {
    turns = [];
    takes = same_turns over_files old new same;
    does = (done, opened, inr (refl, told.0, trouble-told err line status told.1));
  }

  taken : (store : List ℕ) (files : List (List ℕ)) (old new : StoreModel (FileStore D g))
      (status : Status) → (done : IsTaken over_files old new out err bytes files status) →
      HasOpened before after files status → new.cap ≡ old.cap →
      Turned (take store files, bytes, before, after, out) old new err status
  taken store files old new status (inr none) opened cap =
      none_done (take store files) old new status take_memory_line (inr none) opened none.0 none.1
  taken store files old new status (inl t) opened cap =
      let s = in_turn over_files old new t.froms t.tos t.answers t.submitted in
      record {
        turns = s.turns;
        takes = record {
          cap = cap;
          each = s.each;
          replies_are = s.replies_are;
          holdings = s.holdings;
          others = s.others;
          crash = s.crash;
        };
        does = (
          inl t,
          opened,
          inl (
            sym (map-map (λ (f : InputState). f.remaining) (λ (u : Turn). u.from) s.turns)
                ∙ ap (λ (l : List InputState). map (λ (f : InputState). f.remaining) l) s.froms_are
                ∙ t.opened,
            λ spell spells. subst (λ (answers : List Answer). AreLinesPrinted out
                (first_take_lines spell files answers) (length answers) (take_status answers)
                status) (sym s.answers_are) (t.said spell spells),
          ),
        );
      }

  -- one file
  one_done : (name : List ℕ) (old mid new : StoreModel (FileStore D g)) (status : Status)
      (from to : InputState) (answer : Answer) →
      IsDone over_files old new out err bytes (convert name) status →
      HasOpened before after (name ∷ []) status → from.remaining ≡ bytes name →
      IsSubmitAnswer over_files old mid from to answer →
      ((turns : List Turn) → TakesTurns over_files old mid turns →
      TakesTurns over_files old new turns) →
      Turned (convert name, bytes, before, after, out) old new err status
  one_done name old mid new status from to answer done opened gave s on =
      let t = turn_of over_files old mid from to answer s in
      let turn : Turn = record { from = from; to = to; answer = answer; submission = t.0 } in
      record {
        turns = turn ∷ [];
        takes = on (turn ∷ []) (made_turn over_files old mid turn t.1);
        does = (done, opened, inl (ap (λ (o : Option (List ℕ)). o ∷ []) gave, tt));
      }

  converted : (name : List ℕ) (old new : StoreModel (FileStore D g)) (status : Status) →
      IsConverted over_files old new out err (bytes name) name status →
      HasOpened before after (name ∷ []) status →
      Turned (convert name, bytes, before, after, out) old new err status
  converted name old new status (inl c) opened =
      one_done name old c.mid new status c.from c.to (Ok c.receipt) (inl c) opened c.opened
      c.submitted (λ turns it. then_stays over_files old c.mid new turns it c.stays)
  converted name old new status (inr (inl r)) opened =
      one_done name old new new status r.from r.to (Err r.refusal) (inr (inl r)) opened r.opened
      r.submitted (λ turns it. it)
  converted name old new status (inr (inr none)) opened =
      none_done (convert name) old new status (memory_line name) (inr (inr none)) opened none.0
      none.1

  pub turned : (asked : Request) (old new : StoreModel (FileStore D g)) (status : Status) →
      IsDone over_files old new out err bytes asked status →
      HasOpened before after (files_of asked) status → new.cap ≡ old.cap →
      Turned (asked, bytes, before, after, out) old new err status
  turned (take store files) old new status d opened cap =
      taken store files old new status d opened cap
  turned (list store) old new status d opened cap =
      idle_done (list store) old new status d opened refl tt d.stays
  turned (export store place) old new status d opened cap =
      idle_done (export store place) old new status d opened refl tt d.stays
  turned (convert file) old new status d opened cap = converted file old new status d opened
