-- A run over two files: what it comes to, and what its files hold as they are let go.
use Rattle.std.proofs.Common.{◌≡◌, ◌≢◌, ◌⊎◌, ◌↔◌, ℕ, List, [], Option, None, Some, IsTrue}
use Rattle.std.proofs.Common.{refl, sym, subst, ◌∙◌, arith}
use Rattle.std.proofs.Math.Logic.{∥∥₁_map}
use Rattle.sqlite_disk.specs.declared.Disk.{Ghosts}
use Rattle.sqlite_wal.specs.Recovery.{Image}
use Rattle.sqlite_wal.specs.Reads.{AreClean}
use Rattle.sqlite_wal.proofs.LogLemmas.{SeenMayStay}
use Rattle.sqlite_pool.proofs.StateLemmas.{clean_is}
use Rattle.sqlite_trees.specs.View.{IsClean}
use Rattle.sqlite_trees.proofs.Doubt.{no_doubt}
use Rattle.sqlite_store.specs.declared.store.FileStore.{FileStore}
use Rattle.sqlite_store.specs.FileStore.{view, recovers}
use Rattle.sqlite.specs.Tree.{Trees}
use Rattle.sqlite.specs.Effect.{Database, IsDatabase}
use Rattle.sqlite.specs.State.{HasCleanDisk, IsLive}
use Rattle.sqlite.specs.Held.{Held}
use Rattle.sqlite.specs.Closing.{IsCopied}
use Rattle.sqlite.specs.Files.{HoldsDatabase, IsOpened, over_files, file_state}
use Rattle.sqlite.specs.Start.{FindsIn}
use Rattle.sqlite.specs.declared.error.Error.{Error}
use Rattle.edf_tables.specs.Schema.{HasBoth, AreOurs}
use Rattle.edf_tables.specs.Made.{IsMadeOf}
use Rattle.edf_tables.specs.Others.{KeepsTrees}
use Rattle.edf_rows.specs.File.{IsForeignFile}
use Rattle.edf_fragment.specs.Parsed.{Parsed}
use Rattle.edf_holdings.specs.Holdings.{Holdings}
use Rattle.edf_holdings.specs.Reply.{after, replies}
use Rattle.edf_rows.specs.Rows.{RepresentCommitted}
use Rattle.edf_store.specs.Fault.{HasCause, HasCauseOrIsForeign}
use Rattle.edf_store.specs.Held.{at, Holds}
use Rattle.edf_store.specs.declared.fault.StoreFault.{StoreFault}
use Rattle.edf_store.specs.declared.fault.StoreFault.TheVariants.{Memory, Store, Foreign, Failed}
use Rattle.edf_intake.specs.Batch.{submissions_in, replies_in}
use Rattle.edf_cli.specs.Output.{OutputChange}
use Rattle.edf_cli.specs.declared.status.Status.{Status}
use Rattle.edf_cli.specs.declared.status.Status.TheVariants.{Trouble}
use Rattle.edfstore_files.specs.Files.{DatabaseHolds, TreesHold, FilesHold, AreReadAs}
use Rattle.edfstore_files.specs.ProgramRun.{ProgramRun}
use Rattle.edfstore_files.specs.Turns.{IsSubmittedPrefix, ended, MaySubmit, StepsBy}
use Rattle.edfstore_files.specs.Turns.{HeadlineAfterRuns}
use Rattle.edfstore_files.specs.Close.{AreReleased, IsClosePrinted, IsDiskClean, AreClosed}
use Rattle.edfstore_files.specs.Close.{AreReleasedUnclosed, MayHold, Across, IsRunDone, IsRefused}
use Rattle.edfstore_files.specs.declared.session.EndedRun.{EndedRun}
use Rattle.edfstore_files.proofs.Chains.{result}
use Rattle.edf_cli.proofs.Undone.{trouble-told}
use Rattle.edfstore_files.proofs.Idle.{still}
use Rattle.edfstore_files.proofs.Keeping.{found_keeps, own_keeps, kept_is_own, keeps_once, read_as}
use Rattle.edfstore_files.proofs.LetGo.{LeavesEach, leads, rows_left, ends_in, clean_last}
use Rattle.edfstore_files.proofs.LetGo.{as_it_was, still_keeps}
use Rattle.edfstore_files.proofs.Working.{Works, Returns, crash, holds_first, was_clean}
use Rattle.edfstore_files.proofs.Working.{keeps_last, others_last}

caused : (fault : StoreFault) → HasCauseOrIsForeign fault → ¬ (fault ≡ Foreign) → HasCause fault
caused Memory why never = tt
caused (Store (Some error)) why never = tt
caused (Store None) why never = absurd why
caused Foreign why never = absurd (never refl)
caused Failed why never = absurd why

-- under every status but trouble no failure is told
pub none_failed : (w : OutputChange) (failure : Option Error) (before status : Status) →
    IsClosePrinted w failure before status → status ≢ Trouble → failure ≡ None
none_failed w None before status told never = refl
none_failed w (Some error) before status told never =
    absurd (never (trouble-told w _ status told.2))

module _ {D : Type 0} {g : Ghosts D} (stays : SeenMayStay g) (r : ProgramRun g) (s : EndedRun D)
    (first : Held (FileStore D g))
    (opens : HasCleanDisk (file_state first) → IsOpened first)
    (finds : HasCleanDisk (file_state first) → FindsIn r.start (file_state first)) where
  -- ---- what the connection read

  module _ (early : IsDiskClean r s → HasCleanDisk (file_state first)) where
    settled : IsDiskClean r s → (file_state first).now ≡ (file_state first).committed
    settled gave = (opens (early gave)).0.clean

    sound_first : IsDiskClean r s → IsDatabase (file_state first).committed
    sound_first gave = let opened = opens (early gave) in (opened.1 opened.0.is_open).1

    keeps_first : IsDiskClean r s → (h : Holdings) → FilesHold r.cap r.start h →
        DatabaseHolds r.cap (file_state first).committed h
    keeps_first gave h keep = found_keeps r.cap r.start (file_state first) h keep
        (finds (early gave)) (sound_first gave)

    read_first : IsDiskClean r s → AreReadAs r.start (file_state first).committed
    read_first gave = read_as r.start (file_state first) (finds (early gave)) (sound_first gave)

    across : (IsSo : Holdings → Type 0) → (IsDiskClean r s → (h : Holdings) →
        FilesHold r.cap r.start h → IsSo h) → Across r s IsSo
    across IsSo so gave = (
      λ h other one two. keeps_once r.cap (file_state first).committed h other
          (keeps_first gave h one) (keeps_first gave other two),
      λ runs h start sound keep follow.
          ∥∥₁_map (result r.cap runs h start r.start sound keep follow) (λ it.
          let x : (one : HeadlineAfterRuns r.cap runs h r.start)
          × IsSo (after r.cap h one.submissions) = (it, so gave _ it.holds) in x),
    )

  -- ---- a store that was opened

  module _ (status : Status) (mid : Option (List ℕ)) (failures : ℕ)
      (it : Works r first (record r.err { after = mid; failed_after = failures }) status)
      (told : IsClosePrinted (record r.err { before = mid; failed_before = failures }) s.failure
      status s.status)
      (live : IsLive (at over_files it.new))
      (let_go : AreReleased it.new.connection s.failure s.files)
      (copied : AreClosed r s → IsCopied it.new.connection s.files)
      (left : AreReleasedUnclosed r s → LeavesEach it.new.connection s.files) where
    late : IsDiskClean r s → HasCleanDisk (at over_files it.new)
    late gave = clean_last it.new.connection s.files let_go gave

    early : IsDiskClean r s → HasCleanDisk (file_state first)
    early gave = let now = late gave in
        let was : HasCleanDisk (file_state first) = omega (arith, (crash r first it).clean, now) in
        was

    found : IsDiskClean r s → (h : Holdings) → FilesHold r.cap r.start h → Holds over_files it.old h
    found gave h keep = holds_first r first it h (subst (λ (d : Database). DatabaseHolds r.cap d h)
        (sym (settled early gave)) (keeps_first early gave h keep))

    own : IsDiskClean r s → (h : Holdings) × DatabaseHolds r.cap (file_state first).committed h
    own gave =
        let was = was_clean r first it (late gave) in
        let kept = own_keeps r.cap (file_state first).now (at over_files it.old).committed
        (it.opened.tables was) (subst (λ (n : ℕ). (h : Holdings)
        × RepresentCommitted n (at over_files it.old).committed.trees h) it.cap_is
        (it.opened.holdings was))
        (subst (λ (n : ℕ). ¬ IsForeignFile n (file_state first).now) it.cap_is
        (it.opened.own was)) in
        (kept.0, subst (λ (d : Database). DatabaseHolds r.cap d kept.0) (settled early gave) kept.1)

    kept : AreClosed r s → (h : Holdings) → Holds over_files it.new h → (image : Image) →
        MayHold r s image → FilesHold r.cap image h × FilesHold r.cap (record image { log = [] }) h
    kept closed h held image may =
        let c = copied closed in
        ends_in r.cap it.new.connection s.files h c (live c.was_open).1
        (keeps_last r first it (late closed.0) c.was_open h held) image may

    step : AreClosed r s → (image : Image) → ((h : Holdings) → Holds over_files it.new h →
        FilesHold r.cap image h) → StepsBy r.cap (ended it.turns) r.start image
    step closed image keeps h keep =
        let held = found closed.0 h keep in
        let x : (tolds : List Parsed) × MaySubmit r.cap (ended it.turns) h tolds
        × FilesHold r.cap image (after r.cap h tolds) = (
          submissions_in it.turns,
          (
            it.takes.each,
            refl,
            subst (λ (n : ℕ). replies_in it.turns ≡ replies n h (submissions_in it.turns)) it.cap_is
                (it.takes.replies_are (late closed.0) h held),
          ),
          keeps (after r.cap h (submissions_in it.turns))
              (subst (λ (n : ℕ). Holds over_files it.new (after n h (submissions_in it.turns)))
              it.cap_is (it.takes.holdings h held)),
        ) in ∣ x ∣₁

    others : AreClosed r s → HasBoth (file_state first).committed.schema → (image : Image) →
        MayHold r s image → ∥ ((rows : Trees) × HoldsDatabase image rows
        × KeepsTrees (file_state first).committed.schema (file_state first).committed.trees rows) ∥₁
    others closed both image may =
        let c = copied closed in
        let was = subst (λ (d : Database). HasBoth d.schema) (sym (settled early closed.0)) both in
        let trees = (at over_files it.new).committed.trees in
        let same = subst (λ (d : Database). KeepsTrees d.schema d.trees trees)
        (settled early closed.0) (others_last r first it (late closed.0) c.was_open was) in
        ∥∥₁_map (c.left image may).both (λ holds.
        let x : (rows : Trees) × HoldsDatabase image rows
        × KeepsTrees (file_state first).committed.schema (file_state first).committed.trees rows =
        (trees, holds, same) in x)

    crashes : IsDiskClean r s → (h : Holdings) → FilesHold r.cap r.start h → (rows : Trees) →
        recovers let_go.store rows → (tolds : List Parsed) × IsSubmittedPrefix it.turns tolds
        × TreesHold r.cap rows (after r.cap h tolds)
    crashes gave h keep rows may =
        let sure = subst (λ (p : D × D). AreClean g p.0 p.1) (sym let_go.store_is) gave in
        let none : IsClean (view let_go.store) = no_doubt _ (clean_is let_go.store.pool ∙ sure) in
        let schema = let_go.quiet.sound none rows may in
        rows_left stays r.cap r.start it.turns first it.new.connection opens finds
        (crash r first it) (late gave) h keep rows (let_go.quiet.quiet.outcomes rows may) schema.0
        schema.1

    pub ran : IsRunDone r s
    ran = record {
      db = (file_state first).committed;
      old = it.old;
      new = it.new;
      turns = it.turns;
      status = status;
      mid = mid;
      failures = failures;
      cap_is = it.cap_is;
      noticed = it.noticed;
      does = it.does;
      takes = it.takes;
      released = let_go;
      printed = told;
      clean = late;
      read = read_first early;
      own = own;
      opened = found;
      across = across early (Holds over_files it.old) found;
      closed = kept;
      steps = λ closed image may. (
        step closed image (λ h held. (kept closed h held image may).0),
        step closed (record image { log = [] }) (λ h held. (kept closed h held image may).1),
      );
      others = others;
      leads = λ lets image may. leads stays r.cap r.start it.turns first it.new.connection opens
          finds (crash r first it) (late lets.0) s.files (left lets) image may;
      crash = crashes;
    }

  -- the same, by the connection that came back
  pub ran_back : (status : Status) (mid : Option (List ℕ)) (failures : ℕ)
      (it : Works r first (record r.err { after = mid; failed_after = failures }) status)
      (back : Held (FileStore D g)) → back ≡ it.new.connection →
      IsClosePrinted (record r.err { before = mid; failed_before = failures }) s.failure status
      s.status → IsLive (file_state back) → AreReleased back s.failure s.files →
      (AreClosed r s → IsCopied back s.files) →
      (AreReleasedUnclosed r s → LeavesEach back s.files) → IsRunDone r s
  ran_back status mid failures it back is told = subst (λ (c : Held (FileStore D g)).
      IsLive (file_state c) → AreReleased c s.failure s.files →
      (AreClosed r s → IsCopied c s.files) →
      (AreReleasedUnclosed r s → LeavesEach c s.files) → IsRunDone r s) (sym is)
      (λ live let_go copied left. ran status mid failures it told live let_go copied left)

  -- ---- a store that was refused

  module _ (last : Held (FileStore D g)) (it : Returns r first last s.status)
      (nothing_failed : s.failure ≡ None) (let_go : AreReleased last s.failure s.files)
      (left : IsDiskClean r s → LeavesEach last s.files) where
    came : IsDiskClean r s → HasCleanDisk (file_state first)
    came gave = let now = clean_last last s.files let_go gave in
        let was : HasCleanDisk (file_state first) = omega (arith, it.back.crash.clean, now) in was

    foreign : it.fault ≡ Foreign → IsDiskClean r s →
        IsForeignFile r.cap (file_state first).committed
    foreign is gave = subst (IsForeignFile r.cap) (settled came gave)
        (it.back.foreign is (clean_last last s.files let_go gave))

    none : it.fault ≡ Foreign → IsDiskClean r s → (h : Holdings) → ¬ FilesHold r.cap r.start h
    none is gave h keep = kept_is_own r.cap (file_state first).committed h
        (keeps_first came gave h keep) (foreign is gave)

    was : IsDiskClean r s → (image : Image) → MayHold r s image → ∥ ((rows : Trees)
        × HoldsDatabase image rows × ((rows ≡ (file_state first).committed.trees)
        ⊎ IsMadeOf (file_state first).committed rows)) ∥₁
    was gave image may = as_it_was stays first last s.files (opens (came gave)) it.back.crash
        (left gave) image may

    pub is_refused : IsRefused r s
    is_refused = record {
      db = (file_state first).committed;
      fault = it.fault;
      ours = it.ours;
      why = it.back.why;
      refuses = it.refuses;
      nothing_failed = nothing_failed;
      ours_is = λ gave. subst (λ (d : Database). IsTrue it.ours ↔ AreOurs d.schema)
          (settled came gave) it.ours_is;
      read = read_first came;
      foreign = foreign;
      none = none;
      across = across came (λ h. HasCause it.fault) (λ gave h keep. caused it.fault it.back.why
          (λ is. none is gave h keep));
      steps = λ gave image may. still r.cap r.start image (λ h keep. still_keeps r.cap
          (file_state first).committed image h (sound_first came gave)
          (keeps_first came gave h keep) (was gave image may));
      as_was = was;
    }
