use Rattle.std.proofs.Common.{◌≡◌, ◌∙◌, Option, Some, IsTrue, refl, sym, ap, subst, arith}
use Rattle.std.proofs.lemmas.Bool.{both_ways}
use Rattle.sqlite_wal.specs.Recovery.{Image}
use Rattle.sqlite_wal.specs.Files.{outcomes}
use Rattle.sqlite_wal.specs.Reads.{AreClean}
use Rattle.sqlite_wal.proofs.StateLemmas.{open_from}
use Rattle.sqlite_pool.proofs.StateLemmas.{clean_is, may_leave_is}
use Rattle.sqlite_trees.specs.View.{View, IsClean}
use Rattle.sqlite_trees.specs.declared.error.StoreError.TheVariants.{Broken}
use Rattle.sqlite_trees.proofs.Doubt.{clean_of as sure, no_doubt}
use Rattle.sqlite_rules.proofs.ViewLemmas.{still_quiet}
use Rattle.sqlite_store.specs.FileStore.{state, view}
use Rattle.sqlite.specs.Closing.{HoldsAlone}
use Rattle.sqlite.specs.Files.{IsClosed}
use Rattle.sqlite.specs.State.{store_error}
use Rattle.sqlite.specs.declared.error.Error.{Error}
use Rattle.sqlite.specs.declared.error.Error.TheVariants.{SqliteFailure}
use Rattle.sqlite.specs.declared.error.ErrorCode.TheVariants as code
use Rattle.sqlite.proofs.Theorems.{copied}
use Rattle.edf_cli.proofs.Puts.{nothing-gets}
use Rattle.edfstore_files.proofs.Closing.{broken_cause, excused, failed_as}
use Rattle.edfstore_files.proofs.LetGo.{leaves}
use Rattle.edfstore_files.proofs.session.close.Goals as goal

-- ---- a store that was shut

pub returns-then-is_broken-clause-closed : goal.returns-then-is_broken-clause-closed
returns-then-is_broken-clause-closed g c is clean =
    let q = c.rollback.ensures.quiet in
    leaves c.args.conn c.rollback.new.self c.give_up.result.files c.give_up.ensures.files
    (still_quiet c.into_store-store.ensures.quiet q)
    (λ none. c.rollback.ensures.undone.numbered
    ∙ c.into_store-store.ensures.numbered (omega (arith, q.clean, none)))
    (λ none db may. c.into_store-store.ensures.sound (omega (arith, q.clean, none)) db
    (q.outcomes db may)) clean

pub returns-then-is_broken-clause-released : goal.returns-then-is_broken-clause-released
returns-then-is_broken-clause-released g c =
    let before = c.rollback.new.self in
    let q = c.rollback.ensures.quiet in
    let first = still_quiet c.into_store-store.ensures.quiet q in
    let closed : IsClosed c.args.conn before = record {
      quiet = first;
      sound = λ none db may. c.into_store-store.ensures.sound (omega (arith, q.clean, none)) db
          (q.outcomes db may);
    } in
    failed_as c.args.conn before c.give_up.result.files c.give_up.result.failure Broken
    c.give_up.ensures.failure c.give_up.ensures.files closed
    (λ none. excused c.args.conn before before first.counts (omega arith) (first.closes none)
    (λ h. (c.rollback.ensures.undone.undone h).1) Broken
    (sym (c.is_broken.ensures.shown none) ∙ c.if-is_broken.true))
    (λ kind blamed fault. absurd (cc))

-- ---- one that is copied

pub returns-in-Ok-clause-copied : goal.returns-in-Ok-clause-copied
returns-in-Ok-clause-copied g c is honest =
    let back = c.into_store-store.result in
    let before = c.rollback.new.self in
    let last = c.checkpoint.new.self in
    let q = c.checkpoint.ensures.quiet in
    let stays = g.met.D.Disk.seen_may_stay in
    let sure_now = subst (λ p. AreClean g.D.Disk p.0 p.1) c.close.ensures honest in
    let none : IsClean (view last) = no_doubt _ (clean_is last.pool ∙ sure_now) in
    let clean : IsClean (view before) = omega (arith, q.clean, none) in
    let early : IsClean (view back) = omega (arith, c.rollback.ensures.quiet.clean, clean) in
    let h = open_from (state before) c.in-Ok.ensures.ready (sure (view before).is_clean clean) in
    let second = c.rollback.ensures.undone.kept clean in
    let first = c.into_store-store.ensures.undone.kept early in
    let on = c.in-Ok.ensures.open none in
    let same = c.checkpoint.ensures.same on in
    let numbered : IsTrue (view last).is_numbered = ap (λ (v : View). v.is_numbered) same
    ∙ second.numbered ∙ c.into_store-store.ensures.numbered early in
    let committed : (view last).committed ≡ (view c.args.conn.store).committed =
    ap (λ (v : View). v.committed) same ∙ second.committed h
    ∙ first.committed (second.was_open h) in
    let each = λ (image : Image)
    (may : outcomes g.D.Disk c.close.result.log c.close.result.db image).
    subst (HoldsAlone image) committed (copied last stays on numbered
    (λ db found. c.into_store-store.ensures.sound early db
    (c.rollback.ensures.quiet.outcomes db (q.outcomes db found)))
    (c.in-Ok.ensures.moved (c.rollback.ensures.logged (second.was_open h))) image
    (may_leave_is last.pool image sure_now
    (subst (λ p. outcomes g.D.Disk p.0 p.1 image) c.close.ensures may))) in
    record {
      was_clean = omega (arith, c.into_store-store.ensures.quiet.clean, early);
      was_open = first.was_open (second.was_open h);
      seen = each _ (stays _, stays _);
      left = each;
    }

pub returns-in-Ok-clause-released : goal.returns-in-Ok-clause-released
returns-in-Ok-clause-released g c =
    let q = c.checkpoint.ensures.quiet in
    let r = c.rollback.ensures.quiet in record {
      store = c.checkpoint.new.self;
      store_is = sym c.close.ensures;
      quiet = record {
        quiet = still_quiet (still_quiet c.into_store-store.ensures.quiet r) q;
        sound = λ none db may. c.into_store-store.ensures.sound
            (omega (arith, q.clean, r.clean, none)) db (r.outcomes db (q.outcomes db may));
      };
      cause = tt;
    }

pub returns-in-Ok-clause-printed : goal.returns-in-Ok-clause-printed
returns-in-Ok-clause-printed g c = (
  nothing-gets (g.F.Output.contents c.args.err.now) (g.F.Output.failures c.args.err.now),
  refl,
)

-- ---- one that can't be

pub returns-in-Err-clause-released : goal.returns-in-Err-clause-released
returns-in-Err-clause-released g c =
    let before = c.rollback.new.self in
    let q = c.checkpoint.ensures.quiet in
    let r = c.rollback.ensures.quiet in
    let first = still_quiet c.into_store-store.ensures.quiet r in
    let closed : IsClosed c.args.conn c.checkpoint.new.self = record {
      quiet = still_quiet first q;
      sound = λ none db may. c.into_store-store.ensures.sound
          (omega (arith, q.clean, r.clean, none)) db (r.outcomes db (q.outcomes db may));
    } in
    failed_as c.args.conn c.checkpoint.new.self c.give_up-in-Err.result.files
    c.give_up-in-Err.result.failure c.in-Err.error c.give_up-in-Err.ensures.failure
    c.give_up-in-Err.ensures.files closed
    (λ none. let clean : IsClean (view before) = omega (arith, q.clean, none) in
    excused c.args.conn before c.checkpoint.new.self first.counts q.counts (first.closes clean)
    (λ h. (c.rollback.ensures.undone.undone h).1) c.in-Err.error (c.in-Err.ensures.cause none))
    c.in-Err.ensures.told

pub returns-in-Err-clause-closed : goal.returns-in-Err-clause-closed
returns-in-Err-clause-closed g c is honest =
    let before = c.rollback.new.self in
    let last = c.checkpoint.new.self in
    let q = c.checkpoint.ensures.quiet in
    let sure_now = subst (λ p. AreClean g.D.Disk p.0 p.1) c.give_up-in-Err.ensures.files honest in
    let none : IsClean (view last) = no_doubt _ (clean_is last.pool ∙ sure_now) in
    let clean : IsClean (view before) = omega (arith, q.clean, none) in
    let both : ◌≡◌ {A = Option Error} (Some (store_error c.in-Err.error))
    (Some (SqliteFailure code.Closed)) = sym c.give_up-in-Err.ensures.failure ∙ is in
    let printed : store_error c.in-Err.error ≡ SqliteFailure code.Closed = cc in
    absurd (both_ways _ (sym (c.is_broken.ensures.shown clean) ∙ c.if-is_broken.false)
    (broken_cause (view before) _ _ c.in-Err.error printed (c.in-Err.ensures.cause none)))
