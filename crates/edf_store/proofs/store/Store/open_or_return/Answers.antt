use Rattle.sqlite.specs.Held.{state}
use Rattle.edf_store.proofs.Faults.{with_cause, cause_is_not_foreign}
use Rattle.edf_store.proofs.Opening.{opened, sound_opened}
use Rattle.edf_store.proofs.store.Store.open_or_return.Goals as goal

pub invariant_of-result : goal.invariant_of-result
invariant_of-result g c =
    sound_opened c.args.cap (state g.S.Store c.args.conn) (state g.S.Store c.audit.new.conn)
    c.requires.cap_from c.requires.cap_to (λ clean.
    rw c.in-Ok-true.field-0-test at (c.in-Ok-true.ensures.answers clean))

pub returns-in-Ok-true-clause-opened : goal.returns-in-Ok-true-clause-opened
returns-in-Ok-true-clause-opened g c =
    opened g.S.Store c.args.cap c.args.conn c.audit.new.conn
    (λ clean. rw c.in-Ok-true.field-0-test at (c.in-Ok-true.ensures.answers clean))
    c.audit.ensures.survives

pub returns-in-Ok-false-clause-given_back : goal.returns-in-Ok-false-clause-given_back
returns-in-Ok-false-clause-given_back g c = record {
  why = tt;
  foreign = λ is clean. rw c.in-Ok-false.field-0-test at (c.in-Ok-false.ensures.answers clean);
  tables = λ is ours clean. c.in-Ok-false.ensures.tables ours clean;
  stays = c.audit.ensures.stays;
  crash = c.audit.ensures.survives;
}

pub returns-in-Err-clause-given_back : goal.returns-in-Err-clause-given_back
returns-in-Err-clause-given_back g c =
    let ours = cause_is_not_foreign _ c.from.ensures.cause in
    record {
      why = with_cause ⊥ _ ⊥ _ c.from.ensures.cause;
      foreign = λ is clean. absurd (ours is);
      tables = λ is ours' clean. absurd (ours is);
      stays = c.audit.ensures.stays;
      crash = c.audit.ensures.survives;
    }
