use Rattle.std.proofs.Common.{refl, arith, pos, ◌<ℤ◌}
use Rattle.std.proofs.lemmas.Int.{ints}
use Rattle.std.proofs.lemmas.Result.{err_from_is_err_and}
use Rattle.edf_holdings.specs.Holdings.{Holdings}
use Rattle.edf_store.specs.Held.{at}
use Rattle.edf_store.proofs.Faults.{idle_done, refuses_done, refuses_cause, refuses_on}
use Rattle.edf_store.proofs.Readiness.{stays_then, held_now}
use Rattle.edf_store.proofs.Walks.{at_start}
use Rattle.edf_store.proofs.store.Store.records.Goals as goal

pub returns-in_err-ready : goal.returns-in_err-ready
returns-in_err-ready g c =
    let told = err_from_is_err_and c.from_residual.result c.from_residual.ensures.1 in
    let refuses = refuses_on g.S.Store c.args.self.now ⊥ c.in_err-ready.field-0.0
    c.from_residual.result c.in_err-ready.ensures.refuses c.from_residual.ensures.1 in
    rw told.1 (
      (refl, (λ w. tt), c.ready.ensures.settles.stays),
      record {
        refused = tt;
        same_reference = tt;
        begun = tt;
        refuses = rw told.1 at refuses;
      },
    )

pub returns-in_err-recording : goal.returns-in_err-recording
returns-in_err-recording g c =
    let told = err_from_is_err_and c.from_residual-in_err-recording.result
    c.from_residual-in_err-recording.ensures.1 in
    let refuses = refuses_cause g.S.Store c.args.self.now ⊥ c.in_err-recording.field-0.0
    c.from_residual-in_err-recording.result
    (idle_done g.S.Store c.args.self.now _ _ c.in_ok-ready.ensures.refuses)
    c.from_residual-in_err-recording.ensures.1 in
    rw told.1 (
      (
        refl,
        (λ w. tt),
        stays_then g.S.Store c.args.self.now c.ready.new.store c.find.new.store
            c.ready.ensures.settles.stays c.find.ensures.settles.stays,
      ),
      record {
        refused = tt;
        same_reference = tt;
        begun = tt;
        refuses = rw told.1 at refuses;
      },
    )

pub returns : goal.returns
returns g c =
    let s = at g.S.Store c.find.new.store in
    let cap = c.find.new.store.cap in
    let k = c.args.identity.now in
    let id = c.in_ok-recording.recording in
    let begun = c.cursor_at_first-cursor.ensures in
    let low : c.cursor_at_first-cursor.result.start <ℤ pos 0 = omega (arith, ints, begun.start) in
    let start = λ (h : Holdings). at_start cap s id c.cursor_at_first-cursor.result h k low
    begun.limit begun.rows in (
      (refl, (λ w. refl), tt),
      record {
        refused = tt;
        same_reference = refl;
        begun = record {
          stays = stays_then g.S.Store c.args.self.now c.ready.new.store c.find.new.store
              c.ready.ensures.settles.stays c.find.ensures.settles.stays;
          going = refl;
          walking = λ clean.
              let it = c.in_ok-recording.ensures.settles.settled clean in (
                it.holdings.0,
                k,
                0,
                start it.holdings.0 it it.holdings.1 c.find.ensures.key
                    (c.in_ok-recording.ensures.answer clean it.holdings.0 it.holdings.1),
              );
          at_first = λ h held clean.
              let it = c.in_ok-recording.ensures.settles.settled clean in
              let kept = held_now cap s clean it h
              (c.find.ensures.settles.stays.holdings h
              (c.ready.ensures.settles.stays.holdings h held)) in
              start h it kept c.find.ensures.key (c.in_ok-recording.ensures.answer clean h kept);
        };
        refuses = refuses_done g.S.Store c.args.self.now ⊥ _
            (idle_done g.S.Store c.args.self.now _ _ c.in_ok-ready.ensures.refuses);
      },
    )
