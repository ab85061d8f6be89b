use Rattle.std.proofs.Common.{◌≡◌, ◌∙◌, ◌+◌, ◌*◌, ℕ, List, length, sym, ap, subst, arith}
use Rattle.std.proofs.lemmas.Result.{err_from_is_err_and}
use Rattle.edf_header.specs.Canonical.{IsCanonicalHeader}
use Rattle.edf_header.specs.Signal.{samples_in_all}
use Rattle.edf_export.proofs.Exports.{none_out}
use Rattle.edf_export.proofs.Planned.{exported, stopped}
use Rattle.edf_export.proofs.Walks.{stays_same}
use Rattle.edf_export.proofs.writing.write_planned.Goals as goal

-- ---- there is no memory for the header

pub returns-in_default-clause-changes : goal.returns-in_default-clause-changes
returns-in_default-clause-changes g c =
    record { stays = stays_same g.S.Store c.args.store.now; idle = c.requires.idle }

pub returns-in_default-clause-written : goal.returns-in_default-clause-written
returns-in_default-clause-written g c clean h held plan = none_out _ _ _

-- ---- the file is not sent

pub returns-in_err-send_recording-clause-changes : goal.returns-in_err-send_recording-clause-changes
returns-in_err-send_recording-clause-changes g c =
    let l = c.in_err-send_recording.ensures.changes in
    let p = err_from_is_err_and c.from_residual.result c.from_residual.ensures.1 in
    record { stays = l.stays; idle = λ clean. rw (p.1, p.2) (l.idle clean) }

pub returns-in_err-send_recording-clause-written : goal.returns-in_err-send_recording-clause-written
returns-in_err-send_recording-clause-written g c clean h held plan =
    let k = c.args.identity.now in
    let text = c.as_slice.result.now in
    let is-header : IsCanonicalHeader text k c.args.plan.first c.args.plan.records
    c.args.plan.block_samples =
    subst (λ (t : List ℕ). IsCanonicalHeader t k c.args.plan.first c.args.plan.records
    c.args.plan.block_samples) (sym c.as_slice.ensures.value) c.in-Ok.ensures in
    let p = err_from_is_err_and c.from_residual.result c.from_residual.ensures.1 in
    let sent = c.in_err-send_recording.ensures.sent clean h held plan in
    rw (p.1, p.2) (stopped _ _ k (h k) c.args.plan text c.in_err-send_recording.field-0.0 plan
    is-header sent.0 sent.1)

pub returns-in_err-send_recording-clause-counted : goal.returns-in_err-send_recording-clause-counted
returns-in_err-send_recording-clause-counted g c =
    let p = err_from_is_err_and c.from_residual.result c.from_residual.ensures.1 in
    rw (p.1, p.2) c.in_err-send_recording.ensures.counted

-- ---- it is sent

pub returns-clause-changes : goal.returns-clause-changes
returns-clause-changes g c =
    let l = c.in_ok-send_recording.ensures.changes in record { stays = l.stays; idle = l.idle }

pub returns-clause-written : goal.returns-clause-written
returns-clause-written g c clean h held plan =
    let k = c.args.identity.now in
    let text = c.as_slice.result.now in
    let is-header : IsCanonicalHeader text k c.args.plan.first c.args.plan.records
    c.args.plan.block_samples =
    subst (λ (t : List ℕ). IsCanonicalHeader t k c.args.plan.first c.args.plan.records
    c.args.plan.block_samples) (sym c.as_slice.ensures.value) c.in-Ok.ensures in
    let len : c.len.result ≡ length text =
    omega (
      arith,
      c.len.ensures,
      c.in-Ok.header.ok.0,
      ap (λ (l : List ℕ). length l) c.as_slice.ensures.value,
    ) in
    let whole : c.len.result + c.args.plan.records
    * (c.ordinary_bytes.result + 2 * c.args.plan.block_samples)
    ≡ length text
    + c.args.plan.records * (2 * samples_in_all k.signals + 2 * c.args.plan.block_samples) =
    ap (λ n. n
    + c.args.plan.records * (c.ordinary_bytes.result + 2 * c.args.plan.block_samples)) len
    ∙ ap (λ n. length text + c.args.plan.records * (n + 2 * c.args.plan.block_samples))
    c.ordinary_bytes.ensures.value in
    exported _ _ k (h k) c.args.plan text _ plan is-header
    (c.in_ok-send_recording.ensures.sent clean h held plan) whole
