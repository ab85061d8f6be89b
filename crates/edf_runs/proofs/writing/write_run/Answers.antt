use Rattle.std.proofs.Common.{◌≡◌, ℕ, ◌+◌, ◌*◌, ◌≤◌, List, length, refl, sym, ap, ◌∙◌, subst, rules}
use Rattle.std.proofs.Common.{arith}
use Rattle.std.proofs.lemmas.Result.{err_from_is_err_and}
use Rattle.std.proofs.lemmas.Nat.{mul-le}
use Rattle.edf_header.specs.Key.{Key, IsKey, MayStart}
use Rattle.edf_header.specs.Header.{Layout, IsLayout}
use Rattle.edf_header.specs.Signal.{samples_in_all}
use Rattle.edf_header.specs.declared.limits.TheConstants.{MOST_RECORDS, MOST_BLOCK_BYTES}
use Rattle.edf_header.specs.declared.limits.TheConstants.{MOST_SIGNALS}
use Rattle.edf_tal.specs.declared.limits.TheConstants.{MOST_CANONICAL_BLOCK_SAMPLES}
use Rattle.edf_runs.specs.Written.{IsRunHeader}
use Rattle.edf_runs.specs.Inside.Steps.{send_fault}
use Rattle.edf_runs.proofs.Next.{handed_on}
use Rattle.edf_runs.proofs.RunAgain.{begins, run-sent, run-stops, run-counted, run-unchanged}
use Rattle.edf_runs.proofs.RunAgain.{sent-header, sent-counted, stops-header}
use Rattle.edf_runs.proofs.Sending.{not_begun, not_written}
use Rattle.edf_runs.proofs.writing.write_run.Goals as goal

pub returns-in_default-clause-refused : goal.returns-in_default-clause-refused
returns-in_default-clause-refused g c =
    not_begun c.args.fragment.now.header c.args.fragment.now.progress
    (g.R.Input.remaining c.args.input.now) (g.W.Output.contents c.args.out.now) c.args.run.now
    c.args.fragment.now.within

pub returns-in_err-send-clause-refused : goal.returns-in_err-send-clause-refused
returns-in_err-send-clause-refused g c =
    let l = c.args.fragment.now.header in
    let run = c.args.run.now in
    let key : c.identity-identity.result.now ≡ l.key = c.identity-identity.ensures
    ∙ ap (λ (x : Layout). x.key) c.header-2.ensures in
    let base = begins g.R.Input refl (c.nanos.ensures.value ∙ c.first-2.ensures) key
    c.duration.ensures.value c.of.ensures in
    let text = c.as_slice.result.now in
    let plain : IsRunHeader c.in-Ok.header.items c.identity-identity.result.now run =
    c.in-Ok.ensures.header in
    let header : IsRunHeader text l.key run =
    subst (λ (t : List ℕ). IsRunHeader t l.key run) (sym c.as_slice.ensures.value)
    (subst (λ (k : Key). IsRunHeader c.in-Ok.header.items k run) key plain) in
    let e = c.in_err-send.ensures in
    let fault = send_fault c.in_err-send.field-0.0 in
    let counts = run-counted base _ _ text _ _ refl refl refl _ e.0 _ _ e.1 in
    let p = err_from_is_err_and c.from_residual.result c.from_residual.ensures.1 in
    rw (p.1, p.2) (not_written fault (run-stops base _ _ text _ _ refl refl refl header _ e.0)
    counts.1)

pub returns-in_err-send-clause-counted : goal.returns-in_err-send-clause-counted
returns-in_err-send-clause-counted g c =
    let l = c.args.fragment.now.header in
    let run = c.args.run.now in
    let key : c.identity-identity.result.now ≡ l.key = c.identity-identity.ensures
    ∙ ap (λ (x : Layout). x.key) c.header-2.ensures in
    let text = c.as_slice.result.now in
    let base = begins g.R.Input refl (c.nanos.ensures.value ∙ c.first-2.ensures) key
    c.duration.ensures.value c.of.ensures in
    let e = c.in_err-send.ensures in
    let p = err_from_is_err_and c.from_residual.result c.from_residual.ensures.1 in
    rw (p.1, p.2) ((run-counted base _ _ text _ _ refl refl refl _ e.0 _ _ e.1).0)

pub returns-in_err-send-clause-reread : goal.returns-in_err-send-clause-reread
returns-in_err-send-clause-reread g c =
    let l = c.args.fragment.now.header in
    let run = c.args.run.now in
    let key : c.identity-identity.result.now ≡ l.key = c.identity-identity.ensures
    ∙ ap (λ (x : Layout). x.key) c.header-2.ensures in
    let text = c.as_slice.result.now in
    let base = begins g.R.Input refl (c.nanos.ensures.value ∙ c.first-2.ensures) key
    c.duration.ensures.value c.of.ensures in
    let e = c.in_err-send.ensures in
    let layout : IsLayout l = subst IsLayout c.header.ensures c.header_is_layout.ensures in
    let p = err_from_is_err_and c.from_residual.result c.from_residual.ensures.1 in
    record {
      header = stops-header base _ _ text _ _ refl refl refl _ e.0;
      unchanged = λ n same. run-unchanged base _ _ text _ _ refl refl refl layout n _ e.0
          (handed_on c.from_residual.result p.0 _ p.1 p.2 same);
    }

pub overflow_add-result : goal.overflow_add-result
overflow_add-result g c =
    let short : length c.in-Ok.header.items ≤ 256 * (MOST_SIGNALS + 1) = c.in-Ok.ensures.short in
    let len : c.len.result ≤ 256 * (MOST_SIGNALS + 1) =
    omega (arith, c.len.ensures, c.in-Ok.header.ok.0, short) in
    let bytes : c.ordinary_bytes.result + 2 * c.block_samples.result ≤ MOST_BLOCK_BYTES
    + 2 * MOST_CANONICAL_BLOCK_SAMPLES =
    omega (arith, c.ordinary_bytes.ensures.bound, c.block_samples.ensures.few) in
    let all : c.records.result * (c.ordinary_bytes.result + 2
    * c.block_samples.result) ≤ MOST_RECORDS
    * (MOST_BLOCK_BYTES + 2 * MOST_CANONICAL_BLOCK_SAMPLES) =
    mul-le _ _ _ _ c.records.ensures.few bytes in
    omega (arith, len, all)

pub returns-clause-written : goal.returns-clause-written
returns-clause-written g c =
    let l = c.args.fragment.now.header in
    let run = c.args.run.now in
    let key : c.identity-identity.result.now ≡ l.key = c.identity-identity.ensures
    ∙ ap (λ (x : Layout). x.key) c.header-2.ensures in
    let base = begins g.R.Input refl (c.nanos.ensures.value ∙ c.first-2.ensures) key
    c.duration.ensures.value c.of.ensures in
    let text = c.as_slice.result.now in
    let plain : IsRunHeader c.in-Ok.header.items c.identity-identity.result.now run =
    c.in-Ok.ensures.header in
    let header : IsRunHeader text l.key run =
    subst (λ (t : List ℕ). IsRunHeader t l.key run) (sym c.as_slice.ensures.value)
    (subst (λ (k : Key). IsRunHeader c.in-Ok.header.items k run) key plain) in
    let is-key : IsKey l.key = subst IsKey key c.ordinary_bytes.ensures.key in
    let begins : MayStart l.key run.first = search rules in
    let len : c.len.result ≡ length text =
    omega (
      arith,
      c.len.ensures,
      c.in-Ok.header.ok.0,
      ap (λ (t : List ℕ). length t) c.as_slice.ensures.value,
    ) in
    let ordinary : c.ordinary_bytes.result ≡ 2 * samples_in_all l.key.signals =
    c.ordinary_bytes.ensures.value ∙ ap (λ (k : Key). 2 * samples_in_all k.signals) key in
    let whole : c.len.result + c.records.result
    * (c.ordinary_bytes.result + 2 * c.block_samples.result)
    ≡ length text + run.records * (2 * samples_in_all l.key.signals + 2 * run.block_samples) =
    ap (λ n. n + c.records.result * (c.ordinary_bytes.result + 2 * c.block_samples.result)) len
    ∙ ap (λ n. length text + n * (c.ordinary_bytes.result + 2 * c.block_samples.result))
    c.records.ensures.value
    ∙ ap (λ n. length text + run.records * (n + 2 * c.block_samples.result)) ordinary
    ∙ ap (λ n. length text + run.records * (2 * samples_in_all l.key.signals + 2 * n))
    c.block_samples.ensures.value in
    run-sent base _ _ text _ _ refl refl refl is-key begins header _ whole refl refl
    c.in_ok-send.ensures.0

pub returns-clause-reread : goal.returns-clause-reread
returns-clause-reread g c =
    let l = c.args.fragment.now.header in
    let run = c.args.run.now in
    let key : c.identity-identity.result.now ≡ l.key = c.identity-identity.ensures
    ∙ ap (λ (x : Layout). x.key) c.header-2.ensures in
    let text = c.as_slice.result.now in
    let base = begins g.R.Input refl (c.nanos.ensures.value ∙ c.first-2.ensures) key
    c.duration.ensures.value c.of.ensures in
    record {
      header = sent-header base _ _ text _ _ refl refl refl c.in_ok-send.ensures.0;
      unchanged = λ n same. cc;
    }

pub returns-clause-counted : goal.returns-clause-counted
returns-clause-counted g c =
    let l = c.args.fragment.now.header in
    let run = c.args.run.now in
    let key : c.identity-identity.result.now ≡ l.key = c.identity-identity.ensures
    ∙ ap (λ (x : Layout). x.key) c.header-2.ensures in
    let text = c.as_slice.result.now in
    let base = begins g.R.Input refl (c.nanos.ensures.value ∙ c.first-2.ensures) key
    c.duration.ensures.value c.of.ensures in
    (sent-counted base _ _ text _ _ refl refl refl c.in_ok-send.ensures.0, c.in_ok-send.ensures.1)
