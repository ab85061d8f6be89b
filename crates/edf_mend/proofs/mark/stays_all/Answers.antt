use Rattle.std.proofs.Common.{◌≡◌, refl, sym, ◌∙◌}
use Rattle.edf_header.specs.Fields.{patient_field, duration_field}
use Rattle.edf_mend.specs.Texts.{spaced}
use Rattle.edf_mend.specs.Header.{StaysAll}
use Rattle.edf_mend.proofs.Tests.{says-no, is-not, none-of}
use Rattle.edf_mend.proofs.mark.stays_all.Goals as goal

pub returns-then-not-branch : goal.returns-then-not-branch
returns-then-not-branch c =
    let h = c.args.headers.now in
    says-no _ (StaysAll c.args.wanted.now h.n h.first.now h.second.now c.args.text.now h.count
    h.strict.now h.strict_signals.now) refl
    (λ all. is-not _ (patient_field h.strict.now ≡ spaced (patient_field h.first.now))
    c.if-not-branch.true c.in_ok-is_spaced.ensures all.patient)

pub returns-then-not-branch-2 : goal.returns-then-not-branch-2
returns-then-not-branch-2 c =
    let h = c.args.headers.now in
    says-no _ (StaysAll c.args.wanted.now h.n h.first.now h.second.now c.args.text.now h.count
    h.strict.now h.strict_signals.now) refl
    (λ all. is-not _ (duration_field h.strict.now ≡ spaced (duration_field h.first.now))
    c.if-not-branch-2.true c.in_ok-is_spaced-2.ensures all.duration)

pub returns-then-not-is_same : goal.returns-then-not-is_same
returns-then-not-is_same c =
    let h = c.args.headers.now in
    says-no _ (StaysAll c.args.wanted.now h.n h.first.now h.second.now c.args.text.now h.count
    h.strict.now h.strict_signals.now) refl
    (λ all. is-not _ (c.args.text.now ≡ c.unfilled.result.now) c.if-not-is_same.true
    c.is_same.ensures (all.recording ∙ sym c.unfilled.ensures))

pub returns : goal.returns
returns c = (
  λ t. record {
    patient = c.in_ok-is_spaced.ensures.0 c.if-not-branch.false;
    recording = c.is_same.ensures.0 c.if-not-is_same.false ∙ c.unfilled.ensures;
    duration = c.in_ok-is_spaced-2.ensures.0 c.if-not-branch-2.false;
    startdate = none-of c.args.wanted.now.startdate
        (sym c.is_some.ensures ∙ c.if-is_some.false);
    starttime = none-of c.args.wanted.now.starttime
        (sym c.is_some-else-is_some.ensures ∙ c.if-is_some-2.false);
    each = c.in_ok-stay_rows.ensures.0 t;
  },
  λ all. c.in_ok-stay_rows.ensures.1 all.each,
)
