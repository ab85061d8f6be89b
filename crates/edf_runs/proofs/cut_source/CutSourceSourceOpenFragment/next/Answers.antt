use Rattle.std.proofs.Common.{ℕ, ap, subst, List, [], ◌∷◌, length, arith}
use Rattle.std.proofs.Common.{Option, Ok}
use Rattle.std.specs.Prelude.{true, false}
use Rattle.std.proofs.lemmas.Result.{err_from_is_err_and}
use Rattle.edf_fragment.specs.Fragment.{DataRecord}
use Rattle.edf_canonical.specs.Source.{at}
use Rattle.edf_runs.specs.Inside.Selecting.{AnswersNoted, NotesNext}
use Rattle.edf_runs.proofs.Selecting.{none-passed, note-passed, passes-then, window-test}
use Rattle.edf_runs.proofs.cut_source.CutSourceSourceOpenFragment.next.Goals as goal

pub skipped-init : goal.skipped-init
skipped-init g c = none-passed g.R.Input _

pub returns-in_err-noted-clause-answers : goal.returns-in_err-noted-clause-answers
returns-in_err-noted-clause-answers g c =
    let p = err_from_is_err_and c.from_residual.result c.from_residual.ensures.1 in
    rw (p.1, p.2) (
      at c.skipped.self c.skipped.fragment c.skipped.input,
      c.skipped.invariant,
      c.in_err-noted.ensures,
    )

pub returns-then-has-clause-answers : goal.returns-then-has-clause-answers
returns-then-has-clause-answers g c =
    let from = at c.skipped.self c.skipped.fragment c.skipped.input in
    let to = at c.next_noted.new.self c.next_noted.new.fragment c.next_noted.new.input in
    let note : NotesNext g.R.Input from to c.in-Some.noted =
    subst (λ (o : Option DataRecord). AnswersNoted g.R.Input from to (Ok o)) c.in-Some.is
    c.in_ok-noted.ensures in
    passes-then g.R.Input _ from to [] (c.in-Some.noted ∷ []) c.skipped.invariant
    (note-passed g.R.Input from to c.in-Some.noted true note
    (window-test _ _ _ _ c.has.result true note.window c.start.ensures.value c.has.ensures
    c.if-has.true))

pub skipped-smaller : goal.skipped-smaller
skipped-smaller g c =
    let from = at c.skipped.self c.skipped.fragment c.skipped.input in
    let to = at c.next_noted.new.self c.next_noted.new.fragment c.next_noted.new.input in
    let note : NotesNext g.R.Input from to c.in-Some.noted =
    subst (λ (o : Option DataRecord). AnswersNoted g.R.Input from to (Ok o)) c.in-Some.is
    c.in_ok-noted.ensures in
    let len = ap (λ (l : List ℕ). length l) note.taken in
    omega (arith, len)

pub skipped-preserved : goal.skipped-preserved
skipped-preserved g c =
    let from = at c.skipped.self c.skipped.fragment c.skipped.input in
    let to = at c.next_noted.new.self c.next_noted.new.fragment c.next_noted.new.input in
    let note : NotesNext g.R.Input from to c.in-Some.noted =
    subst (λ (o : Option DataRecord). AnswersNoted g.R.Input from to (Ok o)) c.in-Some.is
    c.in_ok-noted.ensures in
    passes-then g.R.Input _ from to [] [] c.skipped.invariant
    (note-passed g.R.Input from to c.in-Some.noted false note
    (window-test _ _ _ _ c.has.result false note.window c.start.ensures.value c.has.ensures
    c.if-has.false))

pub returns-in-None-clause-answers : goal.returns-in-None-clause-answers
returns-in-None-clause-answers g c =
    let from = at c.skipped.self c.skipped.fragment c.skipped.input in
    let to = at c.next_noted.new.self c.next_noted.new.fragment c.next_noted.new.input in (
      from,
      c.skipped.invariant,
      subst (λ (o : Option DataRecord). AnswersNoted g.R.Input from to (Ok o)) c.in-None.is
          c.in_ok-noted.ensures,
    )
