use Rattle.std.proofs.Common.{◌≡◌, ◌+◌, ◌∷◌, ◌++◌, [], List, length, ap, ◌∙◌, subst, sym, arith}
use Rattle.std.specs.Prelude.{count_by}
use Rattle.edf_tal.specs.Tal.{Annotation}
use Rattle.edf_runs.specs.Counted.{is_outside, run_end, AreCounted}
use Rattle.edf_runs.proofs.Tallies.{counted-more}
use Rattle.edf_runs.proofs.tally.Tally.with.Goals as goal

pub returns : goal.returns
returns c few d run records tallied =
    let r = c.args.data_record.now in
    let notes : c.notes-notes.result.now ≡ r.annotations = c.notes-notes.ensures.value in
    let more : length c.notes-notes.result.now ≡ length r.annotations =
    ap (λ (l : List Annotation). length l) notes in
    let out : c.outside_of-outside.result
    ≡ count_by (is_outside run.first (run_end d run)) r.annotations =
    c.outside_of-outside.ensures
    ∙ ap (λ (l : List Annotation). count_by (is_outside c.args.self.first c.args.self.end) l) notes
    ∙ ap (λ n. count_by (is_outside n c.args.self.end) r.annotations) tallied.first
    ∙ ap (λ n. count_by (is_outside run.first n) r.annotations) tallied.end in
    let all : c.saturating_add.result ≡ c.args.self.annotations + length c.notes-notes.result.now =
    omega (arith, c.saturating_add.ensures, few, c.notes-notes.ensures.limits.count) in
    let outside : c.saturating_add-2.result
    ≡ c.args.self.outside + c.outside_of-outside.result =
    omega (
      arith,
      c.saturating_add-2.ensures,
      few,
      c.args.self.part,
      c.outside_of-outside.ensures,
      c.notes-notes.ensures.limits.count,
    ) in
    record {
      first = tallied.first;
      end = tallied.end;
      counted = subst (λ n. AreCounted d run (records ++ r ∷ []) n c.saturating_add-2.result)
          (sym all)
          (subst (λ n. AreCounted d run (records ++ r ∷ [])
          (c.args.self.annotations + length c.notes-notes.result.now) n) (sym outside)
          (counted-more d run records r _ _ _ _ tallied.counted more out));
    }
