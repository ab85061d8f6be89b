use Rattle.std.proofs.Common.{◌≡◌, ◌<◌, ◌⊎◌, ℕ, inl, inr, [], length, take, arith, refl, ap, subst}
use Rattle.std.proofs.Common.{rules}
use Rattle.std.proofs.lemmas.List.{length-take}
use Rattle.std.specs.Io.KnownBytes.{Consumes}
use Rattle.edf_header.specs.Header.{least_records}
use Rattle.edf_fragment.proofs.advance.fill_record.Goals as goal

pub returns-then-least_given-progress : goal.returns-then-least_given-progress
returns-then-least_given-progress g c =
    let cut = c.in-Cut.ensures.cut c.in-Cut.at refl in
    let nil : take c.in-Cut.at c.fill.new.buf ≡ [] =
    ap (λ (n : ℕ). take n c.fill.new.buf) c.if-at-eq0.true in
    record {
      step = record {
        least = omega (arith, c.least_given.ensures, c.if-least_given-progress.true);
        most = omega (arith, c.requires.may_come);
        read = subst (Consumes _ _) nil cut.1;
        end = cut.2;
      };
      counted = search rules;
    }

pub returns-else-at-eq0 : goal.returns-else-at-eq0
returns-else-at-eq0 g c =
    let cut = c.in-Cut.ensures.cut c.in-Cut.at refl in
    let len = length-take c.in-Cut.at c.fill.new.buf in
    let there : (c.args.progress.given < least_records c.args.header.now.count)
    ⊎ (0 < length (take c.in-Cut.at c.fill.new.buf)) = elim c.else-at-eq0.branch [
      | goal.else-at-eq0-via-then-at-eq0+else-least_given-progress w ↦
          inl (omega (arith, w.least_given.ensures, w.if-least_given-progress.false))
      | goal.else-at-eq0-via-else-at-eq0 w ↦ inr (omega (arith, cut.0, len, w.if-at-eq0.false))
    ] in
    record {
      step = record {
        bytes = take c.in-Cut.at c.fill.new.buf;
        is_nth = refl;
        may_come = c.requires.may_come;
        read = cut.1;
        there = there;
        cut = omega (arith, cut.0, len, c.requires.fits);
        end = cut.2;
      };
      counted = search rules;
    }
