use Rattle.std.proofs.Common.{◌≡◌, take, ap, sym, ◌∙◌, subst, All, string_bytes, append-nil}
use Rattle.std.specs.List.{flat_map}
use Rattle.std.proofs.lemmas.Iterator.{YieldsList-from_slice, YieldsList-from_take}
use Rattle.std.proofs.lemmas.Iterator.Consumers.{YieldsList-end}
use Rattle.std.proofs.lemmas.List.Folds.{flat_map-map}
use Rattle.edf_picture.specs.Markup.{piece, IsPlain}
use Rattle.edf_picture.proofs.Cut.{cut-marked, uncut}
use Rattle.edf_picture.proofs.Plain.{plain-escaped}
use Rattle.edf_picture.proofs.escape.escaped.Goals as goal
use Rattle.edf_picture.proofs.escape.escaped.Goals.{then-text-limit+in_ok-push_str, else-text-limit}

pub returns-clause-text : goal.returns-clause-text
returns-clause-text c =
    let text = c.args.text.now in
    let shown = take c.args.limit text in
    let end = YieldsList-end (YieldsList-from_take c.args.limit (YieldsList-from_slice text cc) cc)
    c.loop-byte.yielded _ c.loop-byte.yielded_by _ _ c.in-None.is c.next.ensures.steps in
    let pieces = flat_map-map piece (λ byte. byte.now) c.loop-byte.yielded in
    let pieces : string_bytes c.loop-byte.out ≡ flat_map piece shown = c.loop-byte.invariant
    ∙ sym pieces ∙ ap (flat_map piece) end.0 in
    elim c.if-text-limit.branch [
      | then-text-limit+in_ok-push_str w ↦ let mark =
          cut-marked c.args.limit text w.if-text-limit.true in
          cc (pieces, mark, ap string_bytes w.out-is, w.in_ok-push_str.ensures.bytes)
      | else-text-limit w ↦ let mark = uncut c.args.limit text w.if-text-limit.false in
          cc (pieces, mark, ap string_bytes w.out-is, append-nil (flat_map piece shown))
    ]

pub returns-clause-plain : goal.returns-clause-plain
returns-clause-plain c = subst (All IsPlain) (sym (returns-clause-text c))
    (plain-escaped c.args.limit c.args.text.now)
