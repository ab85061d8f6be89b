use Rattle.std.proofs.Common.{◌≡◌, ◌<◌, ◌≤◌, ℕ, List, take, ap, sym, ◌∙◌, subst, All, string_bytes}
use Rattle.std.proofs.Common.{append-nil, length, chars}
use Rattle.std.specs.List.{flat_map}
use Rattle.std.proofs.lemmas.Iterator.{YieldsList-from_chars, YieldsList-from_take}
use Rattle.std.proofs.lemmas.Iterator.Consumers.{YieldsList-end}
use Rattle.std.proofs.lemmas.List.Folds.{flat_map-map}
use Rattle.std.proofs.lemmas.Str.{Chars-Drains, encodes-chars}
use Rattle.edf_picture.specs.Readable.{glyph, IsReadable}
use Rattle.edf_picture.proofs.Cut.{cut-marked, uncut}
use Rattle.edf_picture.proofs.Legible.{readable-all}
use Rattle.edf_picture.proofs.escape.readable.Goals as goal
use Rattle.edf_picture.proofs.escape.readable.Goals.{then-count-limit+in_ok-push_str, else-count-limit}

pub returns-clause-text : goal.returns-clause-text
returns-clause-text c =
    let text = c.args.text.now in
    let all = chars text in
    let shown = take c.args.limit all in
    let end = YieldsList-end (YieldsList-from_take c.args.limit
    (YieldsList-from_chars text c.utf8.text cc) cc)
    c.loop-character.yielded _ c.loop-character.yielded_by _ _ c.in-None.is
    c.next.ensures.steps in
    let glyphs = flat_map-map glyph (λ (x : ℕ). x) c.loop-character.yielded in
    let written : string_bytes c.loop-character.out ≡ flat_map glyph shown =
    c.loop-character.invariant ∙ sym glyphs ∙ ap (flat_map glyph) end.0 in
    let ran = c.count.ensures.ran in
    let count : c.count.result ≡ length all =
    ran.2 ∙ ap (λ (xs : List ℕ). length xs) (Chars-Drains all ran.0 c.chars-2.result
    (encodes-chars text c.utf8.text ∙ sym c.chars-2.ensures.rest) ran.1) in
    elim c.if-count-limit.branch [
      | then-count-limit+in_ok-push_str w ↦ let mark =
          cut-marked c.args.limit all (subst (λ (n : ℕ). c.args.limit < n) count
          w.if-count-limit.true) in
          cc (written, mark, ap string_bytes w.out-is, w.in_ok-push_str.ensures.bytes)
      | else-count-limit w ↦ let mark = uncut c.args.limit all
          (subst (λ (n : ℕ). n ≤ c.args.limit) count w.if-count-limit.false) in
          cc (written, mark, ap string_bytes w.out-is, append-nil (flat_map glyph shown))
    ]

pub returns-clause-plain : goal.returns-clause-plain
returns-clause-plain c = subst (All IsReadable) (sym (returns-clause-text c))
    (readable-all c.args.limit (chars c.args.text.now))
