use Rattle.std.proofs.Common.{◌≡◌, ◌<◌, ◌++◌, ◌∷◌, List, ap, sym, ◌∙◌, subst, rules, arith, length}
use Rattle.std.proofs.Common.{map}
use Rattle.std.proofs.Common.{length-append, true, false}
use Rattle.std.proofs.lemmas.List.{length-map}
use Rattle.edf_cli.specs.Made.{MadeFile}
use Rattle.edf_cli.specs.There.{HasName}
use Rattle.edf_page.specs.Programs.{made_of}
use Rattle.edf_page.proofs.Replacing.{was}
use Rattle.edf_page.proofs.begun.BegunFiles.named_at.Goals as goal

pub returns : goal.returns
returns c front later file now at =
    let entries = c.self.inside.entries.items in
    let here : map made_of entries ≡ front ++ (file ∷ later) = c.self.view_is ∙ now in
    let lt : c.args.place < length entries =
    omega (arith, c.if-place-len.false, c.len.ensures, c.self.inside.entries.ok.0) in
    let is = was made_of entries c.args.place front later file here at c.index-entry.result.now lt
    c.index-entry.ensures in (
      subst HasName is (c.is_named.ensures.0 (search rules)),
      c.as_str.ensures.value ∙ ap (λ (f : MadeFile). f.name) is,
    )

pub returns-then-place-len : goal.returns-then-place-len
returns-then-place-len c front later file now at has =
    let entries = c.self.inside.entries.items in
    let here : map made_of entries ≡ front ++ (file ∷ later) = c.self.view_is ∙ now in
    let size = ap (λ (l : List MadeFile). length l) here in
    absurd (omega (
      arith,
      size,
      at,
      length-map entries made_of,
      length-append front (file ∷ later),
      c.if-place-len.true,
      c.len.ensures,
      c.self.inside.entries.ok.0,
    ))

pub returns-then-not-is_named : goal.returns-then-not-is_named
returns-then-not-is_named c front later file now at has =
    let entries = c.self.inside.entries.items in
    let here : map made_of entries ≡ front ++ (file ∷ later) = c.self.view_is ∙ now in
    let lt : c.args.place < length entries =
    omega (arith, c.if-place-len.false, c.len.ensures, c.self.inside.entries.ok.0) in
    let is = was made_of entries c.args.place front later file here at c.index-entry.result.now lt
    c.index-entry.ensures in
    let named : c.is_named.result ≡ true = c.is_named.ensures.1 (subst HasName (sym is) has) in
    let other : c.is_named.result ≡ false = search rules in
    absurd (cc)
