use Rattle.std.proofs.Common.{◌≡◌, ◌∙◌, ◌++◌, ℕ, List, ap}
use Rattle.edf_picture.specs.Picture.{drawn_texts, named_by, names_of}
use Rattle.edf_picture.specs.declared.heading.TheConstants.{STYLE}
use Rattle.edf_picture.proofs.heading.head.Goals as goal

-- parts that were written one after the other
in-turn : (s0 s1 s2 a b c c' : List ℕ) → s0 ≡ a → s1 ≡ s0 ++ b → s2 ≡ s1 ++ c → c ≡ c' →
    s2 ≡ (a ++ b) ++ c'
in-turn s0 s1 s2 a b c c' e0 e1 e2 at = cc

same-names : (height : ℕ) (written name name' time more more' : List ℕ) → name ≡ name' →
    more ≡ more' → written ≡ names_of height name time more →
    written ≡ names_of height name' time more'
same-names height written name name' time more more' n m is =
    is ∙ ap (λ (x : List ℕ). names_of height x time more) n
    ∙ ap (λ (x : List ℕ). names_of height name' time x) m

pub returns : goal.returns
returns c = (
  c.as_bytes.result.now,
  in-turn _ _ _ _ STYLE.now _ (drawn_texts (named_by c.args.title.now) c.args.time.now)
      (same-names c.args.height _ _ _ c.args.time.now _ _
      (c.as_str.ensures.value ∙ c.in_ok-name.ensures)
      (c.as_str-2.ensures.value ∙ c.in_ok-more.ensures) c.in_ok-svg.ensures)
      c.in_ok-push_str.ensures.bytes c.in_ok-push_str-2.ensures.bytes
      (c.as_str-3.ensures.value ∙ c.in_ok-drawn.ensures),
)
