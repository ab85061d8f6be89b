use Rattle.std.proofs.Common.{◌≡◌, ◌≢◌, ◌-◌, ◌≤◌, ◌++◌, ◌∷◌, ◌∙◌, [], ℕ, List, ap, arith}
use Rattle.std.proofs.Common.{codes, get_or, length, refl, string_bytes, subst}
use Rattle.std.proofs.lemmas.Result.{IfOk-weaker}
use Rattle.edf_picture.proofs.Ends.{last_end-is}
use Rattle.edf_picture.specs.Picture.{IsInstantLabel, IsTimeLine, from_word}
use Rattle.edf_picture.specs.declared.extent.Extent.{Extent}
use Rattle.edf_picture.proofs.heading.time_line.Goals as goal

-- the word before the instants, by how many runs there are
word-of-one : (run : Extent) (runs : List Extent) → length (run ∷ runs) ≡ 1 →
    codes "complete from " ≡ from_word runs
word-of-one run [] one = refl
word-of-one run (next ∷ runs) one = absurd (omega arith)

word-of-more : (run : Extent) (runs : List Extent) → length (run ∷ runs) ≢ 1 →
    codes "from " ≡ from_word runs
word-of-more run [] more = absurd (more refl)
word-of-more run (next ∷ runs) more = refl

told : (runs : List Extent) (d d' : Extent) (word first last line : List ℕ) → 1 ≤ length runs →
    IsInstantLabel (get_or runs 0 d).from first →
    IsInstantLabel (get_or runs (length runs - 1) d').to last →
    ((run : Extent) (more : List Extent) → runs ≡ run ∷ more → word ≡ from_word more) →
    line ≡ word ++ (first ++ (codes " to " ++ last)) → IsTimeLine runs line
told [] d d' word first last line some a b same is = absurd (omega arith)
told (run ∷ runs) d d' word first last line some a b same is =
    let end : length (run ∷ runs) - 1 ≡ length runs = omega arith in (
      first,
      last,
      a,
      subst (λ (at : ℕ). IsInstantLabel at last) (ap (λ (k : ℕ). (get_or (run ∷ runs) k d').to) end
          ∙ last_end-is run runs d') b,
      is ∙ ap (λ (w : List ℕ). w ++ (first ++ (codes " to " ++ last))) (same run runs refl),
    )

pub returns-then-runs-eq1 : goal.returns-then-runs-eq1
returns-then-runs-eq1 c = IfOk-weaker c.format.result _ _ (λ line is. told c.args.runs.now _ _
    (codes "complete from ") (string_bytes c.in_ok-from.from) (string_bytes c.in_ok-to.to)
    (string_bytes line) c.in-len1-up.len_at_least c.in_ok-from.ensures c.in_ok-to.ensures
    (λ run more same. word-of-one run more (subst (λ (runs : List Extent). length runs ≡ 1) same
    c.if-runs-eq1.true)) is) c.format.ensures.ok

pub returns : goal.returns
returns c = IfOk-weaker c.format-else-runs-eq1.result _ _ (λ line is. told c.args.runs.now _ _
    (codes "from ") (string_bytes c.in_ok-from.from) (string_bytes c.in_ok-to.to)
    (string_bytes line) c.in-len1-up.len_at_least c.in_ok-from.ensures c.in_ok-to.ensures
    (λ run more same. word-of-more run more (subst (λ (runs : List Extent). length runs ≢ 1) same
    c.if-runs-eq1.false)) is) c.format-else-runs-eq1.ensures.ok
