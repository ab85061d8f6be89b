-- Which bytes ask for what.
use Rattle.std.proofs.Common.{◌≡◌, ℕ, refl, ap, List, ◌++◌, codes, arith, get_or, subst}
use Rattle.std.proofs.lemmas.List.{append_cancel_left}
use Rattle.edf_serve.specs.Laws.{AsksOnce}
use Rattle.edf_serve.specs.Line.{LineAsked, AskFor}
use Rattle.edf_serve.specs.Line.LineAsked.{take, list}

-- lines with other first letters
apart : (one other : List ℕ) → one ≡ other → (get_or one 0 0 ≡ get_or other 0 0 → ⊥) → ⊥
apart one other e differ = differ (ap (λ (l : List ℕ). get_or l 0 0) e)

for-take : (name : List ℕ) (asked : LineAsked) → AskFor (codes "take " ++ name) asked →
    take name ≡ asked
for-take name (take other) a = ap take (append_cancel_left (codes "take ") name other a.0)
for-take name list a = absurd (apart _ (codes "list") a (λ e. omega (arith, e)))

for-list : (asked : LineAsked) → AskFor (codes "list") asked → list ≡ asked
for-list (take name) a = absurd (apart _ (codes "take " ++ name) a.0 (λ e. omega (arith, e)))
for-list list a = refl

pub asks-once : AsksOnce
asks-once line (take name) other a b =
    for-take name other (subst (λ (l : List ℕ). AskFor l other) a.0 b)
asks-once line list other a b = for-list other (subst (λ (l : List ℕ). AskFor l other) a b)
