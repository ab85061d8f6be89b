-- Bytes that are cut by sizes: in one way at most, and where the sizes add up to their number.
use Rattle.std.proofs.Common.{◌≡◌, ℕ, zero, suc, ◌+◌, ◌≤◌, ◌<◌, List, [], ◌∷◌, ◌++◌, map, length}
use Rattle.std.proofs.Common.{take, refl, sym, ap, subst, ◌∙◌, arith, length-append}
use Rattle.std.proofs.lemmas.List.{append_cancel_left, take-append-le, take_all}
use Rattle.std.proofs.Common.{All, Bor, get_or}
use Rattle.std.specs.Str.{IsUtf8}
use Rattle.std.proofs.lemmas.List.{get_or-map, length-map}
use Rattle.std.proofs.lemmas.List.Elements.{All-head, All-tail, All-cons, All-nil}
use Rattle.edf_page_exports.specs.Laid.{AreCut, AreTexts, laid}

abbrev total : List ℕ → ℕ
total [] = 0
total (x ∷ xs) = x + total xs

length-laid : (ps : List (List ℕ)) → length (laid ps) ≡ total (map length ps)
length-laid [] = refl
length-laid (p ∷ ps) =
    length-append p (laid ps) ∙ ap (λ (n : ℕ). length p + n) (length-laid ps)

total-take : (i : ℕ) (xs : List ℕ) → total (take i xs) ≤ total xs
total-take zero xs = omega arith
total-take (suc i) [] = omega arith
total-take (suc i) (x ∷ xs) = omega (arith, total-take i xs)

total-append : (xs ys : List ℕ) → total (xs ++ ys) ≡ total xs + total ys
total-append [] ys = omega arith
total-append (x ∷ xs) ys = omega (arith, total-append xs ys)

-- the bytes are as many as the sizes add up to
cut-total : (bytes sizes : List ℕ) (ps : List (List ℕ)) → AreCut bytes sizes ps →
    length bytes ≡ total sizes
cut-total bytes sizes ps cut =
    ap length cut.all ∙ (length-laid ps ∙ ap total (sym cut.sized))

front-total : (bytes left : List ℕ) (front : List (List ℕ)) → bytes ≡ laid front ++ left →
    length bytes ≡ total (map length front) + length left
front-total bytes left front all = ap length all ∙ (length-append (laid front) left
    ∙ ap (λ (n : ℕ). n + length left) (length-laid front))

-- they are not cut where too few are left for a size
pub too-few : (bytes left sizes : List ℕ) (front : List (List ℕ)) (i size : ℕ) →
    bytes ≡ laid front ++ left → take i sizes ≡ map length front →
    take (i + 1) sizes ≡ take i sizes ++ size ∷ [] → length left < size →
    (ps : List (List ℕ)) → AreCut bytes sizes ps → ⊥
too-few bytes left sizes front i size all sized more few ps cut =
    let here = front-total bytes left front all in
    let whole = cut-total bytes sizes ps cut in
    let next : total (take (i + 1) sizes) ≡ total (map length front) + (size + 0) =
    ap total more ∙ (total-append (take i sizes) (size ∷ [])
    ∙ ap (λ (xs : List ℕ). total xs + (size + 0)) sized) in
    omega (arith, here, whole, next, total-take (i + 1) sizes, few)

-- nor where some are left over
pub too-many : (bytes left sizes : List ℕ) (front : List (List ℕ)) →
    bytes ≡ laid front ++ left → sizes ≡ map length front → 1 ≤ length left →
    (ps : List (List ℕ)) → AreCut bytes sizes ps → ⊥
too-many bytes left sizes front all sized some ps cut =
    let here = front-total bytes left front all in
    let whole = cut-total bytes sizes ps cut in
    let same : total sizes ≡ total (map length front) = ap total sized in
    omega (arith, here, whole, same, some)

-- ---- one way

head-is : {A : Type 0} (x y : A) (xs ys : List A) → x ∷ xs ≡ y ∷ ys → x ≡ y
head-is x y xs ys same = cc

tail-is : {A : Type 0} (x y : A) (xs ys : List A) → x ∷ xs ≡ y ∷ ys → xs ≡ ys
tail-is x y xs ys same = cc

same-front : (p q ps qs : List ℕ) → length p ≡ length q → p ++ ps ≡ q ++ qs → p ≡ q
same-front [] [] ps qs len same = refl
same-front [] (y ∷ q) ps qs len same = absurd (omega (arith, len))
same-front (x ∷ p) [] ps qs len same = absurd (omega (arith, len))
same-front (x ∷ p) (y ∷ q) ps qs len same =
    let first = head-is x y (p ++ ps) (q ++ qs) same in
    let rest = same-front p q ps qs (omega (arith, len)) (tail-is x y (p ++ ps) (q ++ qs) same) in
    ap (λ (z : ℕ). z ∷ p) first ∙ ap (λ (l : List ℕ). y ∷ l) rest

same-pieces : (ps qs : List (List ℕ)) → laid ps ≡ laid qs → map length ps ≡ map length qs →
    ps ≡ qs
same-pieces [] [] all sized = refl
same-pieces [] (q ∷ qs) all sized = absurd (cc)
same-pieces (p ∷ ps) [] all sized = absurd (cc)
same-pieces (p ∷ ps) (q ∷ qs) all sized =
    let first : p ≡ q = same-front p q (laid ps) (laid qs)
    (head-is (length p) (length q) (map length ps) (map length qs) sized) all in
    let rest : laid ps ≡ laid qs = append_cancel_left q (laid ps) (laid qs)
    (subst (λ (f : List ℕ). f ++ laid ps ≡ q ++ laid qs) first all) in
    let others = same-pieces ps qs rest
    (tail-is (length p) (length q) (map length ps) (map length qs) sized) in
    ap (λ (z : List ℕ). z ∷ ps) first ∙ ap (λ (l : List (List ℕ)). q ∷ l) others

pub one-cut : (bytes sizes : List ℕ) (pieces others : List (List ℕ)) →
    AreCut bytes sizes pieces → AreCut bytes sizes others → pieces ≡ others
one-cut bytes sizes pieces others cut other = same-pieces pieces others
    (sym cut.all ∙ other.all) (sym cut.sized ∙ other.sized)

-- ---- texts

abbrev pub bytes_of : Bor (List ℕ) → List ℕ
bytes_of piece = piece.now

-- they are none where a piece is none
pub not-texts : (bytes sizes : List ℕ) (pieces : List (Bor (List ℕ))) (at : ℕ) (d : Bor (List ℕ))
    → AreCut bytes sizes (map bytes_of pieces) → at < length pieces →
    ¬ IsUtf8 (bytes_of (get_or pieces at d)) → (texts : List (List ℕ)) →
    AreTexts bytes sizes texts → ⊥
not-texts bytes sizes pieces at d cut lt not texts are =
    let all = subst (All IsUtf8) (one-cut bytes sizes texts (map bytes_of pieces) are.cut cut)
    are.each in
    not (subst IsUtf8 (get_or-map bytes_of pieces at d (bytes_of d) lt)
    (all at (bytes_of d) (omega (arith, lt, length-map pieces bytes_of))))

pub all-more : (P : List ℕ → Type 0) (xs : List (List ℕ)) (x : List ℕ) → All P xs → P x →
    All P (xs ++ x ∷ [])
all-more P [] x all one = All-cons P x [] one (All-nil P)
all-more P (y ∷ xs) x all one = All-cons P y (xs ++ x ∷ []) (All-head P y xs all)
    (all-more P xs x (All-tail P y xs all) one)
