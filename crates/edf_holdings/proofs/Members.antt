-- Lists of data records as sets: membership, order, one record put in, many put in, equality, size.
use Rattle.std.proofs.Common.{◌≡◌, ℕ, ◌+◌, ◌<◌, ◌≤◌, ◌⊎◌, ◌≢◌, Bool, true, false, cond, nat_lt}
use Rattle.std.proofs.Common.{List, [], ◌∷◌, length, refl, sym, ap, subst, ◌∙◌, inl, inr, arith}
use Rattle.std.proofs.lemmas.Bool.{cond_both, cond-true, cond-false, both_ways, cases_Bool}
use Rattle.std.proofs.lemmas.Bool.{or_cases, or_left, or_right, or_parts, ltb-true, ltb-false}
use Rattle.std.proofs.lemmas.Bool.{le-ltb}
use Rattle.edf_fragment.specs.Fragment.{DataRecord}
use Rattle.edf_holdings.specs.Same.{same_record}
use Rattle.edf_holdings.specs.Clash.{clashes}
use Rattle.edf_holdings.specs.Rising.{contains_record, insert, union, count_new, StartsAreSpaced}
use Rattle.edf_holdings.proofs.Same.{same_record-true, same_record-refl, same_record-false}
use Rattle.edf_holdings.proofs.Same.{same_record_no, clashes-false, clashes-true}

-- membership by recursion
abbrev pub In : DataRecord → List DataRecord → Type 0
In r [] = ⊥
In r (x ∷ xs) = (x ≡ r) ⊎ In r xs

-- each record of the one list is in the other
abbrev pub Within : List DataRecord → List DataRecord → Type 0
Within xs ys = (y : DataRecord) → In y xs → In y ys

pub In-from_holds : (xs : List DataRecord) (r : DataRecord) → contains_record xs r ≡ true → In r xs
In-from_holds [] r e = cc
In-from_holds (x ∷ xs) r e = elim (or_cases _ _ e) [
  | inl a ↦ inl (same_record-true x r a)
  | inr b ↦
      inr (In-from_holds xs r b)
]

pub holds_from_In : (xs : List DataRecord) (r : DataRecord) → In r xs → contains_record xs r ≡ true
holds_from_In [] r h = absurd h
holds_from_In (x ∷ xs) r (inl p) =
    or_left _ _ (subst (λ (t : DataRecord). same_record x t ≡ true) p (same_record-refl x))
holds_from_In (x ∷ xs) r (inr h) = or_right _ _ (holds_from_In xs r h)

-- one record put in

pub in_inserted : (r y : DataRecord) (xs : List DataRecord) → In y (insert r xs) → (r ≡ y) ⊎ In y xs
in_inserted r y [] h = h
in_inserted r y (x ∷ xs) h =
    cond_both (same_record x r) (x ∷ xs)
    (cond (nat_lt r.start x.start) (r ∷ x ∷ xs) (x ∷ insert r xs))
    (λ (l : List DataRecord). In y l → (r ≡ y) ⊎ In y (x ∷ xs))
    (λ e k. inr k) (λ e. cond_both (nat_lt r.start x.start) (r ∷ x ∷ xs) (x ∷ insert r xs)
    (λ (l : List DataRecord). In y l → (r ≡ y) ⊎ In y (x ∷ xs))
    (λ _ k. k) (λ _ k. elim k [
      | inl p ↦ inr (inl p)
      | inr m ↦
          elim (in_inserted r y xs m) [ inl p ↦ inl p | inr n ↦ inr (inr n) ]
    ]))
    h

pub inserted_has : (r : DataRecord) (xs : List DataRecord) → In r (insert r xs)
inserted_has r [] = inl refl
inserted_has r (x ∷ xs) =
    cond_both (same_record x r) (x ∷ xs)
    (cond (nat_lt r.start x.start) (r ∷ x ∷ xs) (x ∷ insert r xs)) (In r)
    (λ e. inl (same_record-true x r e))
    (λ e. cond_both (nat_lt r.start x.start) (r ∷ x ∷ xs) (x ∷ insert r xs) (In r) (λ _. inl refl)
    (λ _. inr (inserted_has r xs)))

pub inserted_keeps : (r : DataRecord) (xs : List DataRecord) → Within xs (insert r xs)
inserted_keeps r [] y h = absurd h
inserted_keeps r (x ∷ xs) y h =
    cond_both (same_record x r) (x ∷ xs)
    (cond (nat_lt r.start x.start) (r ∷ x ∷ xs) (x ∷ insert r xs)) (In y) (λ e. h)
    (λ e. cond_both (nat_lt r.start x.start) (r ∷ x ∷ xs) (x ∷ insert r xs) (In y) (λ _. inr h)
    (λ _. elim h [ inl p ↦ inl p | inr m ↦ inr (inserted_keeps r xs y m) ]))

pub length_inserted_new : (r : DataRecord) (xs : List DataRecord) → contains_record xs r ≡ false →
    length (insert r xs) ≡ length xs + 1
length_inserted_new r [] e = refl
length_inserted_new r (x ∷ xs) e =
    let p = or_parts _ _ e in
    cond_both (same_record x r) (x ∷ xs)
    (cond (nat_lt r.start x.start) (r ∷ x ∷ xs) (x ∷ insert r xs))
    (λ (l : List DataRecord). length l ≡ length (x ∷ xs) + 1)
    (λ t. absurd (both_ways _ p.0 t))
    (λ _. cond_both (nat_lt r.start x.start) (r ∷ x ∷ xs) (x ∷ insert r xs)
    (λ (l : List DataRecord). length l ≡ length (x ∷ xs) + 1)
    (λ _. omega arith) (λ _. omega (arith, length_inserted_new r xs p.1)))

-- order

pub apart_weaker : (d low low' : ℕ) (xs : List DataRecord) → low' ≤ low → StartsAreSpaced d low xs →
    StartsAreSpaced d low' xs
apart_weaker d low low' [] l h = tt
apart_weaker d low low' (x ∷ xs) l h = (omega (arith, h.0), h.1)

pub in_apart : (d low : ℕ) (y : DataRecord) (xs : List DataRecord) → StartsAreSpaced d low xs →
    In y xs → low ≤ y.start
in_apart d low y [] a h = absurd h
in_apart d low y (x ∷ xs) a (inl p) = subst (λ (t : DataRecord). low ≤ t.start) p a.0
in_apart d low y (x ∷ xs) a (inr h) = omega (arith, a.0, in_apart d (x.start + d) y xs a.1 h)

-- what is in the rest of the list starts later than its first
pub in_rest : (d low : ℕ) (x y : DataRecord) (xs : List DataRecord) →
    StartsAreSpaced d low (x ∷ xs) → In y xs → x.start + d ≤ y.start
in_rest d low x y xs a h = in_apart d (x.start + d) y xs a.1 h

pub apart_inserted : (d low : ℕ) (r : DataRecord) (xs : List DataRecord) →
    StartsAreSpaced d low xs →
    low ≤ r.start → ((y : DataRecord) → In y xs → clashes d r y ≡ false) →
    StartsAreSpaced d low (insert r xs)
apart_inserted d low r [] a l n = (l, tt)
apart_inserted d low r (x ∷ xs) a l n =
    cond_both (same_record x r) (x ∷ xs)
    (cond (nat_lt r.start x.start) (r ∷ x ∷ xs) (x ∷ insert r xs)) (StartsAreSpaced d low) (λ e. a)
    (λ e. cond_both (nat_lt r.start x.start) (r ∷ x ∷ xs) (x ∷ insert r xs) (StartsAreSpaced d low)
    (λ t. (l, (before e (ltb-true _ _ t), a.1)))
    (λ t. (
      a.0,
      apart_inserted d (x.start + d) r xs a.1 (apart-after e (ltb-false _ _ t))
          (λ y m. n y (inr m)),
    )))
  where
    before : same_record x r ≡ false → r.start < x.start → r.start + d ≤ x.start
    before e t = elim (clashes-false d r x (n x (inl refl))) [
      | inl p ↦
          absurd (same_record-false x r e (sym p))
      | inr q ↦
          elim q [ inl b ↦ omega arith | inr b ↦ b ]
    ]

    apart-after : same_record x r ≡ false → x.start ≤ r.start → x.start + d ≤ r.start
    apart-after e t = elim (clashes-false d r x (n x (inl refl))) [
      | inl p ↦
          absurd (same_record-false x r e (sym p))
      | inr q ↦
          elim q [ inl b ↦ b | inr b ↦ omega arith ]
    ]

-- a record that is there changes nothing
pub inserted_held : (d low : ℕ) (r : DataRecord) (xs : List DataRecord) → 0 < d →
    StartsAreSpaced d low xs → In r xs → insert r xs ≡ xs
inserted_held d low r [] z a h = absurd h
inserted_held d low r (x ∷ xs) z a (inl p) =
    cond-true _ _ _ (subst (λ (t : DataRecord). same_record x t ≡ true) p (same_record-refl x))
inserted_held d low r (x ∷ xs) z a (inr h) =
    let later = in_rest d low x r xs a h in
    let b : x.start ≤ r.start = omega arith in
    cond-false _ _ _ (same_record_no x r (λ p. differ p later))
    ∙ (cond-false _ _ _ (le-ltb _ _ b)
    ∙ ap (λ l. x ∷ l) (inserted_held d (x.start + d) r xs z a.1 h))
  where
    differ : x ≡ r → x.start + d ≤ r.start → ⊥
    differ p l = omega (arith, ap (λ (t : DataRecord). t.start) p)

-- two lists in order with the same records are equal
pub same_lists : (d low low' : ℕ) (xs ys : List DataRecord) → 0 < d → StartsAreSpaced d low xs →
    StartsAreSpaced d low' ys → Within xs ys → Within ys xs → xs ≡ ys
same_lists d low low' [] [] z a b f g = refl
same_lists d low low' [] (y ∷ ys) z a b f g = absurd (g y (inl refl))
same_lists d low low' (x ∷ xs) [] z a b f g = absurd (f x (inl refl))
same_lists d low low' (x ∷ xs) (y ∷ ys) z a b f g =
    elim (f x (inl refl)) [
      | inl p ↦ cc (p, same_lists d (x.start + d) (y.start + d) xs ys z a.1 b.1 (down p) (up p))
      | inr m ↦ elim (g y (inl refl)) [
        | inl q ↦ cc (
          q,
          same_lists d (x.start + d) (y.start + d) xs ys z a.1 b.1 (down (sym q))
              (up (sym q)),
        )
        | inr n ↦ absurd (omega (arith, in_rest d low' y x ys b m, in_rest d low x y xs a n))
      ]
    ]
  where
    down : y ≡ x → Within xs ys
    down p w h = elim (f w (inr h)) [
      | inr k ↦ k
      | inl q ↦
          absurd (omega (
            arith,
            in_rest d low x w xs a h,
            ap (λ (t : DataRecord). t.start) p,
            ap (λ (t : DataRecord). t.start) q,
          ))
    ]

    up : y ≡ x → Within ys xs
    up p w h = elim (g w (inr h)) [
      | inr k ↦ k
      | inl q ↦
          absurd (omega (
            arith,
            in_rest d low' y w ys b h,
            ap (λ (t : DataRecord). t.start) p,
            ap (λ (t : DataRecord). t.start) q,
          ))
    ]

-- a list in order whose records are all in another one is no longer than that one
pub within_shorter : (d low low' : ℕ) (xs ys : List DataRecord) → 0 < d → StartsAreSpaced d low xs →
    StartsAreSpaced d low' ys → Within xs ys → length xs ≤ length ys
within_shorter d low low' [] ys z a b f = omega arith
within_shorter d low low' (x ∷ xs) [] z a b f = absurd (f x (inl refl))
within_shorter d low low' (x ∷ xs) (y ∷ ys) z a b f =
    elim (f x (inl refl)) [
      | inl p ↦ omega (
        arith,
        within_shorter d (x.start + d) (y.start + d) xs ys z a.1 b.1
            (rest (omega (arith, ap (λ (t : DataRecord). t.start) p))),
      )
      | inr m ↦ omega (arith, within_shorter d low (y.start + d) (x ∷ xs) ys z a b.1 (all m))
    ]
  where
    rest : y.start ≤ x.start → Within xs ys
    rest l w h = elim (f w (inr h)) [
      | inr k ↦ k
      | inl q ↦
          absurd (omega (arith, in_rest d low x w xs a h, ap (λ (t : DataRecord). t.start) q))
    ]

    all : In x ys → Within (x ∷ xs) ys
    all m w (inl p) = subst (λ (t : DataRecord). In t ys) p m
    all m w (inr h) = rest (omega (arith, in_rest d low' y x ys b m)) w h

-- many records put in

pub in_joined : (y : DataRecord) (xs rs : List DataRecord) → In y (union xs rs) → In y xs ⊎ In y rs
in_joined y xs [] h = inl h
in_joined y xs (r ∷ rs) h =
    elim (in_joined y (insert r xs) rs h) [
      | inr k ↦ inr (inr k)
      | inl k ↦ elim (in_inserted r y xs k) [ inl p ↦ inr (inl p) | inr m ↦ inl m ]
    ]

pub joined_keeps : (xs rs : List DataRecord) → Within xs (union xs rs)
joined_keeps xs [] y h = h
joined_keeps xs (r ∷ rs) y h = joined_keeps (insert r xs) rs y (inserted_keeps r xs y h)

pub joined_has : (xs rs : List DataRecord) → Within rs (union xs rs)
joined_has xs [] y h = absurd h
joined_has xs (r ∷ rs) y (inl p) =
    joined_keeps (insert r xs) rs y (subst (λ (t : DataRecord). In t (insert r xs)) p
    (inserted_has r xs))
joined_has xs (r ∷ rs) y (inr h) = joined_has (insert r xs) rs y h

pub joined_held : (d low : ℕ) (xs rs : List DataRecord) → 0 < d → StartsAreSpaced d low xs →
    Within rs xs → union xs rs ≡ xs
joined_held d low xs [] z a w = refl
joined_held d low xs (r ∷ rs) z a w =
    ap (λ l. union l rs) (inserted_held d low r xs z a (w r (inl refl)))
    ∙ joined_held d low xs rs z a (λ y m. w y (inr m))

-- no record of the one list clashes with one of the other
abbrev pub AreFree : ℕ → List DataRecord → List DataRecord → Type 0
AreFree d xs rs = (r x : DataRecord) → In r rs → In x xs → clashes d r x ≡ false

-- records that lie apart don't clash
pub apart_first : (d low : ℕ) (r s : DataRecord) (rs : List DataRecord) →
    StartsAreSpaced d low (r ∷ rs) → In s rs → clashes d s r ≡ false
apart_first d low r s rs a h = elim (cases_Bool (clashes d s r)) [
  | inr e ↦ e
  | inl e ↦
      absurd (close (clashes-true d s r e))
]
  where
    close : (s ≢ r) × (s.start < r.start + d) × (r.start < s.start + d) → ⊥
    close c = omega (arith, in_rest d low r s rs a h, c.1)

pub free_tail : (d low : ℕ) (r : DataRecord) (xs rs : List DataRecord) →
    StartsAreSpaced d low (r ∷ rs) → AreFree d xs (r ∷ rs) → AreFree d (insert r xs) rs
free_tail d low r xs rs a f s y m n =
    elim (in_inserted r y xs n) [
      | inr k ↦ f s y (inr m) k
      | inl p ↦ subst (λ (t : DataRecord). clashes d s t ≡ false) p (apart_first d low r s rs a m)
    ]

pub apart_joined : (d low : ℕ) (xs rs : List DataRecord) → StartsAreSpaced d 0 xs →
    StartsAreSpaced d low rs → AreFree d xs rs → StartsAreSpaced d 0 (union xs rs)
apart_joined d low xs [] a b f = a
apart_joined d low xs (r ∷ rs) a b f =
    apart_joined d (r.start + d) (insert r xs) rs
    (apart_inserted d 0 r xs a (omega arith) (λ y m. f r y (inl refl) m)) b.1
    (free_tail d low r xs rs b f)

pub same_Bool : (a b : Bool) → (a ≡ true → b ≡ true) → (b ≡ true → a ≡ true) → a ≡ b
same_Bool true b f g = sym (f refl)
same_Bool false true f g = g refl
same_Bool false false f g = refl

-- two sets that have the same of a list's records lack the same number of them
pub new_same : (xs ys rs : List DataRecord) →
    ((y : DataRecord) → In y rs → (In y ys → In y xs) × (In y xs → In y ys)) →
    count_new ys rs ≡ count_new xs rs
new_same xs ys [] w = refl
new_same xs ys (s ∷ rs) w =
    cc (
      same_Bool (contains_record ys s) (contains_record xs s)
          (λ e. holds_from_In xs s ((w s (inl refl)).0 (In-from_holds ys s e)))
          (λ e. holds_from_In ys s ((w s (inl refl)).1 (In-from_holds xs s e))),
      new_same xs ys rs (λ y m. w y (inr m)),
    )

-- records later than r are new after r was put in where they were before
pub new_tail : (d low : ℕ) (r : DataRecord) (xs rs : List DataRecord) → 0 < d →
    StartsAreSpaced d low (r ∷ rs) → count_new (insert r xs) rs ≡ count_new xs rs
new_tail d low r xs rs z a = new_same xs (insert r xs) rs
    (λ y m. (λ n. old y m n, inserted_keeps r xs y))
  where
    old : (y : DataRecord) → In y rs → In y (insert r xs) → In y xs
    old y m n = elim (in_inserted r y xs n) [
      | inr k ↦ k
      | inl p ↦
          absurd (omega (arith, in_rest d low r y rs a m, ap (λ (t : DataRecord). t.start) p))
    ]

-- the set grows by the number of the records that are new
pub length_joined : (d low low' : ℕ) (xs rs : List DataRecord) → 0 < d → StartsAreSpaced d low rs →
    StartsAreSpaced d low' xs → AreFree d xs rs → length (union xs rs) ≡ length xs + count_new xs rs
length_joined d low low' xs [] z a b f = omega arith
length_joined d low low' xs (r ∷ rs) z a b f =
    cond_both (contains_record xs r) (count_new xs rs) (1 + count_new xs rs)
    (λ n. length (union (insert r xs) rs) ≡ length xs + n)
    (λ e. ap (λ l. length (union l rs)) (same e)
    ∙ length_joined d (r.start + d) low' xs rs z a.1 b (λ s x m n. f s x (inr m) n))
    (λ e. omega (
      arith,
      length_joined d (r.start + d) 0 (insert r xs) rs z a.1
          (apart_inserted d 0 r xs (apart_weaker d low' 0 xs (omega arith) b) (omega arith)
          (λ y m. f r y (inl refl) m)) (free_tail d low r xs rs a f),
      new_tail d low r xs rs z a,
      length_inserted_new r xs e,
    ))
  where
    same : contains_record xs r ≡ true → insert r xs ≡ xs
    same e = inserted_held d low' r xs z b (In-from_holds xs r e)

-- nothing is new exactly where all is held
pub within_from_none_new : (xs rs : List DataRecord) → count_new xs rs ≡ 0 → Within rs xs
within_from_none_new xs [] e y h = absurd h
within_from_none_new xs (r ∷ rs) e y h =
    elim (cases_Bool (contains_record xs r)) [
      | inl t ↦ elim h [
        | inl p ↦ subst (λ (u : DataRecord). In u xs) p (In-from_holds xs r t)
        | inr m ↦ within_from_none_new xs rs (sym (cond-true _ _ _ t) ∙ e) y m
      ]
      | inr t ↦ absurd (omega (
        arith,
        sym (cond-false (contains_record xs r) (count_new xs rs) (1 + count_new xs rs) t) ∙ e,
      ))
    ]

pub none_new : (xs rs : List DataRecord) → Within rs xs → count_new xs rs ≡ 0
none_new xs [] w = refl
none_new xs (r ∷ rs) w = cond-true _ _ _ (holds_from_In xs r (w r (inl refl)))
    ∙ none_new xs rs (λ y m. w y (inr m))
