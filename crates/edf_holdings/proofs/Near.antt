-- What the code reads off the records near a start, and the steps of its loop.
use Rattle.std.proofs.Common.{◌≡◌, ℕ, ◌+◌, ◌<◌, ◌≤◌, ◌≢◌, Bool, true, false, not, cond, ◌&&◌, ◌||◌}
use Rattle.std.proofs.Common.{nat_lt, List, [], ◌∷◌, ◌++◌, length, Option, Some, None, refl, sym}
use Rattle.std.proofs.Common.{ap, subst, ◌∙◌, inl, inr, arith, find, filter}
use Rattle.std.proofs.lemmas.Bool.{cond_both, cond-true, cond-false, both_ways, cases_Bool}
use Rattle.std.proofs.lemmas.Bool.{and_parts, and_from, and_right, ltb-true, lt-ltb, or_left}
use Rattle.std.specs.Option.{option_or}
use Rattle.edf_fragment.specs.Fragment.{DataRecord}
use Rattle.edf_holdings.specs.Same.{same_record}
use Rattle.edf_holdings.specs.Clash.{clashes, intervals_overlap, overlapping, first_other}
use Rattle.edf_holdings.specs.Rising.{contains_record, insert, union, count_new, StartsAreSpaced}
use Rattle.edf_holdings.specs.Reply.{clash_or, first_clash}
use Rattle.edf_holdings.proofs.Same.{same_record-true, same_record-refl, same_record_no}
use Rattle.edf_holdings.proofs.Members.{In, In-from_holds, holds_from_In, in_joined, joined_keeps}
use Rattle.edf_holdings.proofs.Members.{same_Bool}

-- at most two

near_none : (d low start : ℕ) (xs : List DataRecord) → start + d ≤ low → StartsAreSpaced d low xs →
    length (overlapping d start xs) ≤ 0
near_none d low start [] l a = omega arith
near_none d low start (x ∷ xs) l a =
    cond_both (intervals_overlap d start x) (x ∷ overlapping d start xs) (overlapping d start xs)
    (λ (z : List DataRecord). length z ≤ 0)
    (λ e. let p = and_parts (nat_lt start (x.start + d)) (nat_lt x.start (start + d)) e in let q =
    ltb-true _ _ p.1 in absurd (omega (arith, a.0, q)))
    (λ e. near_none d (x.start + d) start xs (omega (arith, a.0)) a.1)

near_one : (d low start : ℕ) (xs : List DataRecord) → start ≤ low → StartsAreSpaced d low xs →
    length (overlapping d start xs) ≤ 1
near_one d low start [] l a = omega arith
near_one d low start (x ∷ xs) l a =
    cond_both (intervals_overlap d start x) (x ∷ overlapping d start xs) (overlapping d start xs)
    (λ (z : List DataRecord). length z ≤ 1)
    (λ e. omega (arith, near_none d (x.start + d) start xs (omega (arith, a.0)) a.1))
    (λ e. near_one d (x.start + d) start xs (omega (arith, a.0)) a.1)

pub near_two : (d low start : ℕ) (xs : List DataRecord) → StartsAreSpaced d low xs →
    length (overlapping d start xs) ≤ 2
near_two d low start [] a = omega arith
near_two d low start (x ∷ xs) a =
    cond_both (intervals_overlap d start x) (x ∷ overlapping d start xs) (overlapping d start xs)
    (λ (z : List DataRecord). length z ≤ 2)
    (λ e. let p = and_parts (nat_lt start (x.start + d)) (nat_lt x.start (start + d)) e in let q =
    ltb-true _ _ p.0 in
    omega (arith, near_one d (x.start + d) start xs (omega (arith, q)) a.1))
    (λ e. near_two d (x.start + d) start xs a.1)

-- the earliest clashing record is the first near one that isn't the same

find_both : (p q : DataRecord → Bool) (xs : List DataRecord) →
    find (λ s. p s && q s) xs ≡ find p (filter q xs)
find_both p q [] = refl
find_both p q (x ∷ xs) =
    elim (cases_Bool (q x)) [
      | inl e ↦ cc (both e, find_both p q xs, kept e)
      | inr e ↦ cond-false _ _ _ (and_right (p x) (q x) e)
          ∙ (find_both p q xs
          ∙ ap (find p) (sym (cond-false (q x) (x ∷ filter q xs) (filter q xs) e)))
    ]
  where
    both : q x ≡ true → (p x && q x) ≡ p x
    both e = same_Bool (p x && q x) (p x) (λ t. (and_parts (p x) (q x) t).0)
        (λ t. and_from (p x) (q x) t e)

    kept : q x ≡ true → find p (filter q (x ∷ xs)) ≡ cond (p x) (Some x) (find p (filter q xs))
    kept e = ap (find p) (cond-true (q x) (x ∷ filter q xs) (filter q xs) e)

pub earliest_near : (d : ℕ) (r : DataRecord) (xs : List DataRecord) →
    find (clashes d r) xs ≡ first_other r (overlapping d r.start xs)
unfolding clashes
earliest_near d r xs = find_both (λ s. not (same_record r s)) (intervals_overlap d r.start) xs

-- a record is held where it is near

pub held_near : (d : ℕ) (r : DataRecord) (xs : List DataRecord) → 0 < d →
    contains_record (overlapping d r.start xs) r ≡ contains_record xs r
held_near d r [] z = refl
held_near d r (x ∷ xs) z =
    elim (cases_Bool (intervals_overlap d r.start x)) [
      | inl e ↦ ap (λ (l : List DataRecord). contains_record l r)
          (cond-true (intervals_overlap d r.start x) (x ∷ overlapping d r.start xs)
          (overlapping d r.start xs) e) ∙ ap (λ b. same_record x r || b) (held_near d r xs z)
      | inr e ↦ ap (λ (l : List DataRecord). contains_record l r)
          (cond-false (intervals_overlap d r.start x) (x ∷ overlapping d r.start xs)
          (overlapping d r.start xs) e) ∙ (held_near d r xs z ∙ ap (λ b. b || contains_record xs r)
          (sym (same_record_no x r (apart e))))
    ]
  where
    apart : intervals_overlap d r.start x ≡ false → x ≢ r
    apart e p = let q = ap (λ (t : DataRecord). t.start) p in
        both_ways _ e (and_from (nat_lt r.start (x.start + d)) (nat_lt x.start (r.start + d))
        (lt-ltb _ _ (omega (arith, q))) (lt-ltb _ _ (omega (arith, q))))

pub held_where_near : (r n : DataRecord) (ns : List DataRecord) → first_other r (n ∷ ns) ≡ None →
    contains_record (n ∷ ns) r ≡ true
held_where_near r n ns o =
    elim (cases_Bool (same_record r n)) [
      | inl t ↦ or_left (same_record n r) (contains_record ns r)
          (subst (λ (u : DataRecord). same_record n u ≡ true) (sym (same_record-true r n t))
          (same_record-refl n))
      | inr t ↦ cc (sym (cond-true (not (same_record r n)) (Some n) (first_other r ns) (ap not t))
          ∙ o)
    ]

-- records put in that don't clash with r hide none that does

pub earliest_inserted : (d : ℕ) (r q : DataRecord) (xs : List DataRecord) → clashes d r q ≡ false →
    find (clashes d r) (insert q xs) ≡ find (clashes d r) xs
earliest_inserted d r q [] e = cond-false (clashes d r q) (Some q) None e
earliest_inserted d r q (x ∷ xs) e =
    cond_both (same_record x q) (x ∷ xs)
    (cond (nat_lt q.start x.start) (q ∷ x ∷ xs) (x ∷ insert q xs))
    (λ (l : List DataRecord). find (clashes d r) l ≡ find (clashes d r) (x ∷ xs))
    (λ _. refl) (λ _. cond_both (nat_lt q.start x.start) (q ∷ x ∷ xs) (x ∷ insert q xs)
    (λ (l : List DataRecord). find (clashes d r) l ≡ find (clashes d r) (x ∷ xs))
    (λ _. cond-false (clashes d r q) (Some q) (find (clashes d r) (x ∷ xs)) e)
    (λ _. ap (λ (o : Option DataRecord). cond (clashes d r x) (Some x) o)
    (earliest_inserted d r q xs e)))

pub earliest_joined : (d : ℕ) (r : DataRecord) (xs qs : List DataRecord) →
    ((q : DataRecord) → In q qs → clashes d r q ≡ false) →
    find (clashes d r) (union xs qs) ≡ find (clashes d r) xs
earliest_joined d r xs [] w = refl
earliest_joined d r xs (q ∷ qs) w = earliest_joined d r (insert q xs) qs (λ p m. w p (inr m))
    ∙ earliest_inserted d r q xs (w q (inl refl))

pub held_joined : (r : DataRecord) (xs qs : List DataRecord) → (In r qs → ⊥) →
    contains_record (union xs qs) r ≡ contains_record xs r
held_joined r xs qs n = same_Bool (contains_record (union xs qs) r) (contains_record xs r)
    (λ e. elim (in_joined r xs qs (In-from_holds (union xs qs) r e)) [
      | inl m ↦ holds_from_In xs r m
      | inr m ↦ absurd (n m)
    ]) (λ e. holds_from_In (union xs qs) r (joined_keeps xs qs r (In-from_holds xs r e)))

-- one more record of the file

pub joined-append : (xs rs : List DataRecord) (r : DataRecord) →
    union xs (rs ++ r ∷ []) ≡ insert r (union xs rs)
joined-append xs [] r = refl
joined-append xs (q ∷ qs) r = joined-append (insert q xs) qs r

pub new_of-append : (xs rs : List DataRecord) (r : DataRecord) →
    count_new xs (rs ++ r ∷ []) ≡ cond (contains_record xs r) (count_new xs rs)
    (count_new xs rs + 1)
new_of-append xs [] r = refl
new_of-append xs (q ∷ qs) r =
    elim (cases_Bool (contains_record xs r)) [
      | inl e ↦ both true (new_of-append xs qs r ∙ cond-true _ _ _ e)
          ∙ sym (cond-true (contains_record xs r) (count_new xs (q ∷ qs))
          (count_new xs (q ∷ qs) + 1) e)
      | inr e ↦ more (new_of-append xs qs r ∙ cond-false _ _ _ e)
          ∙ sym (cond-false (contains_record xs r) (count_new xs (q ∷ qs))
          (count_new xs (q ∷ qs) + 1) e)
    ]
  where
    both : Bool → count_new xs (qs ++ r ∷ []) ≡ count_new xs qs →
        count_new xs (q ∷ (qs ++ r ∷ [])) ≡ count_new xs (q ∷ qs)
    both b e = ap (λ n. cond (contains_record xs q) n (1 + n)) e

    more : count_new xs (qs ++ r ∷ []) ≡ count_new xs qs + 1 →
        count_new xs (q ∷ (qs ++ r ∷ [])) ≡ count_new xs (q ∷ qs) + 1
    more e = ap (λ n. cond (contains_record xs q) n (1 + n)) e ∙
        cond_both (contains_record xs q) (count_new xs qs) (1 + count_new xs qs)
        (λ n. cond (contains_record xs q) (count_new xs qs + 1) (1 + (count_new xs qs + 1)) ≡ n + 1)
        (λ t. cond-true _ _ _ t)
        (λ t. cond-false (contains_record xs q) (count_new xs qs + 1) (1 + (count_new xs qs + 1)) t
        ∙ omega arith)

clash_or-or : (r : DataRecord) (o : Option DataRecord) (a b : Option (DataRecord × DataRecord)) →
    clash_or r o (option_or a b) ≡ option_or (clash_or r o a) b
clash_or-or r None a b = refl
clash_or-or r (Some s) a b = refl

pub first_clash-append : (d : ℕ) (xs rs qs : List DataRecord) →
    first_clash d xs (rs ++ qs) ≡ option_or (first_clash d xs rs) (first_clash d xs qs)
first_clash-append d xs [] qs = refl
first_clash-append d xs (r ∷ rs) qs =
    ap (clash_or r (find (clashes d r) xs)) (first_clash-append d xs rs qs)
    ∙ clash_or-or r (find (clashes d r) xs) (first_clash d xs rs) (first_clash d xs qs)
