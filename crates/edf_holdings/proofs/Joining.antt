-- What records add to sound holdings.
use Rattle.std.proofs.Common.{◌≡◌, ℕ, zero, suc, ◌+◌, ◌<◌, ◌≤◌, ◌⊎◌, true, false, not, List, []}
use Rattle.std.proofs.Common.{◌∷◌, length, Contains, refl, sym, ap, subst, ◌∙◌, inl, inr, arith}
use Rattle.std.proofs.Common.{slice_index_or, eqb-true, eq-eqb}
use Rattle.std.proofs.lemmas.Bool.{cond_both, cond-true, both_ways, or_cases, or_left, or_right}
use Rattle.std.proofs.lemmas.Bool.{and_parts, and_from, not-true, not_from_false, leb-true, le-leb}
use Rattle.std.proofs.lemmas.Bool.{false_from_ne_true}
use Rattle.std.specs.List.{list_all}
use mathlib.Core.Path.{fun_ext}
use Rattle.edf_field.specs.Number.{duration_of}
use Rattle.edf_header.specs.Key.{Key, IsKey}
use Rattle.edf_fragment.specs.Fragment.{DataRecord}
use Rattle.edf_header.proofs.Cited.{key-duration-some}
use Rattle.edf_holdings.specs.Same.{same_key}
use Rattle.edf_holdings.specs.Clash.{clashes}
use Rattle.edf_holdings.specs.Rising.{union, StartsAreSpaced, IsRising}
use Rattle.edf_fragment.specs.Sound.{AreSoundFrom}
use Rattle.edf_holdings.specs.Holdings.{Holdings, IsSound, with_records}
use Rattle.edf_holdings.specs.Reply.{has_no_clash, fits}
use Rattle.edf_holdings.proofs.Same.{same_key-true, same_key-refl, clashes-true, clashes_near}
use Rattle.edf_holdings.proofs.Same.{clashes-false, Clash-from_test}
use Rattle.edf_holdings.proofs.Members.{In, Within, AreFree, in_joined, joined_keeps, joined_has}
use Rattle.edf_holdings.proofs.Members.{joined_held, apart_joined, apart_weaker, in_rest}
use Rattle.edf_holdings.proofs.Members.{within_shorter, none_new, within_from_none_new}

-- between the two forms of membership

pub In-from_Contains : (xs : List DataRecord) (r : DataRecord) → Contains xs r → In r xs
In-from_Contains xs r h = go xs h.0 h.1 h.2
  where
    go : (ys : List DataRecord) (k : ℕ) → k < length ys → slice_index_or ys k r ≡ r → In r ys
    go [] k l e = absurd (omega arith)
    go (y ∷ ys) zero l e = inl e
    go (y ∷ ys) (suc k) l e = inr (go ys k (omega arith) e)

pub Contains-from_In : (xs : List DataRecord) (r : DataRecord) → In r xs → Contains xs r
Contains-from_In [] r h = absurd h
Contains-from_In (x ∷ xs) r (inl p) = (0, omega arith, p)
Contains-from_In (x ∷ xs) r (inr h) = let c = Contains-from_In xs r h in
    (suc c.0, omega (arith, c.1), c.2)

-- rising starts and no clash are starts that lie apart

pub clashes-self : (d : ℕ) (r : DataRecord) → clashes d r r ≡ false
clashes-self d r = false_from_ne_true _ (λ e. (clashes-true d r r e).0 refl)

pub clashes-sym : (d : ℕ) (r s : DataRecord) → clashes d r s ≡ false → clashes d s r ≡ false
clashes-sym d r s e = false_from_ne_true _ (λ t. let c = clashes-true d s r t in
    both_ways _ e (clashes_near d r s (λ p. c.0 (sym p)) c.2 c.1))

raised : (d low low' : ℕ) (xs : List DataRecord) → StartsAreSpaced d low xs →
    ((y : DataRecord) → In y xs → low' ≤ y.start) → StartsAreSpaced d low' xs
raised d low low' [] a w = tt
raised d low low' (x ∷ xs) a w = (w x (inl refl), a.1)

pub apart_from_rising : (d low : ℕ) (xs : List DataRecord) → StartsAreSpaced 1 low xs →
    ((r s : DataRecord) → In r xs → In s xs → clashes d r s ≡ false) → StartsAreSpaced d low xs
apart_from_rising d low [] a n = tt
apart_from_rising d low (x ∷ xs) a n = (
  a.0,
  raised d (x.start + 1) (x.start + d) xs
      (apart_from_rising d (x.start + 1) xs a.1 (λ r s m k. n r s (inr m) (inr k))) far,
)
  where
    far : (y : DataRecord) → In y xs → x.start + d ≤ y.start
    far y m =
        let b = in_rest 1 low x y xs a m in
        elim (clashes-false d x y (n x y (inl refl) (inr m))) [
          | inl p ↦ absurd (omega (arith, ap (λ (t : DataRecord). t.start) p))
          | inr q ↦ elim q [ inl c ↦ omega arith | inr c ↦ c ]
        ]

pub rising_from_apart : (d low : ℕ) (xs : List DataRecord) → 0 < d → StartsAreSpaced d low xs →
    StartsAreSpaced 1 low xs
rising_from_apart d low [] z a = tt
rising_from_apart d low (x ∷ xs) z a = (
  a.0,
  apart_weaker 1 (x.start + d) (x.start + 1) xs (omega arith)
      (rising_from_apart d (x.start + d) xs z a.1),
)

far_free : (d : ℕ) (r s : DataRecord) → r.start + d ≤ s.start → clashes d r s ≡ false
far_free d r s l = false_from_ne_true _ (λ e. let c = clashes-true d r s e in
    absurd (omega (arith, c.2)))

pub free_from_apart : (d low : ℕ) (xs : List DataRecord) → StartsAreSpaced d low xs →
    (r s : DataRecord) → In r xs → In s xs → clashes d r s ≡ false
free_from_apart d low [] a r s m k = absurd m
free_from_apart d low (x ∷ xs) a r s (inl p) (inl q) =
    subst (λ (t : DataRecord). clashes d t s ≡ false) (sym q ∙ p) (clashes-self d s)
free_from_apart d low (x ∷ xs) a r s (inl p) (inr k) =
    subst (λ (t : DataRecord). clashes d t s ≡ false) p (far_free d x s (in_rest d low x s xs a k))
free_from_apart d low (x ∷ xs) a r s (inr m) (inl q) =
    clashes-sym d s r (subst (λ (t : DataRecord). clashes d t r ≡ false) q
    (far_free d x r (in_rest d low x r xs a m)))
free_from_apart d low (x ∷ xs) a r s (inr m) (inr k) =
    free_from_apart d (x.start + d) xs a.1 r s m k

-- the test over all pairs

none_clash : (d : ℕ) (r : DataRecord) (xs : List DataRecord) →
    list_all (λ s. not (clashes d r s)) xs ≡ true → (x : DataRecord) → In x xs →
    clashes d r x ≡ false
none_clash d r [] e x h = absurd h
none_clash d r (y ∷ ys) e x (inl p) =
    subst (λ (t : DataRecord). clashes d r t ≡ false) p (not-true _ (and_parts _ _ e).0)
none_clash d r (y ∷ ys) e x (inr h) = none_clash d r ys (and_parts _ _ e).1 x h

none_clash_from : (d : ℕ) (r : DataRecord) (xs : List DataRecord) →
    ((x : DataRecord) → In x xs → clashes d r x ≡ false) →
    list_all (λ s. not (clashes d r s)) xs ≡ true
none_clash_from d r [] w = refl
none_clash_from d r (y ∷ ys) w =
    and_from _ _ (not_from_false _ (w y (inl refl))) (none_clash_from d r ys (λ x m. w x (inr m)))

pub AreFree-from_test : (d : ℕ) (xs rs : List DataRecord) → has_no_clash d xs rs ≡ true →
    AreFree d xs rs
AreFree-from_test d xs [] e r x h k = absurd h
AreFree-from_test d xs (s ∷ rs) e r x (inl p) k =
    subst (λ (t : DataRecord). clashes d t x ≡ false) p (none_clash d s xs (and_parts _ _ e).0 x k)
AreFree-from_test d xs (s ∷ rs) e r x (inr h) k =
    AreFree-from_test d xs rs (and_parts _ _ e).1 r x h k

pub test_from_AreFree : (d : ℕ) (xs rs : List DataRecord) → AreFree d xs rs →
    has_no_clash d xs rs ≡ true
test_from_AreFree d xs [] f = refl
test_from_AreFree d xs (s ∷ rs) f =
    and_from _ _ (none_clash_from d s xs (λ x k. f s x (inl refl) k))
    (test_from_AreFree d xs rs (λ r x h k. f r x (inr h) k))

-- what proofs use of sound holdings
pub record IsGood (cap : ℕ) (h : Holdings) : Type 0 where
  pub rising : (k : Key) → IsRising (h k)
  pub apart : (k : Key) → StartsAreSpaced (duration_of k.duration) 0 (h k)
  pub within_cap : (k : Key) → length (h k) ≤ cap

pub IsGood-from_sound : (cap : ℕ) (h : Holdings) → IsSound cap h → IsGood cap h
IsGood-from_sound cap h s = record {
  rising = s.rising;
  apart = λ k. apart_from_rising (duration_of k.duration) 0 (h k) (s.rising k)
      (λ r t m n. false_from_ne_true _ (λ e.
      s.no_clash k r t (Contains-from_In (h k) r m) (Contains-from_In (h k) t n)
      (Clash-from_test (duration_of k.duration) r t e)));
  within_cap = s.within_cap;
}

-- a key's records last
pub lasting : (k : Key) → IsKey k → 0 < duration_of k.duration
lasting k i = key-duration-some k i

pub apart-sound : (k : Key) (low : ℕ) (rs : List DataRecord) → AreSoundFrom k low rs →
    StartsAreSpaced (duration_of k.duration) low rs
apart-sound k low [] s = tt
apart-sound k low (r ∷ rs) s = (s.1, apart-sound k (r.start + duration_of k.duration) rs s.2)

-- the records of one fragment

-- it joins the records of its key
pub put_here : (key : Key) (records : List DataRecord) (h : Holdings) →
    with_records key records h key ≡ union (h key) records
put_here key records h = cond-true _ _ _ (same_key-refl key)

-- each key's set is joined with those records, or stays
pub put_cases : (key : Key) (records : List DataRecord) (h : Holdings) (P : Key → List DataRecord →
    Type 0) → P key (union (h key) records) → ((k : Key) → P k (h k)) → (k : Key) →
    P k (with_records key records h k)
put_cases key records h P here there k =
    cond_both (same_key key k) (union (h k) records) (h k) (P k)
    (λ e. subst (λ (q : Key). P q (union (h q) records)) (same_key-true key k e) here)
    (λ e. there k)

-- it may join: no clash with what its key holds, and all is held or there is room
pub record MayJoin (cap : ℕ) (key : Key) (records : List DataRecord) (h : Holdings) : Type 0 where
  pub free : AreFree (duration_of key.duration) (h key) records
  pub within_cap : Within records (h key) ⊎ (length (union (h key) records) ≤ cap)

pub MayJoin-from_fits : (cap : ℕ) (key : Key) (records : List DataRecord) (h : Holdings) →
    fits cap key records h ≡ true → MayJoin cap key records h
MayJoin-from_fits cap key records h e =
    let p = and_parts _ _ e in
    record {
      free = AreFree-from_test _ _ _ p.0;
      within_cap = elim (or_cases _ _ p.1) [
        | inl a ↦ inl (within_from_none_new _ _ (eqb-true _ _ a))
        | inr b ↦ inr (leb-true _ _ b)
      ];
    }

pub fits_from_MayJoin : (cap : ℕ) (key : Key) (records : List DataRecord) (h : Holdings) →
    MayJoin cap key records h → fits cap key records h ≡ true
fits_from_MayJoin cap key records h m =
    and_from _ _ (test_from_AreFree _ _ _ m.free) (elim m.within_cap [
      | inl w ↦ or_left _ _ (eq-eqb _ _ (none_new _ _ w))
      | inr l ↦
          or_right _ _ (le-leb _ _ l)
    ])

-- where all its records are held, it changes nothing
pub put_held : (cap : ℕ) (key : Key) (records : List DataRecord) (h : Holdings) → IsKey key →
    IsGood cap h → Within records (h key) → with_records key records h ≡ h
put_held cap key records h w g i =
    fun_ext (put_cases key records h (λ k l. l ≡ h k)
    (joined_held (duration_of key.duration) 0 (h key) records (lasting key w) (g.apart key) i)
    (λ k. refl))

-- and it may join
pub MayJoin-from_held : (cap : ℕ) (key : Key) (records : List DataRecord) (h : Holdings) →
    IsGood cap h → Within records (h key) → MayJoin cap key records h
MayJoin-from_held cap key records h g i =
    record {
      free = λ r s m n. free_from_apart (duration_of key.duration) 0 (h key) (g.apart key) r
          s (i r m) n;
      within_cap = inl i;
    }

-- what joins keeps the holdings good
pub IsGood-put : (cap : ℕ) (key : Key) (records : List DataRecord) (h : Holdings) → IsKey key →
    StartsAreSpaced (duration_of key.duration) 0 records → IsGood cap h →
    MayJoin cap key records h → IsGood cap (with_records key records h)
IsGood-put cap key records h w a g m = record {
  rising = put_cases key records h (λ k l. IsRising l)
      (rising_from_apart (duration_of key.duration) 0 (union (h key) records) (lasting key w)
      (apart_joined (duration_of key.duration) 0 (h key) records (g.apart key) a m.free))
      g.rising;
  apart = put_cases key records h (λ k l. StartsAreSpaced (duration_of k.duration) 0 l)
      (apart_joined (duration_of key.duration) 0 (h key) records (g.apart key) a m.free) g.apart;
  within_cap = put_cases key records h (λ k l. length l ≤ cap) (elim m.within_cap [
    | inl i ↦ subst (λ (l : List DataRecord). length l ≤ cap)
        (sym (joined_held (duration_of key.duration) 0 (h key) records (lasting key w)
        (g.apart key) i)) (g.within_cap key)
    | inr l ↦ l
  ]) g.within_cap;
}

-- the holdings only grow
abbrev pub Grows : Holdings → Holdings → Type 0
Grows h h' = (k : Key) → Within (h k) (h' k)

pub put_grows : (key : Key) (records : List DataRecord) (h : Holdings) →
    Grows h (with_records key records h)
put_grows key records h = put_cases key records h (λ k l. Within (h k) l)
    (joined_keeps (h key) records) (λ k y m. m)

-- what may join the larger holdings may join the smaller ones
pub MayJoin-smaller : (cap : ℕ) (key : Key) (records : List DataRecord) (h h' : Holdings) →
    IsKey key → StartsAreSpaced (duration_of key.duration) 0 records → IsGood cap h →
    IsGood cap h' → Grows h h' → MayJoin cap key records h' → MayJoin cap key records h
MayJoin-smaller cap key records h h' w a g g' up m =
    record { free = free; within_cap = inr (elim m.within_cap [ inl i ↦ held i | inr l ↦ room l ]) }
  where
    free : AreFree (duration_of key.duration) (h key) records
    free r s n k = m.free r s n (up key s k)

    apart : StartsAreSpaced (duration_of key.duration) 0 (union (h key) records)
    apart = apart_joined (duration_of key.duration) 0 (h key) records (g.apart key) a free

    held : Within records (h' key) → length (union (h key) records) ≤ cap
    held i = omega (
      arith,
      g'.within_cap key,
      within_shorter (duration_of key.duration) 0 0 (union (h key) records) (h' key)
          (lasting key w) apart (g'.apart key)
          (λ y n. elim (in_joined y (h key) records n) [ inl k ↦ up key y k | inr k ↦ i y k ]),
    )

    room : length (union (h' key) records) ≤ cap → length (union (h key) records) ≤ cap
    room l = omega (
      arith,
      within_shorter (duration_of key.duration) 0 0 (union (h key) records)
          (union (h' key) records) (lasting key w) apart
          (apart_joined (duration_of key.duration) 0 (h' key) records (g'.apart key) a m.free)
          (λ y n. elim (in_joined y (h key) records n) [
            | inl k ↦
                joined_keeps (h' key) records y (up key y k)
            | inr k ↦
                joined_has (h' key) records y k
          ]),
    )
