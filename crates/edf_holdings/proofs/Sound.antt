-- Sound holdings stay sound.
use Rattle.std.proofs.Common.{◌≡◌, ◌≢◌, ℕ, suc, ◌+◌, nat_lt, cond, List, [], ◌∷◌, Contains, All}
use Rattle.std.proofs.Common.{refl, subst, inl, inr, arith}
use Rattle.std.proofs.lemmas.Bool.{cond_both, both_ways, ltb-true}
use Rattle.std.proofs.lemmas.List.Elements.{All-nil, All-cons}
use Rattle.edf_field.specs.Number.{duration_of}
use Rattle.edf_header.specs.Key.{Key, IsKey, MayStart}
use Rattle.edf_fragment.specs.Fragment.{DataRecord}
use Rattle.edf_fragment.specs.Parsed.{Parsed, Fragment, Fault}
use Rattle.edf_holdings.specs.Same.{same_key, same_record}
use Rattle.edf_holdings.specs.Rising.{insert, union}
use Rattle.edf_fragment.specs.Sound.{IsSoundRecord, AreSoundFrom, FirstMayStart}
use Rattle.edf_holdings.specs.Holdings.{Holdings, IsSound, with_records}
use Rattle.edf_holdings.specs.Reply.{IsWellFormed, fits, after_one}
use Rattle.edf_holdings.specs.Laws.{StaysSound}
use Rattle.edf_holdings.proofs.Same.{same_key-true, test_from_Clash}
use Rattle.edf_holdings.proofs.Members.{In, in_joined}
use Rattle.edf_holdings.proofs.Joining.{IsGood, IsGood-from_sound, In-from_Contains}
use Rattle.edf_holdings.proofs.Joining.{Contains-from_In, free_from_apart, put_cases}
use Rattle.edf_holdings.proofs.Settled.{IsGood-one}

-- what holds of each record, by membership
abbrev pub Each : (DataRecord → Type 0) → List DataRecord → Type 0
Each P xs = (y : DataRecord) → In y xs → P y

pub All-from_Each : (P : DataRecord → Type 0) (xs : List DataRecord) → Each P xs → All P xs
All-from_Each P [] e = All-nil P
All-from_Each P (x ∷ xs) e = All-cons P x xs (e x (inl refl))
    (All-from_Each P xs (λ y m. e y (inr m)))

pub Each-from_All : (P : DataRecord → Type 0) (xs : List DataRecord) → All P xs → Each P xs
Each-from_All P xs a y m = let c = Contains-from_In xs y m in subst P c.2 (a c.0 y c.1)

pub each-sound : (k : Key) (low : ℕ) (rs : List DataRecord) → AreSoundFrom k low rs →
    Each (IsSoundRecord k) rs
each-sound k low [] s y m = absurd m
each-sound k low (r ∷ rs) s y (inl p) = subst (IsSoundRecord k) p s.0
each-sound k low (r ∷ rs) s y (inr m) = each-sound k (r.start + duration_of k.duration) rs s.2 y m

-- a recording begins with what is there, or with an earlier record: where it may start with that,
-- it may with this
pub inserted-some : (r : DataRecord) (xs : List DataRecord) → insert r xs ≢ []
inserted-some r [] = λ e. cc
inserted-some r (x ∷ xs) =
    cond_both (same_record x r) (x ∷ xs)
    (cond (nat_lt r.start x.start) (r ∷ x ∷ xs) (x ∷ insert r xs)) (λ (l : List DataRecord). l ≢ [])
    (λ _ e. cc) (λ _. cond_both (nat_lt r.start x.start) (r ∷ x ∷ xs) (x ∷ insert r xs)
    (λ (l : List DataRecord). l ≢ []) (λ _ e. cc) (λ _ e. cc))

inserted-begins : (k : Key) (r : DataRecord) (xs : List DataRecord) → FirstMayStart k xs →
    (xs ≡ [] → MayStart k r.start) → FirstMayStart k (insert r xs)
inserted-begins k r [] old first = first refl
inserted-begins k r (x ∷ xs) old first =
    cond_both (same_record x r) (x ∷ xs)
    (cond (nat_lt r.start x.start) (r ∷ x ∷ xs) (x ∷ insert r xs)) (FirstMayStart k) (λ _. old)
    (λ _. cond_both (nat_lt r.start x.start) (r ∷ x ∷ xs) (x ∷ insert r xs) (FirstMayStart k)
    (λ e undated. omega (arith, ltb-true _ _ e, old undated)) (λ _. old))

pub joined-begins : (k : Key) (xs records : List DataRecord) → FirstMayStart k xs →
    (xs ≡ [] → FirstMayStart k records) → FirstMayStart k (union xs records)
joined-begins k xs [] old first = old
joined-begins k xs (r ∷ rs) old first =
    joined-begins k (insert r xs) rs (inserted-begins k r xs old first)
    (λ none. absurd (inserted-some r xs none))

-- what soundness asks beside what `IsGood` has
pub record HasHolders (h : Holdings) : Type 0 where
  pub records : (k : Key) → Each (IsSoundRecord k) (h k)
  pub begins : (k : Key) → FirstMayStart k (h k)
  pub holders : (k : Key) → h k ≢ [] → IsKey k
  pub finite : List Key
  pub all : (k : Key) → h k ≢ [] → Contains finite k

pub HasHolders-put : (key : Key) (records : List DataRecord) (h : Holdings) → IsKey key →
    AreSoundFrom key 0 records → (h key ≡ [] → FirstMayStart key records) → HasHolders h →
    HasHolders (with_records key records h)
HasHolders-put key records h is_key sound first p = record {
  records = put_cases key records h (λ q l. Each (IsSoundRecord q) l)
      (λ y m. elim (in_joined y (h key) records m) [
        | inl n ↦ p.records key y n
        | inr n ↦
            each-sound key 0 records sound y n
      ])
      p.records;
  begins = put_cases key records h FirstMayStart
      (joined-begins key (h key) records (p.begins key) first) p.begins;
  holders = put_cases key records h (λ q l. l ≢ [] → IsKey q) (λ _. is_key) p.holders;
  finite = key ∷ p.finite;
  all = λ k. cond_both (same_key key k) (union (h k) records) (h k) (λ (l : List DataRecord).
      l ≢ [] → Contains (key ∷ p.finite) k)
      (λ e _. (0, omega arith, same_key-true key k e))
      (λ _ n. let c = p.all k n in (suc c.0, omega (arith, c.1), c.2));
}

HasHolders-one : (cap : ℕ) (h : Holdings) (t : Parsed) → IsWellFormed t → HasHolders h →
    HasHolders (after_one cap h t)
unfolding after_one
HasHolders-one cap h (Fault fault) w p = p
HasHolders-one cap h (Fragment key records) w p =
    cond_both (fits cap key records h) (with_records key records h) h HasHolders
    (λ _. HasHolders-put key records h w.0 w.1 (λ _. w.2) p) (λ _. p)

pub IsSound-from : (cap : ℕ) (h : Holdings) → IsGood cap h → HasHolders h → IsSound cap h
IsSound-from cap h good kept = record {
  rising = good.rising;
  no_clash = λ k r t m n c. both_ways _
      (free_from_apart (duration_of k.duration) 0 (h k) (good.apart k) r t
      (In-from_Contains (h k) r m) (In-from_Contains (h k) t n))
      (test_from_Clash (duration_of k.duration) r t c);
  within_cap = good.within_cap;
  records = λ k. All-from_Each (IsSoundRecord k) (h k) (kept.records k);
  begins = kept.begins;
  keys = kept.holders;
  finite = (kept.finite, kept.all);
}

pub HasHolders-from_sound : (cap : ℕ) (h : Holdings) → IsSound cap h → HasHolders h
HasHolders-from_sound cap h s = record {
  records = λ k. Each-from_All (IsSoundRecord k) (h k) (s.records k);
  begins = s.begins;
  holders = s.keys;
  finite = s.finite.0;
  all = s.finite.1;
}

pub IsSound-one : (cap : ℕ) (h : Holdings) (t : Parsed) → IsWellFormed t → IsSound cap h →
    IsSound cap (after_one cap h t)
IsSound-one cap h t w s = IsSound-from cap (after_one cap h t)
    (IsGood-one cap h t w (IsGood-from_sound cap h s))
    (HasHolders-one cap h t w (HasHolders-from_sound cap h s))

pub stays_sound : StaysSound
stays_sound cap h [] s w = s
stays_sound cap h (t ∷ ts) s w = stays_sound cap (after_one cap h t) ts (IsSound-one cap h t w.0 s)
    w.1
