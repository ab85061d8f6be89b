-- One record more keeps holdings sound.
use Rattle.std.proofs.Common.{◌≡◌, ℕ, ◌+◌, ◌≤◌, true, false, nat_lt, List, [], ◌∷◌, length, refl}
use Rattle.std.proofs.Common.{sym, subst, ◌∙◌, inl, inr, arith, cond}
use Rattle.std.proofs.lemmas.Bool.{cond_both, cond-true, false_from_ne_true, and_from, lt-ltb}
use Rattle.edf_field.specs.Number.{duration_of}
use Rattle.edf_fragment.specs.Fragment.{DataRecord}
use Rattle.edf_fragment.specs.Sound.{AreSoundFrom}
use Rattle.edf_holdings.specs.Same.{same_record}
use Rattle.edf_holdings.specs.Clash.{clashes, intervals_overlap, overlapping}
use Rattle.edf_holdings.specs.Rising.{insert}
use Rattle.edf_holdings.specs.Holdings.{with_records, nothing_held}
use Rattle.edf_holdings.specs.Laws.{NothingHeldIsSound, AddStaysSound}
use Rattle.edf_holdings.proofs.Same.{clashes-true}
use Rattle.edf_holdings.proofs.Members.{In, AreFree}
use Rattle.edf_holdings.proofs.Joining.{IsGood-from_sound, MayJoin, IsGood-put, apart-sound}
use Rattle.edf_holdings.proofs.Sound.{IsSound-from, HasHolders-put, HasHolders-from_sound}

-- where nothing is near, nothing meets
none_meets : (d start : ℕ) (xs : List DataRecord) → overlapping d start xs ≡ [] → (x : DataRecord) →
    In x xs → intervals_overlap d start x ≡ true → ⊥
none_meets d start [] e x m t = m
none_meets d start (y ∷ ys) e x (inl p) t =
    cc (sym (cond-true (intervals_overlap d start y) (y ∷ overlapping d start ys)
    (overlapping d start ys)
    (subst (λ (u : DataRecord). intervals_overlap d start u ≡ true) (sym p) t)) ∙ e)
none_meets d start (y ∷ ys) e x (inr m) t =
    none_meets d start ys
    (cond_both (intervals_overlap d start y) (y ∷ overlapping d start ys) (overlapping d start ys)
    (λ (l : List DataRecord). l ≡ [] → overlapping d start ys ≡ []) (λ _ q. cc q) (λ _ q. q) e)
    x m t

pub free_where_none_near : (d : ℕ) (r : DataRecord) (xs : List DataRecord) →
    overlapping d r.start xs ≡ [] → AreFree d xs (r ∷ [])
free_where_none_near d r xs e q x (inl p) m =
    subst (λ (u : DataRecord). clashes d u x ≡ false) p
    (false_from_ne_true _ (λ t. let c = clashes-true d r x t in
    none_meets d r.start xs e x m (and_from (nat_lt r.start (x.start + d))
    (nat_lt x.start (r.start + d)) (lt-ltb _ _ c.1) (lt-ltb _ _ c.2))))
free_where_none_near d r xs e q x (inr n) m = absurd n

inserted_short : (r : DataRecord) (xs : List DataRecord) → length (insert r xs) ≤ length xs + 1
inserted_short r [] = omega arith
inserted_short r (x ∷ xs) =
    cond_both (same_record x r) (x ∷ xs)
    (cond (nat_lt r.start x.start) (r ∷ x ∷ xs) (x ∷ insert r xs)) (λ (l : List DataRecord).
    length l ≤ length (x ∷ xs) + 1)
    (λ _. omega arith) (λ _. cond_both (nat_lt r.start x.start) (r ∷ x ∷ xs) (x ∷ insert r xs)
    (λ (l : List DataRecord). length l ≤ length (x ∷ xs) + 1)
    (λ _. omega arith) (λ _. omega (arith, inserted_short r xs)))

pub add_stays_sound : AddStaysSound
add_stays_sound cap h key r s w sound none room first =
    let one : AreSoundFrom key 0 (r ∷ []) = (sound, omega arith, tt) in
    let may : MayJoin cap key (r ∷ []) h = record {
      free = free_where_none_near (duration_of key.duration) r (h key) none;
      within_cap = inr (omega (arith, inserted_short r (h key), room));
    } in
    IsSound-from cap (with_records key (r ∷ []) h)
    (IsGood-put cap key (r ∷ []) h w (apart-sound key 0 (r ∷ []) one) (IsGood-from_sound cap h s)
    may)
    (HasHolders-put key (r ∷ []) h w one first (HasHolders-from_sound cap h s))

pub nothing_is_sound : NothingHeldIsSound
nothing_is_sound cap = IsSound-from cap nothing_held
    (record { rising = λ k. tt; apart = λ k. tt; within_cap = λ k. omega arith }) (record {
      records = λ k y m. absurd m;
      begins = λ k. tt;
      holders = λ k n. absurd (n refl);
      finite = [];
      all = λ k n. absurd (n refl);
    })
