-- What is answered: exactly what may join is accepted, and what a later repeat is answered.
use Rattle.std.proofs.Common.{◌≡◌, ℕ, suc, ◌+◌, ◌-◌, ◌≤◌, ◌<◌, ◌⊎◌, false, List, [], ◌∷◌, ◌++◌}
use Rattle.std.proofs.Common.{length, Option, Some, None, refl, sym, ap, subst, ◌∙◌, inl, inr}
use Rattle.std.proofs.Common.{arith, find}
use Rattle.std.proofs.lemmas.Bool.{cond_both, cond-true, cond-false, cases_Bool, and_cases}
use Rattle.std.proofs.lemmas.Bool.{ltb-false, and_from, and_left, and_right, lt-ltb, le-ltb}
use Rattle.edf_field.specs.Number.{duration_of}
use Rattle.edf_header.specs.Key.{Key}
use Rattle.edf_fragment.specs.Fragment.{DataRecord}
use Rattle.edf_fragment.specs.declared.fault.FragmentFault.{FragmentFault}
use Rattle.edf_fragment.specs.Parsed.{Parsed, Fragment, Fault}
use Rattle.edf_holdings.specs.Clash.{clashes}
use Rattle.edf_holdings.specs.Rising.{contains_record, union, count_new}
use Rattle.edf_holdings.specs.Holdings.{Holdings, with_records}
use Rattle.edf_holdings.specs.Reply.{IsWellFormed, fits, after_one, after, Reply, Form, Conflicts}
use Rattle.edf_holdings.specs.Reply.{Full, Accepted, IsAccepted, clash_or, first_clash}
use Rattle.edf_holdings.specs.Reply.{exceeds_cap, reply_to_counts, reply_to_clash, reply, replies}
use Rattle.edf_holdings.specs.Meaning.{ReplyNamesCounts}
use Rattle.edf_holdings.proofs.Members.{In, Within, AreFree, joined_has, length_joined, none_new}
use Rattle.edf_holdings.proofs.Members.{within_from_none_new}
use Rattle.edf_holdings.proofs.Joining.{IsGood, Grows, MayJoin, fits_from_MayJoin, MayJoin-smaller}
use Rattle.edf_holdings.proofs.Joining.{MayJoin-from_held, put_here, lasting, apart-sound}

pub find_none : (d : ℕ) (r : DataRecord) (xs : List DataRecord) → find (clashes d r) xs ≡ None →
    (x : DataRecord) → In x xs → clashes d r x ≡ false
find_none d r [] e x m = absurd m
find_none d r (y ∷ ys) e x m =
    elim (cases_Bool (clashes d r y)) [
      | inl t ↦ cc (sym (cond-true (clashes d r y) (Some y) (find (clashes d r) ys) t) ∙ e)
      | inr t ↦ elim m [
        | inl p ↦ subst (λ (u : DataRecord). clashes d r u ≡ false) p t
        | inr n ↦ find_none d r ys
            (sym (cond-false (clashes d r y) (Some y) (find (clashes d r) ys) t) ∙ e) x n
      ]
    ]

none_found : (d : ℕ) (r : DataRecord) (xs : List DataRecord) →
    ((x : DataRecord) → In x xs → clashes d r x ≡ false) → find (clashes d r) xs ≡ None
none_found d r [] w = refl
none_found d r (y ∷ ys) w = cond-false _ _ _ (w y (inl refl))
    ∙ none_found d r ys (λ x m. w x (inr m))

clash_or-none : (r : DataRecord) (o : Option DataRecord)
    (later : Option (DataRecord × DataRecord)) → clash_or r o later ≡ None → (o ≡ None)
    × (later ≡ None)
clash_or-none r None later e = (refl, e)
clash_or-none r (Some s) later e = cc

pub AreFree-from_first : (d : ℕ) (xs rs : List DataRecord) → first_clash d xs rs ≡ None →
    AreFree d xs rs
AreFree-from_first d xs [] e r x m n = absurd m
AreFree-from_first d xs (s ∷ rs) e r x m n =
    let p = clash_or-none s (find (clashes d s) xs) (first_clash d xs rs) e in
    elim m [
      | inl q ↦ subst (λ (u : DataRecord). clashes d u x ≡ false) q (find_none d s xs p.0 x n)
      | inr k ↦ AreFree-from_first d xs rs p.1 r x k n
    ]

pub no_first : (d : ℕ) (xs rs : List DataRecord) → AreFree d xs rs → first_clash d xs rs ≡ None
no_first d xs [] f = refl
no_first d xs (s ∷ rs) f =
    ap (λ (o : Option DataRecord). clash_or s o (first_clash d xs rs))
    (none_found d s xs (λ x n. f s x (inl refl) n)) ∙ no_first d xs rs (λ r x m n. f r x (inr m) n)

-- what is answered to a fragment where nothing clashes and there is room
abbrev pub answered : Key → List DataRecord → List DataRecord → Reply
answered key records xs = Accepted key (count_new xs records)
    (length records - count_new xs records)

-- where there is no room
abbrev pub no_room : ℕ → List DataRecord → List DataRecord → Reply
no_room cap records xs = Conflicts (Full (length xs) (count_new xs records) cap)

-- the answer where nothing clashes, by the counts
pub by-counts : (cap : ℕ) (h : Holdings) (key : Key) (records : List DataRecord) →
    first_clash (duration_of key.duration) (h key) records ≡ None →
    reply cap h (Fragment key records) ≡ reply_to_counts cap key (length (h key))
    (count_new (h key) records) (length records)
unfolding reply
by-counts cap h key records none = ap (reply_to_clash cap key records (h key)) none

pub full-by-counts : (cap : ℕ) (key : Key) (held new all : ℕ) → 0 < new → cap < held + new →
    reply_to_counts cap key held new all ≡ Conflicts (Full held new cap)
full-by-counts cap key held new all some past =
    cond-true (exceeds_cap cap held new) (Conflicts (Full held new cap))
    (Accepted key new (all - new)) (and_from _ _ (lt-ltb 0 new some) (lt-ltb cap (held + new) past))

pub accepted-by-counts : (cap : ℕ) (key : Key) (held new all : ℕ) → (new ≡ 0) ⊎ (held + new ≤ cap) →
    reply_to_counts cap key held new all ≡ Accepted key new (all - new)
accepted-by-counts cap key held new all fits =
    cond-false (exceeds_cap cap held new) (Conflicts (Full held new cap))
    (Accepted key new (all - new)) (elim fits [
      | inl z ↦ and_left _ _ (le-ltb 0 new (omega (arith, z)))
      | inr l ↦ and_right _ _ (le-ltb cap (held + new) l)
    ])

pub counts-named : (cap : ℕ) (h : Holdings) (key : Key) (records : List DataRecord) →
    first_clash (duration_of key.duration) (h key) records ≡ None →
    ReplyNamesCounts cap h key records
counts-named cap h key records none = (
  (λ some past. by-counts cap h key records none
      ∙ full-by-counts cap key (length (h key)) (count_new (h key) records) (length records) some
      past),
  (λ fits. by-counts cap h key records none
      ∙ accepted-by-counts cap key (length (h key)) (count_new (h key) records) (length records)
      fits),
)

pub accepted_from_MayJoin : (cap : ℕ) (h : Holdings) (key : Key) (records : List DataRecord) →
    IsWellFormed (Fragment key records) → IsGood cap h → MayJoin cap key records h →
    reply cap h (Fragment key records) ≡ answered key records (h key)
accepted_from_MayJoin cap h key records w g m =
    by-counts cap h key records (no_first (duration_of key.duration) (h key) records m.free)
    ∙ accepted-by-counts cap key (length (h key)) (count_new (h key) records) (length records)
    (elim m.within_cap [
      | inl i ↦ inl (omega (arith, none_new (h key) records i))
      | inr l ↦ inr (omega (
        arith,
        length_joined (duration_of key.duration) 0 0 (h key) records
            (lasting key w.0) (apart-sound key 0 records w.1) (g.apart key) m.free,
      ))
    ])

MayJoin-from_clash : (cap : ℕ) (h : Holdings) (key : Key) (records : List DataRecord)
    (o : Option (DataRecord × DataRecord)) → IsWellFormed (Fragment key records) → IsGood cap h
    → first_clash (duration_of key.duration) (h key) records ≡ o →
    IsAccepted (reply_to_clash cap key records (h key) o) → MayJoin cap key records h
MayJoin-from_clash cap h key records (Some p) w g q i = absurd i
MayJoin-from_clash cap h key records None w g q i = record { free = free; within_cap = room }
  where
    free : AreFree (duration_of key.duration) (h key) records
    free = AreFree-from_first (duration_of key.duration) (h key) records q

    room : Within records (h key) ⊎ (length (union (h key) records) ≤ cap)
    room =
        elim (cases_Bool (exceeds_cap cap (length (h key)) (count_new (h key) records))) [
          | inl t ↦ absurd (subst IsAccepted
              (cond-true _ (no_room cap records (h key)) (answered key records (h key)) t) i)
          | inr t ↦ elim (and_cases _ _ t) [
            | inl u ↦ inl (within_from_none_new (h key) records (let l =
                ltb-false 0 (count_new (h key) records) u in omega (arith, l)))
            | inr u ↦ inr (let l = ltb-false cap (length (h key) + count_new (h key) records) u in
                omega (
                  arith,
                  l,
                  length_joined (duration_of key.duration) 0 0 (h key) records
                      (lasting key w.0) (apart-sound key 0 records w.1) (g.apart key) free,
                ))
          ]
        ]

pub MayJoin-from_accepted : (cap : ℕ) (h : Holdings) (key : Key) (records : List DataRecord) →
    IsWellFormed (Fragment key records) → IsGood cap h →
    IsAccepted (reply cap h (Fragment key records)) → MayJoin cap key records h
unfolding reply
MayJoin-from_accepted cap h key records w g i =
    MayJoin-from_clash cap h key records (first_clash (duration_of key.duration) (h key) records) w
    g refl i

new_of-le : (xs rs : List DataRecord) → count_new xs rs ≤ length rs
new_of-le xs [] = omega arith
new_of-le xs (r ∷ rs) = cond_both (contains_record xs r) (count_new xs rs) (1 + count_new xs rs)
    (λ n. n ≤ length (r ∷ rs)) (λ _. omega (arith, new_of-le xs rs))
    (λ _. omega (arith, new_of-le xs rs))

-- a fragment whose records are all held is accepted with nothing new
pub held_reply : (cap : ℕ) (h : Holdings) (key : Key) (records : List DataRecord) →
    IsWellFormed (Fragment key records) → IsGood cap h → Within records (h key) →
    reply cap h (Fragment key records) ≡ Accepted key 0 (length records)
held_reply cap h key records w g i =
    accepted_from_MayJoin cap h key records w g (MayJoin-from_held cap key records h g i)
    ∙ cc (none_new (h key) records i, all)
  where
    all : length records - count_new (h key) records ≡ length records
    all = omega (arith, none_new (h key) records i)

-- what was accepted is in larger holdings
held_after : (cap : ℕ) (h h' : Holdings) (key : Key) (records : List DataRecord) →
    MayJoin cap key records h → Grows (after_one cap h (Fragment key records)) h' →
    Within records (h' key)
unfolding after_one
held_after cap h h' key records m up y n =
    up key y (subst (λ (z : Holdings). In y (z key))
    (sym (cond-true (fits cap key records h) (with_records key records h) h
    (fits_from_MayJoin cap key records h m)))
    (subst (λ (l : List DataRecord). In y l) (sym (put_here key records h))
    (joined_has (h key) records y n)))

again_fragment : (cap : ℕ) (h h' : Holdings) (key : Key) (records : List DataRecord) →
    IsWellFormed (Fragment key records) → IsGood cap h → IsGood cap h' →
    Grows (after_one cap h (Fragment key records)) h' → (k : Key) (new known : ℕ)
    → reply cap h (Fragment key records) ≡ Accepted k new known →
    reply cap h' (Fragment key records) ≡ Accepted k 0 (new + known)
again_fragment cap h h' key records w g g' up k new known q =
    held_reply cap h' key records w g' (held_after cap h h' key records m up) ∙ same
  where
    m : MayJoin cap key records h
    m = MayJoin-from_accepted cap h key records w g (subst IsAccepted (sym q) tt)

    both : answered key records (h key) ≡ Accepted k new known
    both = sym (accepted_from_MayJoin cap h key records w g m) ∙ q

    same : Accepted key 0 (length records) ≡ Accepted k 0 (new + known)
    same =
        let p : key ≡ k = cc both in
        let s : count_new (h key) records ≡ new = cc both in
        let t : length records - count_new (h key) records ≡ known = cc both in
        let l = new_of-le (h key) records in
        let u : length records ≡ new + known = omega arith in
        cc

pub form_reply : (cap : ℕ) (h : Holdings) (fault : FragmentFault) →
    reply cap h (Fault fault) ≡ Form fault
unfolding reply
form_reply cap h fault = refl

-- a later repeat of an accepted member is accepted with nothing new
pub accepted_again : (cap : ℕ) (h h' : Holdings) (t : Parsed) → IsWellFormed t → IsGood cap h →
    IsGood cap h' → Grows (after_one cap h t) h' → (k : Key) (new known : ℕ) →
    reply cap h t ≡ Accepted k new known → reply cap h' t ≡ Accepted k 0 (new + known)
accepted_again cap h h' (Fragment key records) w g g' up k new known q =
    again_fragment cap h h' key records w g g' up k new known q
accepted_again cap h h' (Fault fault) w g g' up k new known q =
    cc (sym (form_reply cap h fault) ∙ q)

-- what larger holdings accept, the smaller ones accepted
pub accepted_before : (cap : ℕ) (h h' : Holdings) (t : Parsed) → IsWellFormed t → IsGood cap h →
    IsGood cap h' → Grows h h' → IsAccepted (reply cap h' t) → IsAccepted (reply cap h t)
accepted_before cap h h' (Fault fault) w g g' up i =
    absurd (subst IsAccepted (form_reply cap h' fault) i)
accepted_before cap h h' (Fragment key records) w g g' up i =
    subst IsAccepted (sym (accepted_from_MayJoin cap h key records w g
    (MayJoin-smaller cap key records h h' w.0 (apart-sound key 0 records w.1) g g' up
    (MayJoin-from_accepted cap h' key records w g' i)))) tt

-- a fragment has no fault of form
no_fault : (cap : ℕ) (h : Holdings) (key : Key) (records : List DataRecord)
    (fault : FragmentFault) → reply cap h (Fragment key records) ≡ Form fault → ⊥
unfolding reply
no_fault cap h key records fault q = go (first_clash (duration_of key.duration) (h key) records) q
  where
    go : (o : Option (DataRecord × DataRecord)) →
        reply_to_clash cap key records (h key) o ≡ Form fault → ⊥
    go (Some p) r = cc
    go None r = cond_both (exceeds_cap cap (length (h key)) (count_new (h key) records))
        (no_room cap records (h key)) (answered key records (h key))
        (λ (z : Reply). z ≡ Form fault → ⊥) (λ _ s. cc) (λ _ s. cc) r

-- a fault of form is the same whatever is held
pub fault_again : (cap : ℕ) (h h' : Holdings) (t : Parsed) (fault : FragmentFault) →
    reply cap h t ≡ Form fault → reply cap h' t ≡ Form fault
fault_again cap h h' (Fragment key records) fault q = absurd (no_fault cap h key records fault q)
fault_again cap h h' (Fault other) fault q = form_reply cap h' other
    ∙ (sym (form_reply cap h other) ∙ q)

pub replies-append : (cap : ℕ) (h : Holdings) (ts us : List Parsed) →
    replies cap h (ts ++ us) ≡ replies cap h ts ++ replies cap (after cap h ts) us
replies-append cap h [] us = refl
replies-append cap h (t ∷ ts) us =
    ap (λ l. reply cap h t ∷ l) (replies-append cap (after_one cap h t) ts us)

pub length-replies : (cap : ℕ) (h : Holdings) (ts : List Parsed) →
    length (replies cap h ts) ≡ length ts
length-replies cap h [] = refl
length-replies cap h (t ∷ ts) = ap suc (length-replies cap (after_one cap h t) ts)
