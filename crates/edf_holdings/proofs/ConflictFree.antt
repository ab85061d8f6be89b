-- Lists free of conflicts.
use Rattle.std.proofs.Common.{◌≡◌, ℕ, zero, suc, ◌<◌, ◌≤◌, ◌⊎◌, cond, nat_lt, List, [], ◌∷◌, length}
use Rattle.std.proofs.Common.{All, refl, sym, ap, subst, ◌∙◌, inl, inr, arith, slice_index_or}
use Rattle.std.specs.List.{Any}
use Rattle.std.proofs.lemmas.Bool.{cond_both, cond-true, false_from_ne_true}
use Rattle.std.proofs.lemmas.List.Elements.{All-cons, All-nil}
use mathlib.Core.Path.{fun_ext}
use Rattle.edf_field.specs.Number.{duration_of}
use Rattle.edf_header.specs.Key.{Key}
use Rattle.edf_fragment.specs.Fragment.{DataRecord}
use Rattle.edf_fragment.specs.Parsed.{Parsed, Fragment, Fault}
use Rattle.edf_holdings.specs.Same.{same_record}
use Rattle.edf_holdings.specs.Rising.{insert, union, IsRising}
use Rattle.edf_holdings.specs.Holdings.{Holdings, with_records}
use Rattle.edf_holdings.specs.Reply.{IsWellFormed, fits, after_one, after, reply, replies}
use Rattle.edf_holdings.specs.Reply.{IsAccepted}
use Rattle.edf_holdings.specs.ConflictFree.{union_with, union_with_all, IsConflictFree}
use Rattle.edf_holdings.specs.ConflictFree.{HasRecordUnder}
use Rattle.edf_holdings.specs.Laws.{AreWellFormed, ConflictFreeIsAccepted, Recut}
use Rattle.edf_holdings.proofs.Same.{Clash-from_test}
use Rattle.edf_holdings.proofs.Members.{In, Within, AreFree, in_joined, joined_has, joined_keeps}
use Rattle.edf_holdings.proofs.Members.{same_lists}
use Rattle.edf_holdings.proofs.Joining.{IsGood, Grows, IsGood-from_sound, In-from_Contains}
use Rattle.edf_holdings.proofs.Joining.{Contains-from_In, MayJoin, fits_from_MayJoin, put_cases}
use Rattle.edf_holdings.proofs.Joining.{put_here, put_grows}
use Rattle.edf_holdings.proofs.Settled.{IsGood-one, IsGood-after}
use Rattle.edf_holdings.proofs.Replies.{accepted_from_MayJoin}

-- joining makes no list shorter

inserted_longer : (r : DataRecord) (xs : List DataRecord) → length xs ≤ length (insert r xs)
inserted_longer r [] = omega arith
inserted_longer r (x ∷ xs) =
    cond_both (same_record x r) (x ∷ xs)
    (cond (nat_lt r.start x.start) (r ∷ x ∷ xs) (x ∷ insert r xs)) (λ (l : List DataRecord).
    length (x ∷ xs) ≤ length l)
    (λ _. omega arith) (λ _. cond_both (nat_lt r.start x.start) (r ∷ x ∷ xs) (x ∷ insert r xs)
    (λ (l : List DataRecord). length (x ∷ xs) ≤ length l)
    (λ _. omega arith) (λ _. omega (arith, inserted_longer r xs)))

joined_longer : (xs rs : List DataRecord) → length xs ≤ length (union xs rs)
joined_longer xs [] = omega arith
joined_longer xs (r ∷ rs) = omega (arith, inserted_longer r xs, joined_longer (insert r xs) rs)

one_longer : (h : Holdings) (t : Parsed) (k : Key) → length (h k) ≤ length (union_with h t k)
one_longer h (Fault fault) k = omega arith
one_longer h (Fragment key records) k =
    put_cases key records h (λ q l. length (h q) ≤ length l) (joined_longer (h key) records)
    (λ q. omega arith) k

all_longer : (h : Holdings) (ts : List Parsed) (k : Key) →
    length (h k) ≤ length (union_with_all h ts k)
all_longer h [] k = omega arith
all_longer h (t ∷ ts) k = omega (arith, one_longer h t k, all_longer (union_with h t) ts k)

-- what is in holdings joined with all records of a list

-- `Any` by recursion
abbrev pub IsAmong : Key → DataRecord → List Parsed → Type 0
IsAmong k r [] = ⊥
IsAmong k r (t ∷ ts) = HasRecordUnder k r t ⊎ IsAmong k r ts

in_one : (h : Holdings) (t : Parsed) (k : Key) (y : DataRecord) → In y (union_with h t k) →
    In y (h k) ⊎ HasRecordUnder k y t
in_one h (Fault fault) k y m = inl m
in_one h (Fragment key records) k y m =
    put_cases key records h (λ q l. In y l → In y (h q) ⊎ HasRecordUnder q y (Fragment key records))
    (λ p. elim (in_joined y (h key) records p) [
      | inl n ↦ inl n
      | inr n ↦
          inr (refl, Contains-from_In records y n)
    ])
    (λ q p. inl p) k m

pub put_has : (h : Holdings) (key : Key) (records : List DataRecord) (k : Key) (y : DataRecord) →
    HasRecordUnder k y (Fragment key records) → In y (with_records key records h k)
put_has h key records k y s =
    subst (λ (q : Key). In y (with_records key records h q)) s.0
    (subst (λ (l : List DataRecord). In y l) (sym (put_here key records h))
    (joined_has (h key) records y (In-from_Contains records y s.1)))

one_has : (h : Holdings) (t : Parsed) (k : Key) (y : DataRecord) → HasRecordUnder k y t →
    In y (union_with h t k)
one_has h (Fault fault) k y s = absurd s
one_has h (Fragment key records) k y s = put_has h key records k y s

with_one_grows : (h : Holdings) (t : Parsed) → Grows h (union_with h t)
with_one_grows h (Fault fault) = λ k y m. m
with_one_grows h (Fragment key records) = put_grows key records h

pub all_grows : (h : Holdings) (ts : List Parsed) → Grows h (union_with_all h ts)
all_grows h [] k y m = m
all_grows h (t ∷ ts) k y m = all_grows (union_with h t) ts k y (with_one_grows h t k y m)

pub in_all : (h : Holdings) (ts : List Parsed) (k : Key) (y : DataRecord) →
    In y (union_with_all h ts k) → In y (h k) ⊎ IsAmong k y ts
in_all h [] k y m = inl m
in_all h (t ∷ ts) k y m =
    elim (in_all (union_with h t) ts k y m) [
      | inr n ↦ inr (inr n)
      | inl n ↦ elim (in_one h t k y n) [ inl q ↦ inl q | inr q ↦ inr (inl q) ]
    ]

pub all_has : (h : Holdings) (ts : List Parsed) (k : Key) (y : DataRecord) → IsAmong k y ts →
    In y (union_with_all h ts k)
all_has h [] k y m = absurd m
all_has h (t ∷ ts) k y (inl s) = all_grows (union_with h t) ts k y (one_has h t k y s)
all_has h (t ∷ ts) k y (inr n) = all_has (union_with h t) ts k y n

pub IsAmong-from_Any : (k : Key) (r : DataRecord) (ts : List Parsed) → Any (HasRecordUnder k r) ts →
    IsAmong k r ts
IsAmong-from_Any k r ts a = go ts a.0 a.2 a.3
  where
    go : (us : List Parsed) (i : ℕ) → i < length us → slice_index_or us i a.1 ≡ a.1 → IsAmong k r us
    go [] i l e = absurd (omega arith)
    go (u ∷ us) zero l e = inl (subst (HasRecordUnder k r) (sym e) a.4)
    go (u ∷ us) (suc i) l e = inr (go us i (omega arith) e)

pub Any-from_IsAmong : (k : Key) (r : DataRecord) (ts : List Parsed) → IsAmong k r ts →
    Any (HasRecordUnder k r) ts
Any-from_IsAmong k r [] m = absurd m
Any-from_IsAmong k r (t ∷ ts) (inl s) = (0, t, omega arith, refl, s)
Any-from_IsAmong k r (t ∷ ts) (inr m) = let a = Any-from_IsAmong k r ts m in
    (suc a.0, a.1, omega (arith, a.2), a.3, a.4)

-- a free list is accepted whole

MayJoin-from_free : (cap : ℕ) (h : Holdings) (key : Key) (records : List DataRecord)
    (ts : List Parsed) → IsConflictFree cap h (Fragment key records ∷ ts) →
    MayJoin cap key records h
MayJoin-from_free cap h key records ts i = record { free = free; within_cap = inr room }
  where
    all : List DataRecord
    all = union_with_all (with_records key records h) ts key

    up : Within (union (h key) records) all
    up y m = all_grows (with_records key records h) ts key y
        (subst (λ (l : List DataRecord). In y l) (sym (put_here key records h)) m)

    free : AreFree (duration_of key.duration) (h key) records
    free r s m n = false_from_ne_true _ (λ t. i.no_clash key r s
        (Contains-from_In all r (up r (joined_has (h key) records r m)))
        (Contains-from_In all s (up s (joined_keeps (h key) records s n)))
        (Clash-from_test (duration_of key.duration) r s t))

    room : length (union (h key) records) ≤ cap
    room = omega (
      arith,
      i.within_cap key,
      all_longer (with_records key records h) ts key,
      ap (λ (l : List DataRecord). length l) (put_here key records h),
    )

-- what the first member of a free list does
record FirstOf (cap : ℕ) (h : Holdings) (t : Parsed) : Type 0 where
  accepted : IsAccepted (reply cap h t)
  joins : after_one cap h t ≡ union_with h t

first_of_free : (cap : ℕ) (h : Holdings) (t : Parsed) (ts : List Parsed) → IsWellFormed t →
    IsGood cap h → IsConflictFree cap h (t ∷ ts) → FirstOf cap h t
unfolding after_one
first_of_free cap h (Fault fault) ts w g i = absurd i.fragments.0
first_of_free cap h (Fragment key records) ts w g i =
    let m = MayJoin-from_free cap h key records ts i in
    record {
      accepted = subst IsAccepted (sym (accepted_from_MayJoin cap h key records w g m)) tt;
      joins = cond-true (fits cap key records h) (with_records key records h) h
          (fits_from_MayJoin cap key records h m);
    }

record WholeOf (cap : ℕ) (h : Holdings) (ts : List Parsed) : Type 0 where
  accepted : All IsAccepted (replies cap h ts)
  joins : after cap h ts ≡ union_with_all h ts

whole_of_free : (cap : ℕ) (h : Holdings) (ts : List Parsed) → AreWellFormed ts → IsGood cap h →
    IsConflictFree cap h ts → WholeOf cap h ts
whole_of_free cap h [] w g i = record { accepted = All-nil IsAccepted; joins = refl }
whole_of_free cap h (t ∷ ts) w g i =
    let one : FirstOf cap h t = first_of_free cap h t ts w.0 g i in
    let rest : WholeOf cap (union_with h t) ts =
    whole_of_free cap (union_with h t) ts w.1
    (subst (IsGood cap) one.joins (IsGood-one cap h t w.0 g))
    (record { fragments = i.fragments.1; no_clash = i.no_clash; within_cap = i.within_cap }) in
    record {
      accepted = All-cons IsAccepted (reply cap h t) (replies cap (after_one cap h t) ts)
          one.accepted (subst (λ (z : Holdings). All IsAccepted (replies cap z ts)) (sym one.joins)
          rest.accepted);
      joins = ap (λ (z : Holdings). after cap z ts) one.joins ∙ rest.joins;
    }

pub any_order_law : ConflictFreeIsAccepted
any_order_law cap h ts s w i = let a = whole_of_free cap h ts w (IsGood-from_sound cap h s) i in
    (a.accepted, a.joins)

-- free lists with the same records end alike

pub all_within : (h : Holdings) (ts us : List Parsed) (k : Key) →
    ((y : DataRecord) → IsAmong k y ts → IsAmong k y us) →
    Within (union_with_all h ts k) (union_with_all h us k)
all_within h ts us k w y m = elim (in_all h ts k y m) [
  | inl n ↦ all_grows h us k y n
  | inr n ↦
      all_has h us k y (w y n)
]

pub recut_law : Recut
recut_law cap h ts us s w v i j same =
    a.joins ∙ (fun_ext (λ k. same_lists 1 0 0 (union_with_all h ts k) (union_with_all h us k)
    (omega arith)
    (subst (λ (z : Holdings). IsRising (z k)) a.joins ((IsGood-after cap h ts w g).rising k))
    (subst (λ (z : Holdings). IsRising (z k)) b.joins ((IsGood-after cap h us v g).rising k))
    (all_within h ts us k (λ y m. IsAmong-from_Any k y us
    ((same k y).0 (Any-from_IsAmong k y ts m))))
    (all_within h us ts k (λ y m. IsAmong-from_Any k y ts
    ((same k y).1 (Any-from_IsAmong k y us m)))))
    ∙ sym b.joins)
  where
    g : IsGood cap h
    g = IsGood-from_sound cap h s

    a : WholeOf cap h ts
    a = whole_of_free cap h ts w g i

    b : WholeOf cap h us
    b = whole_of_free cap h us v g j
