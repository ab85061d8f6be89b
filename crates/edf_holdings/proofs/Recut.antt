-- Whether a list is free is said by its records alone.
use Rattle.std.proofs.Common.{◌≡◌, ℕ, zero, suc, ◌<◌, ◌≤◌, List, [], ◌∷◌, length, Contains, refl}
use Rattle.std.proofs.Common.{sym, ap, subst, ◌∙◌, arith, slice_index_or}
use Rattle.std.specs.List.{Any, AllByRecursion}
use Rattle.std.proofs.lemmas.Bool.{false_from_ne_true, both_ways}
use mathlib.Core.Path.{fun_ext}
use Rattle.edf_field.specs.Number.{duration_of}
use Rattle.edf_header.specs.Key.{Key}
use Rattle.edf_fragment.specs.Fragment.{DataRecord}
use Rattle.edf_fragment.specs.Parsed.{Parsed, Fragment, Fault}
use Rattle.edf_holdings.specs.Clash.{NoClash}
use Rattle.edf_holdings.specs.Rising.{union, StartsAreSpaced, IsRising}
use Rattle.edf_holdings.specs.Holdings.{Holdings, IsSound, with_records, nothing_held}
use Rattle.edf_holdings.specs.Reply.{IsWellFormed}
use Rattle.edf_holdings.specs.ConflictFree.{IsFragment, union_with, union_with_all, IsConflictFree}
use Rattle.edf_holdings.specs.ConflictFree.{HasRecordUnder, SameRecords}
use Rattle.edf_holdings.specs.Laws.{AreWellFormed, Reordered, SameRecordsStayConflictFree}
use Rattle.edf_holdings.specs.Laws.{OneIsConflictFree}
use Rattle.edf_holdings.proofs.Same.{Clash-from_test, test_from_Clash}
use Rattle.edf_holdings.proofs.Members.{In, Within, AreFree, joined_keeps, joined_has, apart_joined}
use Rattle.edf_holdings.proofs.Members.{same_lists}
use Rattle.edf_holdings.proofs.Joining.{IsGood-from_sound, In-from_Contains, Contains-from_In}
use Rattle.edf_holdings.proofs.Joining.{put_cases, put_here, rising_from_apart, free_from_apart}
use Rattle.edf_holdings.proofs.Joining.{lasting, apart-sound}
use Rattle.edf_holdings.proofs.ConflictFree.{all_grows, IsAmong-from_Any, Any-from_IsAmong}
use Rattle.edf_holdings.proofs.ConflictFree.{any_order_law, all_within}
use Rattle.edf_holdings.proofs.InSets.{from_nothing}

-- each key's records rise and lie apart
abbrev AreInOrder : Holdings → Type 0
AreInOrder h = (k : Key) → IsRising (h k) × StartsAreSpaced (duration_of k.duration) 0 (h k)

-- they do so with one fragment more, where in the end nothing clashes
order-one : (h : Holdings) (t : Parsed) (ts : List Parsed) → IsWellFormed t →
    ((k : Key) → NoClash (duration_of k.duration) (union_with_all (union_with h t) ts k)) →
    AreInOrder h → AreInOrder (union_with h t)
order-one h (Fault fault) ts w n o = o
order-one h (Fragment key records) ts w n o =
    put_cases key records h (λ k l. IsRising l × StartsAreSpaced (duration_of k.duration) 0 l) (
      rising_from_apart (duration_of key.duration) 0 (union (h key) records) (lasting key w.0)
          apart,
      apart,
    ) o
  where
    all : List DataRecord
    all = union_with_all (with_records key records h) ts key

    up : Within (union (h key) records) all
    up y m = all_grows (with_records key records h) ts key y
        (subst (λ (l : List DataRecord). In y l) (sym (put_here key records h)) m)

    free : AreFree (duration_of key.duration) (h key) records
    free r s m k = false_from_ne_true _ (λ t. n key r s
        (Contains-from_In all r (up r (joined_has (h key) records r m)))
        (Contains-from_In all s (up s (joined_keeps (h key) records s k)))
        (Clash-from_test (duration_of key.duration) r s t))

    apart : StartsAreSpaced (duration_of key.duration) 0 (union (h key) records)
    apart = apart_joined (duration_of key.duration) 0 (h key) records (o key).1
        (apart-sound key 0 records w.1) free

order-all : (h : Holdings) (ts : List Parsed) → AreWellFormed ts →
    ((k : Key) → NoClash (duration_of k.duration) (union_with_all h ts k)) → AreInOrder h →
    AreInOrder (union_with_all h ts)
order-all h [] w n o = o
order-all h (t ∷ ts) w n o = order-all (union_with h t) ts w.1 n (order-one h t ts w.0 n o)

-- lists with the same records, of which one is free, give the same
module _ (cap : ℕ) (h : Holdings) (ts us : List Parsed) (s : IsSound cap h) (w : AreWellFormed ts)
    (v : AreWellFormed us) (i : IsConflictFree cap h ts) (same : SameRecords ts us) where
  there : (k : Key) → Within (union_with_all h us k) (union_with_all h ts k)
  there k = all_within h us ts k (λ y m.
      IsAmong-from_Any k y ts ((same k y).1 (Any-from_IsAmong k y us m)))

  back : (k : Key) → Within (union_with_all h ts k) (union_with_all h us k)
  back k = all_within h ts us k (λ y m.
      IsAmong-from_Any k y us ((same k y).0 (Any-from_IsAmong k y ts m)))

  no_clash : (k : Key) → NoClash (duration_of k.duration) (union_with_all h us k)
  no_clash k r x m n =
      i.no_clash k r x (Contains-from_In (union_with_all h ts k) r
      (there k r (In-from_Contains (union_with_all h us k) r m)))
      (Contains-from_In (union_with_all h ts k) x
      (there k x (In-from_Contains (union_with_all h us k) x n)))

  at_first : AreInOrder h
  at_first k = let g = IsGood-from_sound cap h s in (g.rising k, g.apart k)

  pub same_all : union_with_all h us ≡ union_with_all h ts
  same_all = fun_ext (λ k. same_lists 1 0 0 (union_with_all h us k) (union_with_all h ts k)
      (omega arith)
      (order-all h us v no_clash at_first k).0 (order-all h ts w i.no_clash at_first k).0 (there k)
      (back k))

  pub free_again : AllByRecursion IsFragment us → IsConflictFree cap h us
  free_again f = record {
    fragments = f;
    no_clash = no_clash;
    within_cap =
        λ k. subst (λ (z : Holdings). length (z k) ≤ cap) (sym same_all) (i.within_cap k);
  }

pub free_of_same : SameRecordsStayConflictFree
free_of_same cap h ts us s w v i f same = free_again cap h ts us s w v i same f

-- by membership

head-in : (u : Parsed) (us : List Parsed) → Contains (u ∷ us) u
head-in u us = (0, omega arith, refl)

tail-in : (u : Parsed) (us : List Parsed) (t : Parsed) → Contains us t → Contains (u ∷ us) t
tail-in u us t c = (suc c.0, omega (arith, c.1), c.2)

at-member : (P : Parsed → Type 0) (ts : List Parsed) (t : Parsed) → AllByRecursion P ts →
    Contains ts t → P t
at-member P ts t a c = go ts a c.0 c.1 c.2
  where
    go : (ys : List Parsed) → AllByRecursion P ys → (k : ℕ) → k < length ys →
        slice_index_or ys k t ≡ t → P t
    go [] b k l e = absurd (omega arith)
    go (y ∷ ys) b zero l e = subst P e b.0
    go (y ∷ ys) b (suc k) l e = go ys b.1 k (omega arith) e

each-moved : (P : Parsed → Type 0) (ts us : List Parsed) → AllByRecursion P ts →
    ((t : Parsed) → Contains us t → Contains ts t) → AllByRecursion P us
each-moved P ts [] a f = tt
each-moved P ts (u ∷ us) a f = (
  at-member P ts u a (f u (head-in u us)),
  each-moved P ts us a (λ t m. f t (tail-in u us t m)),
)

any-moved : (P : Parsed → Type 0) (ts us : List Parsed) →
    ((t : Parsed) → Contains ts t → Contains us t) → Any P ts → Any P us
any-moved P ts us f a = let c = f a.1 (a.0, a.2, a.3) in (c.0, a.1, c.1, c.2, a.4)

pub reordered : Reordered
reordered cap h ts us s w i same =
    let v = each-moved IsWellFormed ts us w (λ t. (same t).1) in
    let f = each-moved IsFragment ts us i.fragments (λ t. (same t).1) in
    let r : SameRecords ts us = λ k y. (
      any-moved (HasRecordUnder k y) ts us (λ t. (same t).0),
      any-moved (HasRecordUnder k y) us ts (λ t. (same t).1),
    ) in
    let j = free_again cap h ts us s w v i r f in (
      j,
      (any_order_law cap h us s v j).1
          ∙ (same_all cap h ts us s w v i r ∙ sym (any_order_law cap h ts s w i).1),
    )

pub alone_is_free : OneIsConflictFree
alone_is_free cap key records w few = record {
  fragments = (tt, tt);
  no_clash = put_cases key records nothing_held (λ k l. NoClash (duration_of k.duration) l)
      (λ r s m n c. both_ways _ (free_from_apart (duration_of key.duration) 0 (union [] records)
      apart r s (In-from_Contains (union [] records) r m) (In-from_Contains (union [] records) s n))
      (test_from_Clash (duration_of key.duration) r s c))
      (λ k r s m n c. absurd (In-from_Contains [] r m));
  within_cap = put_cases key records nothing_held (λ k l. length l ≤ cap)
      (omega (arith, few, ap (λ (l : List DataRecord). length l) whole)) (λ k. omega arith);
}
  where
    whole : union [] records ≡ records
    whole = from_nothing (duration_of key.duration) 0 records (lasting key w.0)
        (apart-sound key 0 records w.1) (apart-sound key 0 records w.1)

    apart : StartsAreSpaced (duration_of key.duration) 0 (union [] records)
    apart = subst (StartsAreSpaced (duration_of key.duration) 0) (sym whole)
        (apart-sound key 0 records w.1)
