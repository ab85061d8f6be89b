-- What the definitions say in the words of sets.
use Rattle.std.proofs.Common.{◌≡◌, ◌≢◌, ℕ, ◌+◌, ◌-◌, ◌<◌, ◌≤◌, true, cond, nat_eq, List, [], ◌∷◌}
use Rattle.std.proofs.Common.{length, Contains, Option, Some, refl, sym, ap, subst, ◌∙◌, inl, inr}
use Rattle.std.proofs.Common.{arith, find, eq-eqb, ne_eqb}
use Rattle.std.specs.Option.{option_or}
use Rattle.std.proofs.lemmas.Bool.{cond-true, cond-false, cases_Bool, false_from_ne_true, both_ways}
use mathlib.Core.Path.{fun_ext}
use Rattle.edf_field.specs.Number.{duration_of}
use Rattle.edf_header.specs.Key.{Key, IsKey}
use Rattle.edf_fragment.specs.Fragment.{DataRecord}
use Rattle.edf_fragment.specs.Parsed.{Fragment}
use Rattle.edf_holdings.specs.Same.{same_key}
use Rattle.edf_holdings.specs.Clash.{clashes}
use Rattle.edf_holdings.specs.Rising.{union, count_new, StartsAreSpaced, IsRising}
use Rattle.edf_fragment.specs.Sound.{IsSoundRecord, AreSoundFrom}
use Rattle.edf_holdings.specs.Holdings.{Holdings, IsSound, with_records, nothing_held}
use Rattle.edf_holdings.specs.Reply.{IsWellFormed, fits, after_one, Accepted, Differs, Overlap}
use Rattle.edf_holdings.specs.Reply.{Conflict, Conflicts, conflict_of_clash}
use Rattle.edf_holdings.specs.Reply.{clash_or, first_clash, reply_to_clash, reply, IsAccepted}
use Rattle.edf_holdings.specs.ConflictFree.{union_with_all}
use Rattle.edf_holdings.specs.Meaning.{SameKeyIsEqual, SameRecordIsEqual, TestIsClash}
use Rattle.edf_holdings.specs.Meaning.{TestIsContains, ListIsSet, HoldingsAreSets, UnionHasBoth}
use Rattle.edf_holdings.specs.Meaning.{UnionWithAllHasBoth, Fits, TestIsFits, AcceptedWhereFits}
use Rattle.edf_holdings.specs.Meaning.{IsFirstClash, RepliesNameTheClash, OwnRecordsAreKnown}
use Rattle.edf_holdings.specs.Meaning.{AtMostTwoOverlap}
use Rattle.edf_holdings.proofs.Same.{same_key-Decides, same_record-Decides, Clash-from_test}
use Rattle.edf_holdings.proofs.Same.{test_from_Clash}
use Rattle.edf_holdings.proofs.Members.{In, Within, AreFree, In-from_holds, holds_from_In}
use Rattle.edf_holdings.proofs.Members.{in_joined, joined_keeps, joined_has, joined_held}
use Rattle.edf_holdings.proofs.Members.{same_lists, apart_joined, in_rest}
use Rattle.edf_holdings.proofs.Joining.{IsGood, IsGood-from_sound, In-from_Contains}
use Rattle.edf_holdings.proofs.Joining.{Contains-from_In, MayJoin, MayJoin-from_fits}
use Rattle.edf_holdings.proofs.Joining.{fits_from_MayJoin, lasting}
use Rattle.edf_holdings.proofs.Replies.{accepted_from_MayJoin, MayJoin-from_accepted, held_reply}
use Rattle.edf_holdings.proofs.Replies.{no_first, answered}
use Rattle.edf_holdings.proofs.Sound.{Each-from_All}
use Rattle.edf_holdings.proofs.ConflictFree.{in_all, all_has, all_grows, IsAmong-from_Any}
use Rattle.edf_holdings.proofs.ConflictFree.{Any-from_IsAmong}
use Rattle.edf_holdings.proofs.Near.{near_two, first_clash-append}

pub same_key_is_equal : SameKeyIsEqual
same_key_is_equal k q = ((same_key-Decides k q).0, (same_key-Decides k q).1)

pub same_record_is_equal : SameRecordIsEqual
same_record_is_equal r s = ((same_record-Decides r s).0, (same_record-Decides r s).1)

pub test_is_clash : TestIsClash
test_is_clash d r s = (Clash-from_test d r s, test_from_Clash d r s)

pub holds_is_contains : TestIsContains
holds_is_contains xs r = (
  (λ e. Contains-from_In xs r (In-from_holds xs r e)),
  (λ m. holds_from_In xs r (In-from_Contains xs r m)),
)

within_from_members : (xs ys : List DataRecord) →
    ((r : DataRecord) → Contains xs r → Contains ys r) → Within xs ys
within_from_members xs ys w y m = In-from_Contains ys y (w y (Contains-from_In xs y m))

pub list_is_set : ListIsSet
list_is_set xs ys a b s = same_lists 1 0 0 xs ys (omega arith) a b
    (within_from_members xs ys (λ r. (s r).0)) (within_from_members ys xs (λ r. (s r).1))

pub holdings_are_sets : HoldingsAreSets
holdings_are_sets cap h other s t m =
    fun_ext (λ k. list_is_set (h k) (other k) (s.rising k) (t.rising k) (m k))

pub joined_has_both : UnionHasBoth
joined_has_both xs rs r = (
  (λ m. elim (in_joined r xs rs (In-from_Contains (union xs rs) r m)) [
    | inl n ↦ inl (Contains-from_In xs r n)
    | inr n ↦ inr (Contains-from_In rs r n)
  ]),
  (λ m. Contains-from_In (union xs rs) r (elim m [
    | inl n ↦ joined_keeps xs rs r (In-from_Contains xs r n)
    | inr n ↦ joined_has xs rs r (In-from_Contains rs r n)
  ])),
)

pub all_has_both : UnionWithAllHasBoth
all_has_both h ts k r = (
  (λ m. elim (in_all h ts k r (In-from_Contains (union_with_all h ts k) r m)) [
    | inl n ↦ inl (Contains-from_In (h k) r n)
    | inr n ↦ inr (Any-from_IsAmong k r ts n)
  ]),
  (λ m. Contains-from_In (union_with_all h ts k) r (elim m [
    | inl n ↦ all_grows h ts k r (In-from_Contains (h k) r n)
    | inr n ↦ all_has h ts k r (IsAmong-from_Any k r ts n)
  ])),
)

-- what fits

MayJoin-from_Fits : (cap : ℕ) (h : Holdings) (key : Key) (records : List DataRecord) →
    Fits cap key records h → MayJoin cap key records h
MayJoin-from_Fits cap h key records f = record {
  free = λ r s m n. false_from_ne_true _ (λ t.
      f.none_clashes r s (Contains-from_In records r m) (Contains-from_In (h key) s n)
      (Clash-from_test (duration_of key.duration) r s t));
  within_cap = elim f.within_cap [
    | inl e ↦ inl (λ y m. subst (λ (l : List DataRecord). In y l) e
        (joined_has (h key) records y m))
    | inr l ↦ inr l
  ];
}

Fits-from_MayJoin : (cap : ℕ) (h : Holdings) (key : Key) (records : List DataRecord) → IsKey key →
    IsGood cap h → MayJoin cap key records h → Fits cap key records h
Fits-from_MayJoin cap h key records w g m = record {
  none_clashes = λ r s n k c. both_ways _ (m.free r s (In-from_Contains records r n)
      (In-from_Contains (h key) s k)) (test_from_Clash (duration_of key.duration) r s c);
  within_cap = elim m.within_cap [
    | inl i ↦ inl (joined_held (duration_of key.duration) 0 (h key) records (lasting key w)
        (g.apart key) i)
    | inr l ↦ inr l
  ];
}

pub test_is_fits : TestIsFits
test_is_fits cap h key records s w = (
  (λ e. Fits-from_MayJoin cap h key records w.0 (IsGood-from_sound cap h s)
      (MayJoin-from_fits cap key records h e)),
  (λ f. fits_from_MayJoin cap key records h (MayJoin-from_Fits cap h key records f)),
)

pub accepted_where_fits : AcceptedWhereFits
accepted_where_fits cap h key records s w =
    let g = IsGood-from_sound cap h s in (
      (λ i. fits_from_MayJoin cap key records h (MayJoin-from_accepted cap h key records w g i)),
      (λ t. subst IsAccepted
          (sym (accepted_from_MayJoin cap h key records w g
          (MayJoin-from_fits cap key records h t))) tt),
    )

-- the clash that is named

-- of those that clash, the first in a rising list is the earliest
find_earliest : (d low : ℕ) (r s : DataRecord) (xs : List DataRecord) → StartsAreSpaced 1 low xs →
    In s xs → clashes d r s ≡ true
    → ((x : DataRecord) → In x xs → clashes d r x ≡ true → s.start ≤ x.start) →
    find (clashes d r) xs ≡ Some s
find_earliest d low r s [] a m t w = absurd m
find_earliest d low r s (x ∷ xs) a (inl p) t w =
    cond-true (clashes d r x) (Some x) (find (clashes d r) xs)
    (subst (λ (u : DataRecord). clashes d r u ≡ true) (sym p) t) ∙ ap Some p
find_earliest d low r s (x ∷ xs) a (inr m) t w =
    elim (cases_Bool (clashes d r x)) [
      | inl e ↦ absurd (omega (arith, w x (inl refl) e, in_rest 1 low x s xs a m))
      | inr e ↦ cond-false (clashes d r x) (Some x) (find (clashes d r) xs) e
          ∙ find_earliest d (x.start + 1) r s xs a.1 m t (λ y n. w y (inr n))
    ]

pub first_clash_found : (d : ℕ) (xs rs : List DataRecord) (r s : DataRecord) → IsRising xs →
    IsFirstClash d xs rs r s → first_clash d xs rs ≡ Some (r, s)
first_clash_found d xs rs r s a i =
    ap (first_clash d xs) i.splits
    ∙ (first_clash-append d xs i.before (r ∷ i.later)
    ∙ (ap (λ (o : Option (DataRecord × DataRecord)). option_or o (first_clash d xs (r ∷ i.later)))
    (no_first d xs i.before none)
    ∙ ap (λ (o : Option DataRecord). clash_or r o (first_clash d xs i.later))
    (find_earliest d 0 r s xs a (In-from_Contains xs s i.held) (test_from_Clash d r s i.clash)
    (λ x m t. i.earliest x (Contains-from_In xs x m) (Clash-from_test d r x t)))))
  where
    none : AreFree d xs i.before
    none q x m n = false_from_ne_true _ (λ t.
        i.none_before q x (Contains-from_In i.before q m) (Contains-from_In xs x n)
        (Clash-from_test d q x t))

pub clash_is_named : RepliesNameTheClash
unfolding reply
clash_is_named cap h key records r s t i = (
  (λ p. is ∙ ap (λ (c : Conflict). Conflicts c)
      (cond-true (nat_eq r.start s.start) (Differs r.start) (Overlap r.start s.start)
      (eq-eqb r.start s.start p))),
  (λ p. is ∙ ap (λ (c : Conflict). Conflicts c)
      (cond-false (nat_eq r.start s.start) (Differs r.start) (Overlap r.start s.start)
      (ne_eqb r.start s.start p))),
)
  where
    is : reply_to_clash cap key records (h key)
        (first_clash (duration_of key.duration) (h key) records)
        ≡ Conflicts (conflict_of_clash r.start s.start)
    is = ap (reply_to_clash cap key records (h key))
        (first_clash_found (duration_of key.duration) (h key) records r s (t.rising key) i)

-- a recording's own records

none_held : (cap : ℕ) → IsGood cap nothing_held
none_held cap = record { rising = λ k. tt; apart = λ k. tt; within_cap = λ k. omega arith }

pub from_nothing : (d low : ℕ) (rs : List DataRecord) → 0 < d → StartsAreSpaced d low rs →
    StartsAreSpaced d 0 rs → union [] rs ≡ rs
from_nothing d low rs z a b =
    same_lists d 0 0 (union [] rs) rs z (apart_joined d low [] rs tt a (λ r x m n. absurd n)) b
    (λ y m. elim (in_joined y [] rs m) [ inl n ↦ absurd n | inr n ↦ n ])
    (joined_has [] rs)

new_from_nothing : (rs : List DataRecord) → count_new [] rs ≡ length rs
new_from_nothing [] = refl
new_from_nothing (r ∷ rs) = omega (arith, new_from_nothing rs)

-- records that lie apart and are each sound are sound together
pub are-sound-from : (k : Key) (low : ℕ) (rs : List DataRecord) →
    StartsAreSpaced (duration_of k.duration) low rs →
    ((r : DataRecord) → In r rs → IsSoundRecord k r) → AreSoundFrom k low rs
are-sound-from k low [] a e = tt
are-sound-from k low (r ∷ rs) a e = (
  e r (inl refl),
  a.0,
  are-sound-from k (r.start + duration_of k.duration) rs a.1
      (λ y m. e y (inr m)),
)

-- so a recording's records are a fragment's
pub held-sound : (cap : ℕ) (h : Holdings) (k : Key) → IsSound cap h → h k ≢ [] →
    IsWellFormed (Fragment k (h k))
held-sound cap h k s some = (
  s.keys k some,
  are-sound-from k 0 (h k) ((IsGood-from_sound cap h s).apart k)
      (Each-from_All (IsSoundRecord k) (h k) (s.records k)),
  s.begins k,
)

pub own_list : OwnRecordsAreKnown
unfolding after_one
own_list cap h k s some = (
  held_reply cap h k (h k) w g (λ y m. m),
  accepted_from_MayJoin cap nothing_held k (h k) w (none_held cap) may ∙ counted,
  cond-true (fits cap k (h k) nothing_held) (with_records k (h k) nothing_held) nothing_held
      (fits_from_MayJoin cap k (h k) nothing_held may)
      ∙ fun_ext (λ q. ap (λ (l : List DataRecord). cond (same_key k q) l []) whole),
)
  where
    w : IsWellFormed (Fragment k (h k))
    w = held-sound cap h k s some

    g : IsGood cap h
    g = IsGood-from_sound cap h s

    whole : union [] (h k) ≡ h k
    whole = from_nothing (duration_of k.duration) 0 (h k) (lasting k w.0) (g.apart k) (g.apart k)

    may : MayJoin cap k (h k) nothing_held
    may = record {
      free = λ r t m n. absurd n;
      within_cap =
          inr (subst (λ (l : List DataRecord). length l ≤ cap) (sym whole) (g.within_cap k));
    }

    counted : answered k (h k) [] ≡ Accepted k (length (h k)) 0
    counted =
        let p : length (h k) - count_new [] (h k) ≡ 0 = omega (arith, new_from_nothing (h k)) in
        cc (new_from_nothing (h k), p)

pub near_two_law : AtMostTwoOverlap
near_two_law cap h k start s = near_two (duration_of k.duration) 0 start (h k)
    ((IsGood-from_sound cap h s).apart k)
