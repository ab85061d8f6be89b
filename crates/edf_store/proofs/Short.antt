-- What the first start and the last tell of how many data records lie between them.
use Rattle.std.proofs.Common.{◌≡◌, ℕ, suc, ◌+◌, ◌-◌, ◌*◌, ◌<◌, ◌≤◌, ℤ, pos, ◌-ℤ◌, unsigned_abs}
use Rattle.std.proofs.Common.{nat_le, List, [], ◌∷◌, length, reverse, Option, Some, None}
use Rattle.std.proofs.Common.{option_map, slice_get, sym, ap, subst, ◌∙◌, arith, inl, inr}
use Rattle.std.proofs.Common.{mul-le-mul_right, le-leb, leb-true}
use Rattle.std.proofs.lemmas.Int.{ints}
use Rattle.std.proofs.lemmas.Bool.{cases_lt, cases_Bool, lt-leb, leb-false}
use mathlib.Core.List.{reverse_aux}
use Rattle.sqlite_value.specs.declared.value.Value.TheVariants.{Int}
use Rattle.sqlite_value.specs.Order.{column}
use Rattle.sqlite.specs.Effect.{Database}
use Rattle.sqlite.specs.State.{State, HasCleanDisk, Survives, IsUnchanged}
use Rattle.edf_field.specs.Number.{duration_of}
use Rattle.edf_header.specs.Key.{Key}
use Rattle.edf_fragment.specs.Fragment.{DataRecord}
use Rattle.edf_holdings.specs.Holdings.{Holdings}
use Rattle.edf_holdings.specs.Rising.{StartsAreSpaced}
use Rattle.edf_holdings.proofs.Joining.{IsGood-from_sound}
use Rattle.edf_tables.specs.Records.{records_of}
use Rattle.edf_store.specs.Transaction.{AreSeen, HasRowId, StillSees, AddsNoRecordingIn}
use Rattle.edf_store.proofs.Keys.{first_is}
use Rattle.edf_store.proofs.Standing.{shown_of, one_key}
use Rattle.edf_store.proofs.SummaryReads.{show_reverse, number_at, FirstAt, LastAt}

step : (p q n d m : ℕ) → p + d ≤ q → q + m ≤ n → p + (d + m) ≤ n
step p q n d m a b = omega (arith, a, b)

one_more : (m d : ℕ) → suc m * d ≡ d + m * d
one_more m d = omega arith

-- records that lie apart reach as far as there are many of them
far : (d : ℕ) (x : DataRecord) (xs acc : List DataRecord) → StartsAreSpaced d (x.start + d) xs →
    (b : ℤ) → number_at (reverse_aux xs (x ∷ acc)) ≡ Some b → (n : ℕ) × (b ≡ pos n)
    × (x.start + length xs * d ≤ n)
far d x [] acc a b e = (x.start, (let same : pos x.start ≡ b = cc in sym same), omega arith)
far d x (y ∷ ys) acc a b e =
    let it = far d y ys (x ∷ acc) a.1 b e in (
      it.0,
      it.1,
      subst (λ (m : ℕ). x.start + m ≤ it.0) (sym (one_more (length ys) d))
          (step x.start y.start it.0 d (length ys * d) a.0 it.2),
    )

abs_far : (m n : ℕ) → m ≤ n → m + unsigned_abs (pos n -ℤ pos m) ≡ n
abs_far m n l = omega (arith, ints, l)

fewer : (m n d : ℕ) → m * d < n * d → m < n
fewer m n d l = elim (cases_lt m n) [
  | inl low ↦ low
  | inr high ↦ absurd (omega (arith, l, mul-le-mul_right d high))
]

-- a list that reaches over less time than `most` durations has at most `most` records
short_list : (d most : ℕ) (xs : List DataRecord) → StartsAreSpaced d 0 xs → (a b : ℤ) →
    number_at xs ≡ Some a → number_at (reverse xs) ≡ Some b → unsigned_abs (b -ℤ a) < most * d →
    (0 < length xs) × (length xs ≤ most)
short_list d most [] apart a b first last l =
    absurd (let none : ◌≡◌ {A = Option ℤ} None (Some a) = first in cc)
short_list d most (x ∷ xs) apart a b first last l =
    let same : pos x.start ≡ a = cc in
    let it = far d x xs [] apart.1 b last in
    let reach : unsigned_abs (pos it.0 -ℤ pos x.start) < most * d =
    subst (λ z. unsigned_abs (pos it.0 -ℤ z) < most * d) (sym same)
    (subst (λ z. unsigned_abs (z -ℤ a) < most * d) it.1 l) in
    let low : x.start ≤ it.0 = omega (arith, it.2) in
    let less : length xs * d < most * d = omega (arith, reach, it.2, abs_far x.start it.0 low) in
    let few = fewer (length xs) most d less in
    (omega arith, omega (arith, few))

-- two reads of a transaction that nothing changes between them
module _ (cap : ℕ) (a b c : State) (id : ℤ) (first last : Option ℤ)
    (one : Survives a b (λ _. ⊥)) (two : Survives b c (λ _. ⊥)) (same : HasCleanDisk b →
    IsUnchanged a b) (began : HasCleanDisk b → FirstAt a id first) (ended : HasCleanDisk c →
    LastAt b id last) (clean : HasCleanDisk c) where
  clean_b : HasCleanDisk b
  clean_b = omega (arith, two.clean, clean)

  clean_a : HasCleanDisk a
  clean_a = omega (arith, one.clean, clean_b)

  ended_then : LastAt a id last
  ended_then = subst (λ (db : Database). option_map Int last ≡ option_map (λ row. column row 2)
      (slice_get (reverse (records_of id (db.trees 2))) 0)) (same clean_b).0.now_is (ended clean)

  pub short_read : (d most : ℕ) (k q : Key) → HasRowId a id k → d ≡ duration_of k.duration →
      (x y : ℤ) → first ≡ Some x → last ≡ Some y → unsigned_abs (y -ℤ x) < most * d
      → (h : Holdings) → AreSeen cap a h → HasRowId a id q → (0 < length (h q))
      × (length (h q) ≤ most)
  short_read d most k q mine duration x y f l near h seen under =
      let it = seen clean_a in
      let key : k ≡ q = one_key a.now.trees h it.stand id k q (mine.there clean_a)
      (under.there clean_a) in
      let shown = shown_of a.now.trees h it.stand id q (under.there clean_a) in
      let began_is = first_is (records_of id (a.now.trees 2)) (h q) first shown (began clean_b) in
      let ended_is = first_is (reverse (records_of id (a.now.trees 2))) (reverse (h q)) last
      (show_reverse _ _ shown) ended_then in
      let of_q : d ≡ duration_of q.duration = duration
      ∙ ap (λ (z : Key). duration_of z.duration) key in
      short_list (duration_of q.duration) most (h q) ((IsGood-from_sound cap h it.sound).apart q) x
      y (sym began_is ∙ f) (sym ended_is ∙ l)
      (subst (λ n. unsigned_abs (y -ℤ x) < most * n) of_q near)

-- there is room for `more` exactly where the cap leaves it
pub room_counted : (cap more left held n : ℕ) → left ≡ cap - held → held ≡ n → n ≤ cap →
    nat_le more left ≡ nat_le (n + more) cap
room_counted cap more left held n is same few = elim (cases_Bool (nat_le (n + more) cap)) [
  | inl fits ↦ le-leb more left (omega (arith, is, same, few, leb-true (n + more) cap fits))
      ∙ sym fits
  | inr past ↦ lt-leb more left (omega (arith, is, same, few, leb-false (n + more) cap past))
      ∙ sym past
]

-- one call after the other
pub sees_twice : (cap : ℕ) (a b c : State) → StillSees cap a b → StillSees cap b c →
    StillSees cap a c
sees_twice cap a b c p q = record {
  running = q.running;
  holdings = λ h seen. q.holdings h (p.holdings h seen);
  ids = λ id k under. q.ids id k (p.ids id k under);
}

pub none_twice : (a b c : State) → (HasCleanDisk c → HasCleanDisk b) → AddsNoRecordingIn a b →
    AddsNoRecordingIn b c → AddsNoRecordingIn a c
none_twice a b c was p q clean id k it = p (was clean) id k (q clean id k it)
