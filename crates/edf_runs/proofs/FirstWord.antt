-- The first word that is neither `known` nor `new` is what a store refuses.
use Rattle.std.proofs.Common.{◌≡◌, ℕ, zero, suc, ◌+◌, ◌<◌, ◌≤◌, List, [], ◌∷◌, ◌++◌, All, Contains}
use Rattle.std.proofs.Common.{refl, sym, ap, ◌∙◌, subst, arith, inl, inr, append_assoc, drop}
use Rattle.std.proofs.Common.{length, get_or}
use Rattle.std.proofs.lemmas.Bool.{cases_lt}
use Rattle.std.proofs.lemmas.List.Elements.{All-head, All-tail, All-append, All-contains, All-nil}
use Rattle.std.proofs.lemmas.List.Elements.{All-weaker, Contains-append_right}
use Rattle.edf_field.specs.Number.{duration_of}
use Rattle.edf_header.specs.Key.{Key, IsKey}
use Rattle.edf_header.proofs.Cited.{key-duration-some}
use Rattle.edf_fragment.specs.Fragment.{DataRecord}
use Rattle.edf_fragment.specs.Sound.{AreSoundFrom}
use Rattle.edf_fragment.proofs.Sound.{spelled-key, spelled-sound}
use Rattle.edf_holdings.specs.Clash.{Clash}
use Rattle.edf_holdings.specs.Meaning.{IsFirstClash}
use Rattle.edf_holdings.proofs.Clashes.{clash_is_there}
use Rattle.edf_holdings.proofs.InSets.{clash_is_named}
use Rattle.edf_holdings.specs.Reply.{Conflicts}
use Rattle.edf_holdings.specs.Reply as conflict
use Rattle.edf_runs.specs.Compared.{HasWord, IsStretch, AreStretches}
use Rattle.edf_runs.specs.ComparedLaws.{FirstWordIsNamed}
use Rattle.edf_runs.specs.Inside.Spaced.{Spaced}
use Rattle.edf_runs.specs.declared.stretch.Stretch.{Stretch}
use Rattle.edf_runs.specs.declared.stretch.Word.{Word}
use Rattle.edf_runs.proofs.ByOnset.{spaced-sound}
use Rattle.edf_runs.proofs.WordCounts.{IsTaken, IsClear, clear-some}
use Rattle.edf_runs.proofs.Words.{words-name-clashes, from-low}

-- the first element of a list that has a property is one
one-first : (P : DataRecord → Type 0) (front tail before later : List DataRecord) (r q : DataRecord)
    → front ++ r ∷ tail ≡ before ++ q ∷ later → All (λ x. P x → ⊥) front →
    All (λ x. P x → ⊥) before → P r → P q → q ≡ r
one-first P [] tail [] later r q same none never is is' = sym (head-same r tail q later same)
  where
    head-same : (x : DataRecord) (xs : List DataRecord) (y : DataRecord) (ys : List DataRecord) →
        x ∷ xs ≡ y ∷ ys → x ≡ y
    head-same x xs y ys e = cc
one-first P [] tail (b ∷ bs) later r q same none never is is' =
    let e : r ≡ b = cc in
    absurd (All-head (λ x. P x → ⊥) b bs never (subst P e is))
one-first P (f ∷ fs) tail [] later r q same none never is is' =
    let e : f ≡ q = cc in
    absurd (All-head (λ x. P x → ⊥) f fs none (subst P (sym e) is'))
one-first P (f ∷ fs) tail (b ∷ bs) later r q same none never is is' =
    one-first P fs tail bs later r q (ap (λ (l : List DataRecord). drop 1 l) same)
    (All-tail (λ x. P x → ⊥) f fs none) (All-tail (λ x. P x → ⊥) b bs never) is is'

-- one data record of a file has ended when a later one starts
apart : (d low : ℕ) (xs : List DataRecord) (x y : DataRecord) → Spaced d low xs → Contains xs x →
    Contains xs y → x.start < y.start → x.start + d ≤ y.start
apart d low [] x y spaced has has' lt = absurd (omega (arith, has.1))
apart d low (z ∷ zs) x y spaced (zero, w, same) (zero, w', same') lt =
    absurd (omega (
      arith,
      lt,
      ap (λ (r : DataRecord). r.start) same,
      ap (λ (r : DataRecord). r.start) same',
    ))
apart d low (z ∷ zs) x y spaced (zero, w, same) (suc j, w', same') lt =
    let later = from-low d (z.start + d) zs y spaced.1 (j, omega (arith, w'), same') in
    omega (arith, later, ap (λ (r : DataRecord). r.start) same)
apart d low (z ∷ zs) x y spaced (suc i, w, same) (zero, w', same') lt =
    let later = from-low d (z.start + d) zs x spaced.1 (i, omega (arith, w), same) in
    absurd (omega (arith, later, lt, ap (λ (r : DataRecord). r.start) same'))
apart d low (z ∷ zs) x y spaced (suc i, w, same) (suc j, w', same') lt =
    apart d (z.start + d) zs x y spaced.1 (i, omega (arith, w), same) (j, omega (arith, w'), same')
    lt

-- what stands before a stretch, and the stretch
record IsCutAt (k : Key) (xs : List DataRecord) (s : Stretch) (seconds : List DataRecord) : Type 0
  where
    front : List DataRecord
    some : List DataRecord
    back : List DataRecord
    parts : seconds ≡ front ++ (some ++ back)
    clear : All (IsClear (duration_of k.duration) xs) front
    is : IsStretch (HasWord (duration_of k.duration) xs) (duration_of k.duration) s some

cut-at : (k : Key) (xs : List DataRecord) (before behind : List Stretch) (s : Stretch)
    (seconds : List DataRecord) → IsKey k → AreSoundFrom k 0 xs →
    AreStretches (HasWord (duration_of k.duration) xs) (duration_of k.duration)
    (before ++ s ∷ behind) seconds → All IsTaken before → IsCutAt k xs s seconds
cut-at k xs [] behind s seconds key sound (some, others, parts, stretch, begins, more) taken =
    record {
      front = [];
      some = some;
      back = others;
      parts = parts;
      clear = All-nil (IsClear (duration_of k.duration) xs);
      is = stretch;
    }
cut-at k xs (b ∷ bs) behind s seconds key sound (some, others, parts, stretch, begins, more) taken =
    let d = duration_of k.duration in
    let rest = cut-at k xs bs behind s others key sound more (All-tail IsTaken b bs taken) in
    record {
      front = some ++ rest.front;
      some = rest.some;
      back = rest.back;
      parts = parts ∙ ap (λ (l : List DataRecord). some ++ l) rest.parts
          ∙ sym (append_assoc some rest.front (rest.some ++ rest.back));
      clear = All-append (IsClear d xs) some rest.front
          (clear-some k xs b some key sound stretch (All-head IsTaken b bs taken)) rest.clear;
      is = rest.is;
    }

pub first-word-is-named : FirstWordIsNamed
first-word-is-named left rest left' rest' c is cap h before behind s sound-h held words taken =
    let k = is.layout'.key in
    let d = duration_of k.duration in
    let xs = is.firsts in
    let key = spelled-key is.read'.bytes k is.seconds is.read'.is_file in
    let sound : AreSoundFrom k 0 xs = subst (λ (x : Key). AreSoundFrom x 0 xs) is.same
    (spelled-sound is.read.bytes is.layout.key xs is.read.is_file) in
    let spaced = spaced-sound k 0 xs sound in
    let are : AreStretches (HasWord d xs) d (before ++ s ∷ behind) is.seconds =
    subst (λ (ws : List Stretch). AreStretches (HasWord d xs) d ws is.seconds) words
    (subst (λ (x : Key). AreStretches (HasWord (duration_of x.duration) xs)
    (duration_of x.duration) c.words.items is.seconds) is.same is.words) in
    let at = cut-at k xs before behind s is.seconds key sound are taken in
    let r = at.is.from.0 in
    let ones = at.is.from.1 in
    let word : HasWord d xs s.word r = All-head (HasWord d xs s.word) r ones
    (subst (λ (l : List DataRecord). All (HasWord d xs s.word) l) at.is.from.2 at.is.have) in
    let parts : is.seconds ≡ at.front ++ r ∷ (ones ++ at.back) =
    at.parts ∙ ap (λ (l : List DataRecord). at.front ++ (l ++ at.back)) at.is.from.2 in
    let Clashes : DataRecord → Type 0 = λ x. (y : DataRecord) × Contains xs y × Clash d x y in
    let clear : All (λ x. Clashes x → ⊥) at.front =
    All-weaker (IsClear d xs) (λ x. Clashes x → ⊥)
    (λ x none clash. All-contains (λ y. Clash d x y → ⊥) xs clash.0 none clash.1 clash.2) at.front
    at.clear in
    let has : Contains is.seconds r = subst (λ (l : List DataRecord). Contains l r) (sym parts)
    (Contains-append_right at.front (r ∷ (ones ++ at.back)) r (0, omega arith, refl)) in
    let find : Clashes r → (x : DataRecord) × IsFirstClash d (h k) is.seconds r x = λ clash.
    let there = clash_is_there cap h k is.seconds r clash.0 sound-h has
    (subst (λ (l : List DataRecord). Contains l clash.0) (sym held) clash.1) clash.2 in
    let q = there.0 in
    let first = there.2 in
    let held-q : Clashes q = (
      there.1,
      subst (λ (l : List DataRecord). Contains l there.1) held first.held,
      first.clash,
    ) in
    let never : All (λ x. Clashes x → ⊥) first.before = λ i e lt one.
    first.none_before (get_or first.before i e) one.0 (i, lt, at-same first.before i e lt)
    (subst (λ (l : List DataRecord). Contains l one.0) (sym held) one.1) one.2 in
    let same : q ≡ r = one-first Clashes at.front (ones ++ at.back) first.before first.later r q
    (sym parts ∙ first.splits) clear never clash held-q in
    (there.1, subst (λ (x : DataRecord). IsFirstClash d (h k) is.seconds x there.1) same first) in (
      λ differs.
          let other = subst (λ (w : Word). HasWord d xs w r) differs word in
          let clash = (words-name-clashes k xs r key sound).1 (inl other) in
          let one = find clash in
          let x = one.0 in
          let in-x : Contains xs x = subst (λ (l : List DataRecord). Contains l x) held one.1.held
          in
          let start : r.start ≡ x.start = elim (cases_lt x.start r.start) [
            | inl lt ↦
                let past = apart d 0 xs x other.0 spaced in-x other.1 (omega (arith, lt, other.3))
                in
                absurd (omega (
                  arith,
                  past,
                  other.3,
                  one.1.clash.0.1.begun,
                  one.1.clash.0.2.not_over,
                ))
            | inr ge ↦
                let early = one.1.earliest other.0
                (subst (λ (l : List DataRecord). Contains l other.0) (sym held) other.1)
                (same-clash d r other.0 (key-duration-some k key) other.2 other.3) in
                omega (arith, ge, early, other.3)
          ] in
          (clash_is_named cap h k is.seconds r x sound-h one.1).0 start
          ∙ ap (λ (n : ℕ). Conflicts (conflict.Differs n)) (sym at.is.from.3),
      λ overlaps.
          let other = subst (λ (w : Word). HasWord d xs w r) overlaps word in
          let one = find (other.0, other.1, other.2) in
          let x = one.0 in
          let in-x : Contains xs x = subst (λ (l : List DataRecord). Contains l x) held one.1.held
          in
          let never = All-contains (λ y. r.start ≡ y.start → ⊥) xs x other.3 in-x in (
            x.start,
            (clash_is_named cap h k is.seconds r x sound-h one.1).1 never
                ∙ ap (λ (n : ℕ). Conflicts (conflict.Overlap n x.start)) (sym at.is.from.3),
          ),
    )
  where
    at-same : (xs : List DataRecord) (i : ℕ) (e : DataRecord) → i < length xs →
        get_or xs i (get_or xs i e) ≡ get_or xs i e
    at-same [] i e lt = absurd (omega (arith, lt))
    at-same (x ∷ xs) zero e lt = refl
    at-same (x ∷ xs) (suc i) e lt = at-same xs i e (omega (arith, lt))

    same-clash : (d : ℕ) (r other : DataRecord) → 0 < d → (r ≡ other → ⊥) → r.start ≡ other.start →
        Clash d r other
    same-clash d r other some ne start = (
      (
        r.start,
        record { begun = omega arith; not_over = omega (arith, some) },
        record { begun = omega (arith, start); not_over = omega (arith, start, some) },
      ),
      ne,
    )
