-- What the words of compared files say.
use Rattle.std.proofs.Common.{◌≡◌, ℕ, zero, suc, ◌+◌, ◌<◌, ◌≤◌, List, [], ◌∷◌, ◌++◌, All, Contains}
use Rattle.std.proofs.Common.{refl, sym, ap, subst, arith, inl, inr, ◌∙◌, length, get_or}
use Rattle.std.proofs.lemmas.List.Elements.{All-nil, All-append, All-head, All-tail, All-same}
use Rattle.std.proofs.lemmas.List.Elements.{All-weaker, All-contains, All-cons}
use Rattle.edf_field.specs.Number.{duration_of}
use Rattle.edf_header.proofs.Cited.{key-duration-some}
use Rattle.edf_header.specs.Key.{Key, IsKey}
use Rattle.edf_fragment.specs.Fragment.{DataRecord}
use Rattle.edf_fragment.specs.Sound.{AreSoundFrom}
use Rattle.edf_fragment.proofs.Sound.{spelled-key, spelled-sound}
use Rattle.edf_holdings.specs.Clash.{Clash}
use Rattle.edf_runs.specs.Compared.{HasWord, AreStretches}
use Rattle.edf_runs.specs.ComparedLaws.{NothingIsMissing, WordsNameClashes}
use Rattle.edf_runs.specs.Inside.Spaced.{Spaced}
use Rattle.edf_runs.specs.declared.stretch.Stretch.{Stretch}
use Rattle.edf_runs.specs.declared.stretch.Word.{Word}
use Rattle.edf_runs.specs.declared.stretch.Word.TheVariants.{Known, New, Differs, Overlaps}
use Rattle.edf_runs.specs.declared.stretch.Word.TheVariants.{Lacking, Met}
use Rattle.edf_runs.proofs.ByOnset.{spaced-sound}

all-known : (d : ℕ) (firsts : List DataRecord) (ss : List Stretch) (seconds : List DataRecord) →
    AreStretches (HasWord d firsts) d ss seconds → All (λ s. s.word ≡ Known) ss →
    All (Contains firsts) seconds
all-known d firsts [] seconds are known =
    All-same (Contains firsts) seconds [] are (All-nil (Contains firsts))
all-known d firsts (s ∷ ss) seconds (some, others, parts, stretch, begins, more) known =
    let is : s.word ≡ Known = All-head (λ (x : Stretch). x.word ≡ Known) s ss known in
    All-same (Contains firsts) seconds (some ++ others) parts
    (All-append (Contains firsts) some others
    (subst (λ (w : Word). All (HasWord d firsts w) some) is stretch.have)
    (all-known d firsts ss others more (All-tail (λ (x : Stretch). x.word ≡ Known) s ss known)))

-- ---- clashes

pub from-low : (d low : ℕ) (xs : List DataRecord) (x : DataRecord) → Spaced d low xs → Contains xs x
    →
    low ≤ x.start
from-low d low [] x spaced has = absurd (omega (arith, has.1))
from-low d low (y ∷ ys) x spaced (zero, lt, same) =
    omega (arith, spaced.0, ap (λ (z : DataRecord). z.start) same)
from-low d low (y ∷ ys) x spaced (suc i, lt, same) =
    let more = from-low d (y.start + d) ys x spaced.1 (i, omega (arith, lt), same) in
    omega (arith, more, spaced.0)

-- no two of one file clash
no-clash : (d low : ℕ) (xs : List DataRecord) (r s : DataRecord) → Spaced d low xs →
    Contains xs r → Contains xs s → Clash d r s → ⊥
no-clash d low [] r s spaced has has' clash = omega (arith, has.1)
no-clash d low (x ∷ xs) r s spaced (zero, lt, same) (zero, lt', same') clash =
    clash.1 (sym same ∙ same')
no-clash d low (x ∷ xs) r s spaced (zero, lt, same) (suc j, lt', same') clash =
    let later = from-low d (x.start + d) xs s spaced.1 (j, omega (arith, lt'), same') in
    omega (arith, later, ap (λ (z : DataRecord). z.start) same, clash.0.1.not_over, clash.0.2.begun)
no-clash d low (x ∷ xs) r s spaced (suc i, lt, same) (zero, lt', same') clash =
    let later = from-low d (x.start + d) xs r spaced.1 (i, omega (arith, lt), same) in
    omega (
      arith,
      later,
      ap (λ (z : DataRecord). z.start) same',
      clash.0.2.not_over,
      clash.0.1.begun,
    )
no-clash d low (x ∷ xs) r s spaced (suc i, lt, same) (suc j, lt', same') clash =
    no-clash d (x.start + d) xs r s spaced.1 (i, omega (arith, lt), same)
    (j, omega (arith, lt'), same') clash

pub words-name-clashes : WordsNameClashes
words-name-clashes k firsts r is sound =
    let d = duration_of k.duration in
    let some = key-duration-some k is in
    let spaced = spaced-sound k 0 firsts sound in (
      λ word. elim word [
        | inl known ↦ λ i e lt. no-clash d 0 firsts r _ spaced known (i, lt, get-same firsts i e lt)
        | inr new ↦ All-weaker (λ s. (r ≡ s → ⊥) × (Clash d r s → ⊥)) (λ s. Clash d r s → ⊥)
            (λ s h. h.1) firsts new
      ],
      λ word. elim word [
        | inl differs ↦ (
          differs.0,
          differs.1,
          (
            (
              r.start,
              record { begun = omega arith; not_over = omega (arith, some) },
              record {
                begun = omega (arith, differs.3);
                not_over = omega (arith, differs.3, some);
              },
            ),
            differs.2,
          ),
        )
        | inr overlaps ↦ (overlaps.0, overlaps.1, overlaps.2)
      ],
    )
  where
    get-same : (xs : List DataRecord) (i : ℕ) (e : DataRecord) → i < length xs →
        get_or xs i (get_or xs i e) ≡ get_or xs i e
    get-same [] i e lt = absurd (omega (arith, lt))
    get-same (x ∷ xs) zero e lt = refl
    get-same (x ∷ xs) (suc i) e lt = get-same xs i e (omega (arith, lt))

-- ---- where nothing is missing

module _ (k : Key) (firsts : List DataRecord) (key : IsKey k) (sound : AreSoundFrom k 0 firsts)
  where
    abbrev d : ℕ
    d = duration_of k.duration

    is-known : (word : Word) (r : DataRecord) → HasWord d firsts word r → Contains firsts r →
        word ≡ Known
    is-known Known r has in-first = refl
    is-known New r has in-first = absurd ((All-contains (λ other. (r ≡ other → ⊥)
        × (Clash d r other → ⊥)) firsts r has in-first).0 refl)
    is-known Differs r has in-first =
        let named = words-name-clashes k firsts r key sound in
        let clash = named.1 (inl has) in
        absurd (no-clash d 0 firsts r clash.0 (spaced-sound k 0 firsts sound) in-first clash.1
        clash.2)
    is-known Overlaps r has in-first =
        absurd (no-clash d 0 firsts r has.0 (spaced-sound k 0 firsts sound) in-first has.1 has.2)
    is-known Lacking r has in-first = absurd has
    is-known Met r has in-first = absurd has

    known-back : (ss : List Stretch) (seconds : List DataRecord) →
        AreStretches (HasWord d firsts) d ss seconds → All (Contains firsts) seconds →
        All (λ s. s.word ≡ Known) ss
    known-back [] seconds are all = All-nil (λ s. s.word ≡ Known)
    known-back (s ∷ ss) seconds (some, others, parts, stretch, begins, more) all =
        let r = stretch.from.0 in
        let ones = stretch.from.1 in
        let each : All (Contains firsts) ((r ∷ ones) ++ others) = subst (All (Contains firsts))
        (parts ∙ ap (λ (l : List DataRecord). l ++ others) stretch.from.2) all in
        let have : All (HasWord d firsts s.word) (r ∷ ones) =
        subst (All (HasWord d firsts s.word)) stretch.from.2 stretch.have in
        All-cons (λ x. x.word ≡ Known) s ss
        (is-known s.word r (All-head (HasWord d firsts s.word) r ones have)
        (All-head (Contains firsts) r (ones ++ others) each))
        (known-back ss others more (All-behind (r ∷ ones) others each))
      where
        All-behind : (xs ys : List DataRecord) → All (Contains firsts) (xs ++ ys) →
            All (Contains firsts) ys
        All-behind [] ys every = every
        All-behind (x ∷ xs) ys every =
            All-behind xs ys (All-tail (Contains firsts) x (xs ++ ys) every)

pub nothing-missing : NothingIsMissing
nothing-missing left rest left' rest' c is =
    let k = is.layout.key in (
      all-known (duration_of k.duration) is.firsts c.words.items is.seconds is.words,
      known-back k is.firsts (spelled-key is.read.bytes k is.firsts is.read.is_file)
          (spelled-sound is.read.bytes k is.firsts is.read.is_file) c.words.items is.seconds
          is.words,
    )
