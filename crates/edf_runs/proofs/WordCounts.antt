-- The words of compared files are the counts of a store's reply.
use Rattle.std.proofs.Common.{◌≡◌, ℕ, ◌+◌, ◌-◌, List, [], ◌∷◌, ◌++◌, length}
use Rattle.std.proofs.Common.{All, Contains, refl, ap, ◌∙◌, subst, arith, inl, inr, ◌⊎◌}
use Rattle.std.proofs.Common.{length-append}
use Rattle.std.specs.Prelude.{Bool, true, false, cond}
use Rattle.std.proofs.lemmas.List.Elements.{All-head, All-tail, All-same, All-append}
use Rattle.std.proofs.lemmas.List.Elements.{All-contains, All-nil, All-weaker}
use Rattle.edf_field.specs.Number.{duration_of}
use Rattle.edf_header.specs.Key.{Key, IsKey}
use Rattle.edf_fragment.specs.Fragment.{DataRecord}
use Rattle.edf_fragment.specs.Sound.{AreSoundFrom}
use Rattle.edf_fragment.proofs.Sound.{spelled-key, spelled-sound}
use Rattle.edf_holdings.specs.Clash.{Clash}
use Rattle.edf_holdings.specs.Meaning.{NoneClashesWithHeld}
use Rattle.edf_holdings.specs.Reply.{Accepted}
use Rattle.edf_holdings.specs.Rising.{contains_record, count_new}
use Rattle.edf_holdings.proofs.Clashes.{counts_are_named}
use Rattle.edf_holdings.proofs.InSets.{holds_is_contains}
use Rattle.edf_runs.specs.Compared.{HasWord, IsStretch, AreStretches}
use Rattle.edf_runs.specs.ComparedLaws.{new_of, known_of, count_words, WordsAreCounts}
use Rattle.edf_runs.specs.declared.stretch.Stretch.{Stretch}
use Rattle.edf_runs.specs.declared.stretch.Word.{Word}
use Rattle.edf_runs.specs.declared.stretch.Word.TheVariants.{Known, New}
use Rattle.edf_runs.proofs.Words.{words-name-clashes}

abbrev pub IsTaken : Stretch → Type 0
IsTaken s = (s.word ≡ Known) ⊎ (s.word ≡ New)

-- ---- those that are new

known-count : (xs rs : List DataRecord) → All (Contains xs) rs → count_new xs rs ≡ 0
known-count xs [] all = refl
known-count xs (r ∷ rs) all =
    let has : contains_record xs r ≡ true = (holds_is_contains xs r).1
    (All-head (Contains xs) r rs all) in
    ap (λ (b : Bool). cond b (count_new xs rs) (1 + count_new xs rs)) has
    ∙ known-count xs rs (All-tail (Contains xs) r rs all)

has-not : (xs : List DataRecord) (r : DataRecord) (b : Bool) → contains_record xs r ≡ b →
    (Contains xs r → ⊥) → contains_record xs r ≡ false
has-not xs r true is never = absurd (never ((holds_is_contains xs r).0 is))
has-not xs r false is never = is

abbrev IsNew : ℕ → List DataRecord → DataRecord → Type 0
IsNew d xs r = All (λ other. (r ≡ other → ⊥) × (Clash d r other → ⊥)) xs

new-count : (d : ℕ) (xs rs : List DataRecord) → All (IsNew d xs) rs →
    count_new xs rs ≡ length rs
new-count d xs [] all = refl
new-count d xs (r ∷ rs) all =
    let none : contains_record xs r ≡ false = has-not xs r (contains_record xs r) refl (λ has.
    (All-contains (λ other. (r ≡ other → ⊥) × (Clash d r other → ⊥)) xs r
    (All-head (IsNew d xs) r rs all) has).0 refl) in
    let more = new-count d xs rs (All-tail (IsNew d xs) r rs all) in
    ap (λ (b : Bool). cond b (count_new xs rs) (1 + count_new xs rs)) none ∙ omega (arith, more)

one-or-none : (b : Bool) (both one other : ℕ) → both ≡ one + other →
    cond b both (1 + both) ≡ cond b one (1 + one) + other
one-or-none true both one other is = is
one-or-none false both one other is = omega (arith, is)

count-append : (xs rs ss : List DataRecord) →
    count_new xs (rs ++ ss) ≡ count_new xs rs + count_new xs ss
count-append xs [] ss = omega arith
count-append xs (r ∷ rs) ss = one-or-none (contains_record xs r) (count_new xs (rs ++ ss))
    (count_new xs rs) (count_new xs ss) (count-append xs rs ss)

-- ---- stretch after stretch

record AreCounts (xs seconds : List DataRecord) (ss : List Stretch) : Type 0 where
  new : count_new xs seconds ≡ count_words new_of ss
  all : length seconds ≡ count_words new_of ss + count_words known_of ss

counts : (d : ℕ) (xs : List DataRecord) (ss : List Stretch) (seconds : List DataRecord) →
    AreStretches (HasWord d xs) d ss seconds → All IsTaken ss → AreCounts xs seconds ss
counts d xs [] seconds are taken = record {
  new = ap (count_new xs) are;
  all = ap (λ (l : List DataRecord). length l) are;
}
counts d xs (s ∷ ss) seconds (some, others, parts, stretch, begins, more) taken =
    let rest = counts d xs ss others more (All-tail IsTaken s ss taken) in
    let cut : count_new xs seconds ≡ count_new xs some + count_new xs others =
    ap (count_new xs) parts ∙ count-append xs some others in
    let len : length seconds ≡ length some + length others =
    ap (λ (l : List DataRecord). length l) parts ∙ length-append some others in
    elim (All-head IsTaken s ss taken) [
      | inl known ↦
          let none = known-count xs some
          (subst (λ (w : Word). All (HasWord d xs w) some) known stretch.have) in
          let a : new_of s.word s.records ≡ 0 = ap (λ (w : Word). new_of w s.records) known in
          let b : known_of s.word s.records ≡ s.records =
          ap (λ (w : Word). known_of w s.records) known in
          record {
            new = omega (arith, cut, none, a, rest.new);
            all = omega (arith, len, a, b, stretch.count, rest.all);
          }
      | inr new ↦
          let every = new-count d xs some
          (subst (λ (w : Word). All (HasWord d xs w) some) new stretch.have) in
          let a : new_of s.word s.records ≡ s.records =
          ap (λ (w : Word). new_of w s.records) new in
          let b : known_of s.word s.records ≡ 0 = ap (λ (w : Word). known_of w s.records) new in
          record {
            new = omega (arith, cut, every, a, stretch.count, rest.new);
            all = omega (arith, len, a, b, stretch.count, rest.all);
          }
    ]

-- ---- none clashes

abbrev pub IsClear : ℕ → List DataRecord → DataRecord → Type 0
IsClear d xs r = All (λ s. Clash d r s → ⊥) xs

pub clear-some : (k : Key) (xs : List DataRecord) (s : Stretch) (some : List DataRecord) → IsKey k →
    AreSoundFrom k 0 xs →
    IsStretch (HasWord (duration_of k.duration) xs) (duration_of k.duration) s some → IsTaken s →
    All (IsClear (duration_of k.duration) xs) some
clear-some k xs s some key sound stretch (inl known) =
    let d = duration_of k.duration in
    All-weaker (HasWord d xs Known) (IsClear d xs)
    (λ r has. (words-name-clashes k xs r key sound).0 (inl has)) some
    (subst (λ (w : Word). All (HasWord d xs w) some) known stretch.have)
clear-some k xs s some key sound stretch (inr new) =
    let d = duration_of k.duration in
    All-weaker (HasWord d xs New) (IsClear d xs)
    (λ r has. (words-name-clashes k xs r key sound).0 (inr has)) some
    (subst (λ (w : Word). All (HasWord d xs w) some) new stretch.have)

clear-all : (k : Key) (xs : List DataRecord) (ss : List Stretch) (seconds : List DataRecord) →
    IsKey k → AreSoundFrom k 0 xs →
    AreStretches (HasWord (duration_of k.duration) xs) (duration_of k.duration) ss seconds →
    All IsTaken ss → All (IsClear (duration_of k.duration) xs) seconds
clear-all k xs [] seconds key sound are taken =
    All-same (IsClear (duration_of k.duration) xs) seconds [] are
    (All-nil (IsClear (duration_of k.duration) xs))
clear-all k xs (s ∷ ss) seconds key sound (some, others, parts, stretch, begins, more) taken =
    let d = duration_of k.duration in
    All-same (IsClear d xs) seconds (some ++ others) parts
    (All-append (IsClear d xs) some others
    (clear-some k xs s some key sound stretch (All-head IsTaken s ss taken))
    (clear-all k xs ss others key sound more (All-tail IsTaken s ss taken)))

pub words-are-counts : WordsAreCounts
words-are-counts left rest left' rest' c is cap h held taken room =
    let k = is.layout'.key in
    let d = duration_of k.duration in
    let xs = is.firsts in
    let words = c.words.items in
    let key = spelled-key is.read'.bytes k is.seconds is.read'.is_file in
    let sound : AreSoundFrom k 0 xs = subst (λ (x : Key). AreSoundFrom x 0 xs) is.same
    (spelled-sound is.read.bytes is.layout.key xs is.read.is_file) in
    let are : AreStretches (HasWord d xs) d words is.seconds =
    subst (λ (x : Key). AreStretches (HasWord (duration_of x.duration) xs)
    (duration_of x.duration) words is.seconds) is.same is.words in
    let of = counts d xs words is.seconds are taken in
    let clear = clear-all k xs words is.seconds key sound are taken in
    let none : NoneClashesWithHeld h k is.seconds = λ r s has other.
    All-contains (λ x. Clash d r x → ⊥) xs s
    (All-contains (IsClear d xs) is.seconds r clear has)
    (subst (λ (l : List DataRecord). Contains l s) held other) in
    let new : count_new (h k) is.seconds ≡ count_words new_of words =
    ap (λ (l : List DataRecord). count_new l is.seconds) held ∙ of.new in
    let len : length (h k) ≡ length xs = ap (λ (l : List DataRecord). length l) held in
    let known : length is.seconds - count_words new_of words ≡ count_words known_of words =
    omega (arith, of.all) in
    (counts_are_named cap h k is.seconds none).1 (inr (omega (arith, new, len, room)))
    ∙ ap (λ (n : ℕ). Accepted k n (length is.seconds - n)) new
    ∙ ap (λ (n : ℕ). Accepted k (count_words new_of words) n) known
