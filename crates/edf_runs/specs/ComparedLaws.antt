-- Laws of compared files.
use Rattle.std.specs.Prelude.{◌≡◌, ℕ, ◌+◌, ◌≤◌, ◌⊎◌, ◌↔◌, List, [], ◌∷◌, ◌++◌, length, Option, All}
use Rattle.std.specs.Prelude.{Contains}
use Rattle.edf_field.specs.Number.{duration_of}
use Rattle.edf_header.specs.Key.{Key, IsKey}
use Rattle.edf_fragment.specs.Fragment.{DataRecord}
use Rattle.edf_fragment.specs.Parsed.{Fragment}
use Rattle.edf_fragment.specs.Sound.{AreSoundFrom}
use Rattle.edf_holdings.specs.Clash.{Clash}
use Rattle.edf_holdings.specs.Holdings.{Holdings, IsSound}
use Rattle.edf_holdings.specs.Reply.{Accepted, Conflicts, reply}
use Rattle.edf_holdings.specs.Reply as conflict
use Rattle.edf_runs.specs.Compared.{HasWord, IsMet, IsStretch}
use Rattle.edf_runs.specs.ComparedFiles.{IsCompared}
use Rattle.edf_runs.specs.Cut.{between}
use Rattle.edf_runs.specs.declared.compared.Comparison.{Comparison}
use Rattle.edf_runs.specs.declared.stretch.Stretch.{Stretch}
use Rattle.edf_runs.specs.declared.stretch.Word.{Word}
use Rattle.edf_runs.specs.declared.stretch.Word.TheVariants.{Known, New, Differs, Overlaps}

-- All words are `known` just where the first file has each data record of the second.
abbrev pub NothingIsMissing : Type 0
NothingIsMissing = (left rest left' rest' : Option (List ℕ)) (c : Comparison)
    (is : IsCompared left rest left' rest' c) →
    (All (λ s. s.word ≡ Known) c.words.items ↔ All (Contains is.firsts) is.seconds)

-- The cut file of a stretch's time, of its own file, has just the data records of the stretch.
abbrev pub StretchesAreCut : Type 0
StretchesAreCut = (left rest left' rest' : Option (List ℕ)) (c : Comparison)
    (is : IsCompared left rest left' rest' c) (d : ℕ) (s : Stretch) →
    d ≡ duration_of is.layout.key.duration →
    (Contains c.words.items s →
    IsStretch (HasWord d is.firsts) d s (between d s.from s.to is.seconds))
    × (Contains c.firsts.items s →
    IsStretch (IsMet is.seconds) d s (between d s.from s.to is.firsts))

-- So many data records of a stretch are known, or new.
abbrev pub known_of : Word → ℕ → ℕ
known_of Known records = records
known_of word records = 0

abbrev pub new_of : Word → ℕ → ℕ
new_of New records = records
new_of word records = 0

abbrev pub count_words : (Word → ℕ → ℕ) → List Stretch → ℕ
count_words of [] = 0
count_words of (s ∷ ss) = of s.word s.records + count_words of ss

-- Where each word is `known` or `new` and there is room, these are the counts that a store answers
-- which holds the data records of the first file alone.
abbrev pub WordsAreCounts : Type 0
WordsAreCounts = (left rest left' rest' : Option (List ℕ)) (c : Comparison)
    (is : IsCompared left rest left' rest' c) (cap : ℕ) (h : Holdings) →
    h is.layout'.key ≡ is.firsts →
    All (λ s. (s.word ≡ Known) ⊎ (s.word ≡ New)) c.words.items →
    length is.firsts + count_words new_of c.words.items ≤ cap →
    reply cap h (Fragment is.layout'.key is.seconds)
    ≡ Accepted is.layout'.key (count_words new_of c.words.items)
    (count_words known_of c.words.items)

-- Where others follow such words, the first of these says which refusal such a store answers: E31
-- with the start of a data record that differs, or E30 with that of one that overlaps.
abbrev pub FirstWordIsNamed : Type 0
FirstWordIsNamed = (left rest left' rest' : Option (List ℕ)) (c : Comparison)
    (is : IsCompared left rest left' rest' c) (cap : ℕ) (h : Holdings)
    (before behind : List Stretch) (s : Stretch) → IsSound cap h → h is.layout'.key ≡ is.firsts →
    c.words.items ≡ before ++ s ∷ behind →
    All (λ one. (one.word ≡ Known) ⊎ (one.word ≡ New)) before →
    (s.word ≡ Differs → reply cap h (Fragment is.layout'.key is.seconds)
    ≡ Conflicts (conflict.Differs s.from))
    × (s.word ≡ Overlaps → (start : ℕ) × (reply cap h (Fragment is.layout'.key is.seconds)
    ≡ Conflicts (conflict.Overlap s.from start)))

-- By words a store that holds the data records of the first file alone answers: those that are
-- known or new clash with none of them, so that they are counted, and those that differ or overlap
-- do.
abbrev pub WordsNameClashes : Type 0
WordsNameClashes = (k : Key) (firsts : List DataRecord) (r : DataRecord) → IsKey k →
    AreSoundFrom k 0 firsts →
    ((HasWord (duration_of k.duration) firsts Known r
    ⊎ HasWord (duration_of k.duration) firsts New r) →
    All (λ s. ¬ Clash (duration_of k.duration) r s) firsts)
    × ((HasWord (duration_of k.duration) firsts Differs r
    ⊎ HasWord (duration_of k.duration) firsts Overlaps r) →
    (s : DataRecord) × Contains firsts s × Clash (duration_of k.duration) r s)
