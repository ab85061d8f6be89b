-- Two files of one recording are compared: what of the second has the first?
use Rattle.std.specs.Prelude.{◌≡◌, ◌≢◌, ℕ, ◌+◌, List, [], ◌∷◌, ◌++◌, length, All, Contains}
use Rattle.edf_fragment.specs.Fragment.{DataRecord}
use Rattle.edf_holdings.specs.Clash.{Clash}
use Rattle.edf_runs.specs.declared.stretch.Stretch.{Stretch}
use Rattle.edf_runs.specs.declared.stretch.Word.{Word}
use Rattle.edf_runs.specs.declared.stretch.Word.TheVariants.{Known, New, Differs, Overlaps}
use Rattle.edf_runs.specs.declared.stretch.Word.TheVariants.{Lacking, Met}

-- A data record of the second file has this word beside those of the first, each of which lasts d
-- nanoseconds.
abbrev pub HasWord : ℕ → List DataRecord → Word → DataRecord → Type 0
HasWord d firsts Known r = Contains firsts r
HasWord d firsts New r = All (λ other. (r ≢ other) × ¬ Clash d r other) firsts
HasWord d firsts Differs r = (other : DataRecord) × Contains firsts other × (r ≢ other)
    × (r.start ≡ other.start)
HasWord d firsts Overlaps r = (other : DataRecord) × Contains firsts other × Clash d r other
    × All (λ one. r.start ≢ one.start) firsts
HasWord d firsts word r = ⊥

-- One of the first file is lacking in the second, where none starts then, or is met.
abbrev pub IsMet : List DataRecord → Word → DataRecord → Type 0
IsMet seconds Lacking r = All (λ one. r.start ≢ one.start) seconds
IsMet seconds Met r = (one : DataRecord) × Contains seconds one × (r.start ≡ one.start)
IsMet seconds word r = ⊥

-- A stretch is of these neighbours, which have its word, from the start of the first to the end of
-- the last.
pub record IsStretch (Has : Word → DataRecord → Type 0) (d : ℕ) (s : Stretch)
    (some : List DataRecord) : Type 0 where
  pub have : All (Has s.word) some
  pub count : s.records ≡ length some
  pub from : (r : DataRecord) × (ones : List DataRecord) × (some ≡ r ∷ ones) × (s.from ≡ r.start)
  pub to : (ones : List DataRecord) × (r : DataRecord) × (some ≡ ones ++ r ∷ [])
      × (s.to ≡ r.start + d)

abbrev pub BeginsOther : Word → List Stretch → Type 0
BeginsOther word [] = Unit {0}
BeginsOther word (s ∷ ss) = word ≢ s.word

-- All data records, in their order, are those of stretches, and a new one begins where another word
-- does.
abbrev pub AreStretches : (Word → DataRecord → Type 0) → ℕ → List Stretch → List DataRecord → Type 0
AreStretches Has d [] records = records ≡ []
AreStretches Has d (s ∷ ss) records = (some : List DataRecord) × (others : List DataRecord)
    × (records ≡ some ++ others) × IsStretch Has d s some × BeginsOther s.word ss
    × AreStretches Has d ss others
