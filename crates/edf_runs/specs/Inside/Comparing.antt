-- Steps of a comparison of two files.
use Rattle.std.specs.Prelude.{◌≡◌, ◌≢◌, ℕ, ◌+◌, ◌-◌, ◌^◌, ◌<◌, ◌≤◌, ◌⊎◌, min, List, [], ◌∷◌, ◌++◌}
use Rattle.std.specs.Prelude.{All, Contains, Option, Some, None, length}
use Rattle.edf_header.specs.declared.limits.TheConstants.{MOST_RECORDS}
use Rattle.edf_fragment.specs.Fragment.{DataRecord}
use Rattle.edf_runs.specs.Compared.{HasWord, IsMet, AreStretches}
use Rattle.edf_runs.specs.Inside.Spaced.{Spaced}
use Rattle.edf_runs.specs.declared.stretch.Stretch.{Stretch}
use Rattle.edf_runs.specs.declared.stretch.Word.{Word}
use Rattle.edf_runs.specs.declared.stretch.Word.TheVariants.{Known, New, Differs, Overlaps}

-- A stretch is of one data record.
pub record IsOne (d : ℕ) (one : Stretch) (r : DataRecord) : Type 0 where
  pub count : one.records ≡ 1
  pub from : one.from ≡ r.start
  pub to : one.to ≡ r.start + d

-- Data records that one more joins are a stretch with it.
abbrev pub joined : Stretch → Stretch → Stretch
joined last one = record {
  word = last.word;
  records = min (last.records + 1) (2 ^ 32 - 1);
  from = last.from;
  to = one.to;
}

-- The last stretch became longer, or, where its word is another, a new one follows it.
abbrev pub AddsStretch : List Stretch → List Stretch → Stretch → Type 0
AddsStretch old new one =
    ((xs : List Stretch) × (last : Stretch) × (old ≡ xs ++ last ∷ []) × (last.word ≡ one.word)
    × (new ≡ xs ++ joined last one ∷ []))
    ⊎ ((new ≡ old ++ one ∷ [])
    × ((xs : List Stretch) (last : Stretch) → old ≡ xs ++ last ∷ [] → last.word ≢ one.word))

-- These were passed, and those follow, of both files.
pub record Passes (d passed : ℕ) (firsts seconds : List Stretch) (p l q m : List DataRecord) :
    Type 0 where
  pub words : AreStretches (HasWord d (p ++ l)) d seconds q
  pub met : AreStretches (IsMet (q ++ m)) d firsts p
  pub low : All (λ a. All (λ b. a.start < b.start) m) p
  pub low' : All (λ b. All (λ a. b.start < a.start) l) q
  pub ends : All (λ a. a.start + d ≤ passed) p
  pub ended : 0 < passed → (a : DataRecord) × Contains p a × (a.start + d ≡ passed)

-- A list begins with what comes next, or ends where nothing does.
abbrev pub BeginsWith : Option DataRecord → List DataRecord → Type 0
BeginsWith None later = later ≡ []
BeginsWith (Some r) later = (others : List DataRecord) × (later ≡ r ∷ others)

-- However both files go on, what was passed is right.
abbrev pub IsPassed : ℕ → ℕ → List Stretch → List Stretch → List DataRecord → List DataRecord →
    Option DataRecord → Option DataRecord → Type 0
IsPassed d passed firsts seconds p q next next' = (l m : List DataRecord) → BeginsWith next l →
    BeginsWith next' m → Spaced d 0 (p ++ l) → Spaced d 0 (q ++ m) →
    length (p ++ l) ≤ MOST_RECORDS → length (q ++ m) ≤ MOST_RECORDS →
    Passes d passed firsts seconds p l q m

-- What comes next, if something does, starts after an instant.
abbrev pub IsAfter : ℕ → Option DataRecord → Type 0
IsAfter instant None = Unit {0}
IsAfter instant (Some r) = instant < r.start

abbrev pub IsFar : ℕ → Option DataRecord → Type 0
IsFar instant None = Unit {0}
IsFar instant (Some r) = instant ≤ r.start

-- A data record of the second file overlaps the next one of the first, or the last that was passed;
-- or neither.
abbrev pub IsApartWord : ℕ → ℕ → Option DataRecord → DataRecord → Word → Type 0
IsApartWord d passed next s Overlaps =
    ((f : DataRecord) × (next ≡ Some f) × (f.start < s.start + d)) ⊎ (s.start < passed)
IsApartWord d passed next s New = IsFar (s.start + d) next × (passed ≤ s.start)
IsApartWord d passed next s word = ⊥

-- It is the one that starts then, or not.
abbrev pub IsMetWord : DataRecord → DataRecord → Word → Type 0
IsMetWord f s Known = f ≡ s
IsMetWord f s Differs = f ≡ s → ⊥
IsMetWord f s word = ⊥
