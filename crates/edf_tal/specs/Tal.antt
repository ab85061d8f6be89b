-- Time-stamped annotations lists, TALs for short.
use Rattle.std.specs.Prelude.{◌≡◌, ◌≢◌, ℕ, ◌<◌, ◌⊎◌, List, [], ◌∷◌, ◌++◌, drop, map, ℤ, pos, neg_ℤ}
use Rattle.std.specs.Prelude.{◌+ℤ◌, unsigned_abs, Option, Some, None, IfSome, IsUtf8}
use Rattle.std.specs.List.{AllByRecursion, flat_map}
use Rattle.edf_time.specs.Decimal.{IsSeconds}
use Rattle.edf_time.specs.Civil.{window, IsInWindow}

-- an onset in nanoseconds, a duration or none, and the texts of the annotations that share them
pub record Tal : Type 0 where
  pub onset : ℤ
  pub duration : Option ℕ
  pub texts : List (List ℕ)

-- an annotation: its instant, a duration or none, and a text
pub record Annotation : Type 0 where
  pub onset : ℕ
  pub duration : Option ℕ
  pub text : List ℕ

-- a sign and a decimal
abbrev pub IsOnset : List ℕ → ℤ → Type 0
IsOnset [] z = ⊥
IsOnset (sign ∷ text) z =
    ((sign ≡ 43) × ((n : ℕ) × IsSeconds text n × (z ≡ pos n)))
    ⊎ ((sign ≡ 45) × ((n : ℕ) × IsSeconds text n × (z ≡ neg_ℤ (pos n))))

-- nothing, or byte 21 and a decimal
abbrev pub IsDurationPart : List ℕ → Option ℕ → Type 0
IsDurationPart bytes None = bytes ≡ []
IsDurationPart bytes (Some n) = (text : List ℕ) × (bytes ≡ 21 ∷ text) × IsSeconds text n

-- any bytes but 0 and 20; that they are UTF-8 is a condition apart, `HaveUtf8Texts`
abbrev pub IsText : List ℕ → Type 0
IsText text = AllByRecursion (λ b. (b ≢ 0) × (b ≢ 20)) text

-- each text followed by byte 20
abbrev pub terminated : List (List ℕ) → List ℕ
terminated texts = flat_map (λ text. text ++ 20 ∷ []) texts

-- the bytes are the TAL; its texts may be not UTF-8
pub record IsTal (bytes : List ℕ) (t : Tal) : Type 0 where
  pub onset : List ℕ
  pub duration : List ℕ
  pub parts : bytes ≡ onset ++ duration ++ 20 ∷ terminated t.texts ++ 0 ∷ []
  pub is_onset : IsOnset onset t.onset
  pub is_duration : IsDurationPart duration t.duration
  pub are_texts : AllByRecursion IsText t.texts

-- TALs alone, each right after the one before
abbrev pub AreTals : List ℕ → List Tal → Type 0
AreTals bytes [] = bytes ≡ []
AreTals bytes (t ∷ ts) = (prefix : List ℕ) × (rest : List ℕ) × (bytes ≡ prefix ++ rest)
    × IsTal prefix t × AreTals rest ts

-- TALs, and then zeros to the end
abbrev pub AreTalsAndZeros : List ℕ → List Tal → Type 0
AreTalsAndZeros bytes ts =
    (prefix : List ℕ) × (zeros : List ℕ) × (bytes ≡ prefix ++ zeros) × AreTals prefix ts
    × AllByRecursion (λ b. b ≡ 0) zeros

-- the blocks of a data record, each by itself TALs and zeros
abbrev pub AreTalBlocks : List (List ℕ) → List (List Tal) → Type 0
AreTalBlocks [] [] = Unit {0}
AreTalBlocks (block ∷ blocks) (ts ∷ tss) = AreTalsAndZeros block ts × AreTalBlocks blocks tss
AreTalBlocks blocks tss = ⊥

-- the TALs of the first block
abbrev pub first_block_tals : List (List Tal) → List Tal
first_block_tals [] = []
first_block_tals (ts ∷ tss) = ts

-- the TALs of all blocks, in their order
abbrev pub all_tals : List (List Tal) → List Tal
all_tals tss = flat_map (λ ts. ts) tss

-- each text is UTF-8
abbrev pub HaveUtf8Texts : List Tal → Type 0
HaveUtf8Texts ts = AllByRecursion (λ t. AllByRecursion IsUtf8 t.texts) ts

-- the instant of an onset, counted from the file's start; it is that only inside the window
abbrev pub instant : ℕ → ℤ → ℕ
instant file_start onset = unsigned_abs (pos file_start +ℤ onset)

-- the annotations of a TAL share its onset and duration
abbrev pub tal_annotations : ℕ → Tal → List Annotation
tal_annotations file_start t =
    map (λ text. record { onset = instant file_start t.onset; duration = t.duration; text = text })
    t.texts

-- the first TAL is a time-keeping one: its first text is empty
abbrev pub HasTimeKeepingTal : List Tal → Type 0
HasTimeKeepingTal [] = ⊥
HasTimeKeepingTal (t ∷ ts) = (texts : List (List ℕ)) × (t.texts ≡ [] ∷ texts)

-- the data record's list: the annotations of all TALs but the time-keeping one, which is the first
abbrev pub annotations : ℕ → List Tal → List Annotation
annotations file_start ts = drop 1 (flat_map (tal_annotations file_start) ts)

-- the data record's start, by the TALs of its first block
abbrev pub record_start : ℕ → List Tal → ℕ
record_start file_start [] = file_start
record_start file_start (t ∷ ts) = instant file_start t.onset

-- the onset is an instant of the window, and the duration is shorter than the window
pub record IsTalInWindow (file_start : ℕ) (t : Tal) : Type 0 where
  pub onset : IsInWindow (pos file_start +ℤ t.onset)
  pub duration : IfSome t.duration (λ d. d < window)

-- an annotation of a data record: an instant of the window, a duration shorter than it or none, and
-- a text that a TAL can hold
pub record IsValidAnnotation (a : Annotation) : Type 0 where
  pub onset : a.onset < window
  pub duration : IfSome a.duration (λ d. d < window)
  pub text : IsText a.text
  pub utf8 : IsUtf8 a.text
