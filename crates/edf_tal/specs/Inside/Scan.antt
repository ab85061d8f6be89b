-- Definitions of the scan's helpers.
use Rattle.std.specs.Prelude.{◌≡◌, ◌≢◌, ℕ, ◌+◌, ◌^◌, ◌≤◌, min, List, [], ◌∷◌, ◌++◌, length, sum_by}
use Rattle.std.specs.Prelude.{ℤ, pos, neg_ℤ, ◌≤ℤ◌, ◌<ℤ◌, Bool, Option, Some, None, IsTrue, IsUtf8}
use Rattle.std.specs.Prelude.{◌↔◌, if◌then◌else◌}
use Rattle.std.specs.List.{AllByRecursion, flat_map}
use Rattle.edf_time.specs.Decimal.{IsSeconds}
use Rattle.edf_tal.specs.Tal.{Tal, IsTal, IsOnset, IsDurationPart, IsText, terminated, AreTals}
use Rattle.edf_tal.specs.Tal.{HaveUtf8Texts, IsTalInWindow, tal_annotations}
use Rattle.edf_tal.specs.declared.place.Place.{Place}
use Rattle.edf_tal.specs.declared.place.Place.TheVariants.{First, After}

-- the byte does not occur
abbrev pub Lacks : ℕ → List ℕ → Type 0
Lacks c bytes = AllByRecursion (λ b. b ≢ c) bytes

-- zeros alone
abbrev pub AreZeros : List ℕ → Type 0
AreZeros bytes = AllByRecursion (λ b. b ≡ 0) bytes

-- the bytes begin with no TAL
abbrev pub NoTal : List ℕ → Type 0
NoTal bytes = (prefix rest : List ℕ) (t : Tal) → bytes ≡ prefix ++ rest → ¬ IsTal prefix t

-- n, or 2 ^ 63 where n is greater
abbrev pub capped : ℕ → ℕ
capped n = min n (2 ^ 63)

-- a decimal, and a duration or none
pub record IsSecondsAndDuration (bytes : List ℕ) (n : ℕ) (d : Option ℕ) : Type 0 where
  pub onset : List ℕ
  pub duration : List ℕ
  pub parts : bytes ≡ onset ++ duration
  pub is_seconds : IsSeconds onset n
  pub is_duration : IsDurationPart duration d

-- an onset, and a duration or none
pub record IsOnsetAndDuration (bytes : List ℕ) (z : ℤ) (d : Option ℕ) : Type 0 where
  pub onset : List ℕ
  pub duration : List ℕ
  pub parts : bytes ≡ onset ++ duration
  pub is_onset : IsOnset onset z
  pub is_duration : IsDurationPart duration d

-- the sign and the capped nanoseconds of an onset
abbrev pub IsCappedOnset : Bool → ℕ → ℤ → Type 0
IsCappedOnset ahead onset z = (m : ℕ) × (onset ≡ capped m)
    × (z ≡ (if ahead then pos m else neg_ℤ (pos m)))

-- the capped nanoseconds of a duration
abbrev pub IsCappedDuration : Option ℕ → Option ℕ → Type 0
IsCappedDuration None None = Unit {0}
IsCappedDuration (Some n) (Some m) = n ≡ capped m
IsCappedDuration d e = ⊥

-- nothing, or bytes of which the last is 20
abbrev pub IsEmptyOrEndsWith20 : List ℕ → Type 0
IsEmptyOrEndsWith20 [] = Unit {0}
IsEmptyOrEndsWith20 (b ∷ []) = b ≡ 20
IsEmptyOrEndsWith20 (b ∷ c ∷ bytes) = IsEmptyOrEndsWith20 (c ∷ bytes)

-- the bytes begin with the TAL of these texts, and the rest follows
pub record IsLeadingTal (bytes texts rest : List ℕ) (t : Tal) : Type 0 where
  pub prefix : List ℕ
  pub parts : bytes ≡ prefix ++ rest
  pub tal : IsTal prefix t
  pub texts_are : texts ≡ terminated t.texts

-- the first of the terminated texts that is not UTF-8 begins at `at`
pub record HasNonUtf8TextAmong (texts : List ℕ) (at : ℕ) : Type 0 where
  pub good : List (List ℕ)
  pub text : List ℕ
  pub suffix : List ℕ
  pub parts : texts ≡ terminated good ++ (text ++ 20 ∷ suffix)
  pub good_texts : AllByRecursion (λ x. Lacks 20 x × IsUtf8 x) good
  pub is_text : Lacks 20 text
  pub bad : ¬ IsUtf8 text
  pub at_is : at ≡ length (terminated good)

-- this many terminated texts, all UTF-8, and then a rest without byte 20
pub record BeginWithUtf8Texts (texts : List ℕ) (count : ℕ) : Type 0 where
  pub list : List (List ℕ)
  pub rest : List ℕ
  pub parts : texts ≡ terminated list ++ rest
  pub good : AllByRecursion (λ x. Lacks 20 x × IsUtf8 x) list
  pub is_rest : Lacks 20 rest
  pub count_is : count ≡ length list

-- the bytes are TALs, and then this rest
pub record FollowsTals (bytes rest : List ℕ) : Type 0 where
  pub prefix : List ℕ
  pub tals : List Tal
  pub parts : bytes ≡ prefix ++ rest
  pub whole : AreTals prefix tals

-- the bytes are TALs with UTF-8 texts, and then this rest; the TALs have so many annotations and
-- bytes of texts, and are in the window or not
pub record IsSurvey (bytes : List ℕ) (file_start : ℕ) (rest : List ℕ) (in_window : Bool)
    (count text_bytes : ℕ) : Type 0 where
  pub prefix : List ℕ
  pub tals : List Tal
  pub parts : bytes ≡ prefix ++ rest
  pub whole : AreTals prefix tals
  pub good : HaveUtf8Texts tals
  pub window : IsTrue in_window ↔ AllByRecursion (IsTalInWindow file_start) tals
  pub count_is : count ≡ length (flat_map (tal_annotations file_start) tals)
  pub bytes_is : text_bytes ≡ sum_by (λ a. length a.text)
      (flat_map (tal_annotations file_start) tals)

-- the first data record starts in the second that the header names
abbrev pub StartsInFirstSecond : Place → ℤ → Type 0
StartsInFirstSecond First onset = (pos 0 ≤ℤ onset) × (onset <ℤ pos (10 ^ 9))
StartsInFirstSecond place onset = Unit {0}

-- a later one starts at least a duration after the one before
abbrev pub StartsInOrder : Place → ℕ → Type 0
StartsInOrder (After before duration) start = before + duration ≤ start
StartsInOrder place start = Unit {0}

-- the texts of a TAL without a fault, and its times
pub record IsScannedTal (texts : List ℕ) (ahead : Bool) (onset : ℕ) (duration : Option ℕ)
    (file_start : ℕ) (t : Tal) : Type 0 where
  pub texts_are : texts ≡ terminated t.texts
  pub are_texts : AllByRecursion IsText t.texts
  pub good : AllByRecursion IsUtf8 t.texts
  pub is_onset : IsCappedOnset ahead onset t.onset
  pub is_duration : IsCappedDuration duration t.duration
  pub window : IsTalInWindow file_start t

-- texts that make annotations
pub record AreUtf8Texts (bytes : List ℕ) (texts : List (List ℕ)) : Type 0 where
  pub bytes_are : bytes ≡ terminated texts
  pub are_texts : AllByRecursion IsText texts
  pub good : AllByRecursion IsUtf8 texts
