-- Blocks that are not TALs and zeros, and texts that are not UTF-8.
use Rattle.std.specs.Prelude.{◌≡◌, ℕ, ◌+◌, ◌≤◌, List, ◌∷◌, ◌++◌, length, take, sum_by, ℤ, Option}
use Rattle.std.specs.Prelude.{IsUtf8}
use Rattle.std.specs.List.{AllByRecursion}
use Rattle.edf_tal.specs.Tal.{Tal, IsOnset, IsDurationPart, IsText, terminated, AreTals}
use Rattle.edf_tal.specs.Tal.{AreTalsAndZeros, AreTalBlocks, all_tals, HaveUtf8Texts}

-- the longest prefix that is whole TALs has n bytes
pub record IsLongestTalPrefix (bytes : List ℕ) (n : ℕ) : Type 0 where
  pub tals : List Tal
  pub within : n ≤ length bytes
  pub prefix : AreTals (take n bytes) tals
  pub longest : (m : ℕ) (others : List Tal) → m ≤ length bytes → AreTals (take m bytes) others →
      m ≤ n

-- the first text that is not UTF-8 begins at `at`, after whole TALs and texts that are UTF-8
pub record HasNonUtf8TextAt (bytes : List ℕ) (at : ℕ) : Type 0 where
  pub prefix : List ℕ
  pub tals : List Tal
  pub onset : List ℕ
  pub duration : List ℕ
  pub good : List (List ℕ)
  pub text : List ℕ
  pub suffix : List ℕ
  pub parts : bytes ≡ prefix ++ onset ++ duration ++ 20 ∷ terminated good ++ text ++ 20 ∷ suffix
  pub whole : AreTals prefix tals
  pub good_tals : HaveUtf8Texts tals
  pub is_onset : (z : ℤ) × IsOnset onset z
  pub is_duration : (d : Option ℕ) × IsDurationPart duration d
  pub good_texts : AllByRecursion (λ x. IsText x × IsUtf8 x) good
  pub is_text : IsText text
  pub bad : ¬ IsUtf8 text
  pub at_is : at ≡ length prefix + length onset + length duration + 1 + length (terminated good)

-- the first block that is not TALs and zeros: the longest prefix of whole TALs ends at `offset` in
-- it, and at `at` in the blocks joined
pub record AreMalformedAt (blocks : List (List ℕ)) (at : ℕ) : Type 0 where
  pub prefix : List (List ℕ)
  pub block : List ℕ
  pub suffix : List (List ℕ)
  pub offset : ℕ
  pub parts : blocks ≡ prefix ++ block ∷ suffix
  pub whole : (tss : List (List Tal)) × AreTalBlocks prefix tss
  pub broken : (ts : List Tal) → ¬ AreTalsAndZeros block ts
  pub longest : IsLongestTalPrefix block offset
  pub at_is : at ≡ sum_by length prefix + offset

-- the first text of all blocks that is not UTF-8: it is at `offset` in its block, and at `at` in
-- the blocks joined
pub record HaveNonUtf8TextAt (blocks : List (List ℕ)) (at : ℕ) : Type 0 where
  pub prefix : List (List ℕ)
  pub block : List ℕ
  pub suffix : List (List ℕ)
  pub offset : ℕ
  pub parts : blocks ≡ prefix ++ block ∷ suffix
  pub good : (tss : List (List Tal)) × AreTalBlocks prefix tss × HaveUtf8Texts (all_tals tss)
  pub bad : HasNonUtf8TextAt block offset
  pub at_is : at ≡ sum_by length prefix + offset
