-- Results of the steps by which blocks are read.
use Rattle.std.specs.Prelude.{◌≡◌, ℕ, ◌≤◌, List, [], ◌∷◌, length, sum, sum_by, IsTrue, ◌↔◌, pos}
use Rattle.std.specs.Prelude.{None}
use Rattle.std.specs.List.{AllByRecursion, flat_map}
use Rattle.edf_tal.specs.Tal.{Tal, Annotation, AreTalsAndZeros, AreTalBlocks, all_tals}
use Rattle.edf_tal.specs.Tal.{HaveUtf8Texts, IsTalInWindow, tal_annotations}
use Rattle.edf_tal.specs.Block.{BlocksParseTo}
use Rattle.edf_tal.specs.Condition.{HaveNonUtf8TextAt}
use Rattle.edf_tal.specs.declared.place.Place.{Place}
use Rattle.edf_tal.specs.declared.blocks.Sums.{Sums}
use Rattle.edf_tal.specs.declared.blocks.Form.{Form}
use Rattle.edf_tal.specs.declared.blocks.Form.TheVariants.{Good, BadText}

-- sizes of one block or more, whose sum is the number of bytes
pub record AreBlockSizes (sizes joined : List ℕ) : Type 0 where
  pub some : 1 ≤ length sizes
  pub sum_is : sum sizes ≡ length joined

-- blocks of TALs with UTF-8 texts have these totals
pub record HaveSums (blocks : List (List ℕ)) (file_start : ℕ) (sums : Sums) : Type 0 where
  pub tals : List (List Tal)
  pub lists : AreTalBlocks blocks tals
  pub good : HaveUtf8Texts (all_tals tals)
  pub window : IsTrue sums.in_window ↔ AllByRecursion (IsTalInWindow file_start) (all_tals tals)
  pub count_is : sums.count ≡ length (flat_map (tal_annotations file_start) (all_tals tals))
  pub bytes_is : sums.text_bytes ≡ sum_by (λ a. length a.text)
      (flat_map (tal_annotations file_start) (all_tals tals))

-- blocks of TALs and zeros: all texts are UTF-8, with these sums; or one is not, at this offset
abbrev pub HasForm : List (List ℕ) → ℕ → Form → Type 0
HasForm blocks file_start (Good sums) = HaveSums blocks file_start sums
HasForm blocks file_start (BadText offset) = ((tss : List (List Tal)) × AreTalBlocks blocks tss)
    × HaveNonUtf8TextAt blocks offset

-- the blocks have no fault at this place: they parse to this start, and to a list of this length
pub record IsChecked (blocks : List (List ℕ)) (file_start : ℕ) (place : Place)
    (start count : ℕ) : Type 0 where
  pub list : List Annotation
  pub read : BlocksParseTo blocks file_start place start list
  pub count_is : count ≡ length list

-- the time-keeping annotation alone in its TAL, n nanoseconds after the file's start
abbrev pub bare_tal : ℕ → Tal
bare_tal n = record { onset = pos n; duration = None; texts = [] ∷ [] }

-- a block of this TAL and zeros
abbrev pub IsTimeKeepingBlock : List ℕ → ℕ → Type 0
IsTimeKeepingBlock block n = AreTalsAndZeros block (bare_tal n ∷ [])

-- the TALs of a block without a fault, where the rules of the first TAL are not checked
pub record AreSoundTals (bytes : List ℕ) (file_start : ℕ) (tals : List Tal) : Type 0 where
  pub whole : AreTalsAndZeros bytes tals
  pub good : HaveUtf8Texts tals
  pub window : AllByRecursion (IsTalInWindow file_start) tals

-- each block has such TALs
abbrev pub AreSoundBlocks : List (List ℕ) → ℕ → List (List Tal) → Type 0
AreSoundBlocks [] file_start [] = Unit {0}
AreSoundBlocks (block ∷ blocks) file_start (ts ∷ tss) = AreSoundTals block file_start ts
    × AreSoundBlocks blocks file_start tss
AreSoundBlocks blocks file_start tss = ⊥
