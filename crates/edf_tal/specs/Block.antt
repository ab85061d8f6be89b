-- The start and the annotations that the blocks of a data record parse to, and their faults.
use Rattle.std.specs.Prelude.{◌≡◌, ℕ, ◌+◌, ◌^◌, ◌≤◌, ◌<◌, List, [], ◌∷◌, length, take, drop}
use Rattle.std.specs.Prelude.{sum_by, pos, ◌≤ℤ◌, ◌<ℤ◌, Option, Some, None, codes}
use Rattle.std.specs.List.{AllByRecursion}
use Rattle.edf_tal.specs.Condition.{AreMalformedAt, HaveNonUtf8TextAt}
use Rattle.edf_tal.specs.Tal.{Tal, Annotation, first_block_tals, HasTimeKeepingTal, annotations}
use Rattle.edf_tal.specs.Tal.{AreTalBlocks, all_tals, HaveUtf8Texts, IsTalInWindow, record_start}
use Rattle.edf_tal.specs.declared.limits.TheConstants.{MOST_ANNOTATIONS, MOST_TEXT_BYTES}
use Rattle.edf_tal.specs.declared.place.Place.{Place}
use Rattle.edf_tal.specs.declared.place.Place.TheVariants.{First, After}
use Rattle.edf_tal.specs.declared.place.TalFault.{TalFault}
use Rattle.edf_tal.specs.declared.place.TalFault.TheVariants.{Tal as NotTals, Text, NotTimed}
use Rattle.edf_tal.specs.declared.place.TalFault.TheVariants.{FirstOnset, Window, Order, TooMany}
use Rattle.edf_tal.specs.declared.place.TalFault.TheVariants.{Memory}

-- the first data record starts in the second that the header names; a later one at least a duration
-- after the one before
abbrev pub StartFitsPlace : Place → ℕ → List Tal → Type 0
StartFitsPlace First file_start (t ∷ ts) = (pos 0 ≤ℤ t.onset) × (t.onset <ℤ pos (10 ^ 9))
StartFitsPlace (After before duration) file_start ts =
    before + duration ≤ record_start file_start ts
StartFitsPlace place file_start ts = Unit {0}

-- the limits of a data record's annotations
pub record IsWithinLimits (list : List Annotation) : Type 0 where
  pub count : length list ≤ MOST_ANNOTATIONS
  pub bytes : sum_by (λ a. length a.text) list ≤ MOST_TEXT_BYTES

-- the blocks of a data record parse to this start and this list: the first block has the
-- time-keeping TAL, and the annotations of all blocks are joined
pub record BlocksParseTo (blocks : List (List ℕ)) (file_start : ℕ) (place : Place) (start : ℕ)
    (list : List Annotation) : Type 0 where
  pub tals : List (List Tal)
  pub lists : AreTalBlocks blocks tals
  pub good : HaveUtf8Texts (all_tals tals)
  pub timed : HasTimeKeepingTal (first_block_tals tals)
  pub fits_place : StartFitsPlace place file_start (first_block_tals tals)
  pub window : AllByRecursion (IsTalInWindow file_start) (all_tals tals)
  pub limits : IsWithinLimits list
  pub start_is : start ≡ record_start file_start (first_block_tals tals)
  pub list_is : list ≡ annotations file_start (all_tals tals)

-- a data record with one block parses to these
abbrev pub BlockParsesTo : List ℕ → ℕ → Place → ℕ → List Annotation → Type 0
BlockParsesTo block file_start place start list =
    BlocksParseTo (block ∷ []) file_start place start list

-- the number of a fault; of the faults that are true the lowest is named
abbrev pub tal_fault_number : TalFault → ℕ
tal_fault_number (NotTals offset) = 22
tal_fault_number (Text offset) = 23
tal_fault_number NotTimed = 24
tal_fault_number FirstOnset = 25
tal_fault_number Window = 26
tal_fault_number Order = 27
tal_fault_number TooMany = 28
tal_fault_number Memory = 41

abbrev pub tal_fault_name : TalFault → List ℕ
tal_fault_name (NotTals offset) = codes "Tal"
tal_fault_name (Text offset) = codes "Text"
tal_fault_name NotTimed = codes "NotTimed"
tal_fault_name FirstOnset = codes "FirstOnset"
tal_fault_name Window = codes "Window"
tal_fault_name Order = codes "Order"
tal_fault_name TooMany = codes "TooMany"
tal_fault_name Memory = codes "Memory"

-- offsets count from 0 over the blocks joined
abbrev pub tal_fault_offset : TalFault → Option ℕ
tal_fault_offset (NotTals offset) = Some offset
tal_fault_offset (Text offset) = Some offset
tal_fault_offset fault = None

-- the fault is true of the blocks of a data record at this place
abbrev pub BlocksHaveFault : List (List ℕ) → ℕ → Place → TalFault → Type 0
BlocksHaveFault bs s place (NotTals offset) = AreMalformedAt bs offset
BlocksHaveFault bs s place (Text offset) = ((tss : List (List Tal)) × AreTalBlocks bs tss)
    × HaveNonUtf8TextAt bs offset
BlocksHaveFault bs s place NotTimed = (tss : List (List Tal)) × AreTalBlocks bs tss
    × ¬ HasTimeKeepingTal (first_block_tals tss)
BlocksHaveFault bs s First FirstOnset = (tss : List (List Tal)) × AreTalBlocks bs tss
    × ¬ StartFitsPlace First s (first_block_tals tss)
BlocksHaveFault bs s place Window = (tss : List (List Tal)) × AreTalBlocks bs tss
    × ¬ AllByRecursion (IsTalInWindow s) (all_tals tss)
BlocksHaveFault bs s (After before duration) Order =
    (tss : List (List Tal)) × AreTalBlocks bs tss
    × ¬ StartFitsPlace (After before duration) s (first_block_tals tss)
BlocksHaveFault bs s place TooMany = (tss : List (List Tal)) × AreTalBlocks bs tss
    × ¬ IsWithinLimits (annotations s (all_tals tss))
BlocksHaveFault bs s place fault = ⊥

-- the fault is true, and no fault of a lower number is
pub record BlocksHaveFirstFault (bs : List (List ℕ)) (s : ℕ) (place : Place)
    (fault : TalFault) : Type 0
  where
    pub holds : BlocksHaveFault bs s place fault
    pub first : (other : TalFault) → tal_fault_number other < tal_fault_number fault →
        ¬ BlocksHaveFault bs s place other

-- it is the first fault of a data record with one block
abbrev pub BlockHasFirstFault : List ℕ → ℕ → Place → TalFault → Type 0
BlockHasFirstFault block s place fault = BlocksHaveFirstFault (block ∷ []) s place fault

-- blocks are refused for their first fault; or for want of memory, only where they parse
abbrev pub BlocksAreRefused : List (List ℕ) → ℕ → Place → TalFault → Type 0
BlocksAreRefused bs s place Memory = (start : ℕ) × (list : List Annotation)
    × BlocksParseTo bs s place start list
BlocksAreRefused bs s place fault = BlocksHaveFirstFault bs s place fault

-- a data record with one block is refused so
abbrev pub BlockIsRefused : List ℕ → ℕ → Place → TalFault → Type 0
BlockIsRefused block s place fault = BlocksAreRefused (block ∷ []) s place fault

-- the bytes are cut into blocks of these sizes
abbrev pub split_by_sizes : List ℕ → List ℕ → List (List ℕ)
split_by_sizes [] bytes = []
split_by_sizes (size ∷ sizes) bytes = take size bytes ∷ split_by_sizes sizes (drop size bytes)
