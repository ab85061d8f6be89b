-- The texts of instants, and of refusals: `E`, the number, the name and the details, each after a
-- space. Numbers are decimal.
use Rattle.std.specs.Prelude.{ℕ, ◌<◌, List, [], ◌∷◌, ◌++◌, Option, Some, None, codes, decimal}
use Rattle.edf_time.specs.Civil.{window, IsInstantText}
use Rattle.edf_fragment.specs.Fault.{fragment_fault_number, fragment_fault_name}
use Rattle.edf_fragment.specs.Fault.{fragment_fault_record, fragment_fault_offset}
use Rattle.edf_fragment.specs.Fault.{fragment_fault_signal}
use Rattle.edf_fragment.specs.declared.fault.FragmentFault.{FragmentFault}
use Rattle.edf_fragment.specs.declared.fault.FragmentFault.TheVariants as fragment

-- each instant of the window is written by its text, of which it has one by a law
abbrev pub IsInstantFormat : (ℕ → List ℕ) → Type 0
IsInstantFormat spell = (instant : ℕ) → instant < window → IsInstantText (spell instant) instant

-- the text of a fault: its number, its name, and what comes after them
abbrev pub fault_text : ℕ → List ℕ → List ℕ → List ℕ
fault_text number name rest = codes "E" ++ (decimal number ++ (codes " " ++ (name ++ rest)))

-- the value that a fault names, if it names one, after its label
abbrev pub detail : List ℕ → Option ℕ → List ℕ
detail label None = []
detail label (Some value) = label ++ decimal value

-- the data record from 1; the offset from 0, in the file for a fault of the header, in the data
-- record's annotations blocks, joined, for one of these; the signal from 1
abbrev pub fragment_details : FragmentFault → List ℕ
fragment_details fault = detail (codes " record=") (fragment_fault_record fault)
    ++ (detail (codes " offset=") (fragment_fault_offset fault)
    ++ detail (codes " signal=") (fragment_fault_signal fault))

-- the text of a fault with its details
abbrev pub fragment_fault_text : FragmentFault → List ℕ
fragment_fault_text fault = fault_text (fragment_fault_number fault) (fragment_fault_name fault)
    (fragment_details fault)

-- ---- lines for whose text no memory is taken: `NAME refused`, and the fault without details

abbrev pub refused_line : List ℕ → ℕ → List ℕ → List ℕ
refused_line name number fault = name ++ (codes " refused " ++ fault_text number fault (10 ∷ []))

abbrev pub memory_line : List ℕ → List ℕ
memory_line name = refused_line name (fragment_fault_number fragment.Memory)
    (fragment_fault_name fragment.Memory)

-- ---- of a file that was to be made

-- something has its name
abbrev pub there_line : List ℕ → List ℕ
there_line name = name ++ codes " is there already; nothing was written\n"
