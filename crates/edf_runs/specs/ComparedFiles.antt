-- Two files are read, and their data records compared.
use Rattle.std.specs.Prelude.{◌≡◌, ℕ, List, Option}
use Rattle.edf_field.specs.Number.{duration_of}
use Rattle.edf_header.specs.Header.{Layout}
use Rattle.edf_fragment.specs.Fragment.{DataRecord}
use Rattle.edf_fragment.specs.Reading.{ReadsHeader}
use Rattle.edf_fragment.specs.Whole.{ReadsFragment, ReadsFragmentFault}
use Rattle.edf_runs.specs.Compared.{HasWord, IsMet, AreStretches}
use Rattle.edf_runs.specs.declared.compared.Comparison.{Comparison}
use Rattle.edf_runs.specs.declared.compared.CompareFault.{CompareFault}
use Rattle.edf_runs.specs.declared.compared.CompareFault.TheVariants.{First, Second, Other, Memory}

module _ (left rest left' rest' : Option (List ℕ)) where
  -- Both were read to their ends and are of one recording, and their data records have these words.
  pub record IsCompared (c : Comparison) : Type 0 where
    pub layout : Layout
    pub layout' : Layout
    pub firsts : List DataRecord
    pub seconds : List DataRecord
    pub read : ReadsFragment left rest layout firsts
    pub read' : ReadsFragment left' rest' layout' seconds
    pub same : layout.key ≡ layout'.key
    pub words : AreStretches (HasWord (duration_of layout.key.duration) firsts)
        (duration_of layout.key.duration) c.words.items seconds
    pub met : AreStretches (IsMet seconds) (duration_of layout.key.duration) c.firsts.items firsts

  -- One of them is refused, or the headers of both were read, and are of two recordings.
  abbrev pub IsCompareFault : CompareFault → Type 0
  IsCompareFault (First fault) = ReadsFragmentFault left rest fault
  IsCompareFault (Second fault) = ReadsFragmentFault left' rest' fault
  IsCompareFault (Other one other) = (l : Layout) × (l' : Layout) × ReadsHeader left rest l
      × ReadsHeader left' rest' l' × (one ≡ l.key) × (other ≡ l'.key) × ¬ (one ≡ other)
  IsCompareFault Memory = Unit {0}
