-- The calls of a source of data records.
use Rattle.std.specs.Prelude.{◌≡◌, List, [], ◌∷◌, Option, Some, Result, Ok}
use Rattle.edf_fragment.specs.Fragment.{DataRecord}

-- a source, and what is lent to each of its calls: a file and its input, or two other things
pub record At (S F R : Type 0) : Type 0 where
  pub source : S
  pub file : F
  pub input : R

abbrev pub at : {S F R : Type 0} → S → F → R → At S F R
at source file input = record { source = source; file = file; input = input }

module _ {S F R E : Type 0}
    (answers : S → F → R → S → F → R → Result (Option DataRecord) E → Type 0) where
  -- a call had this answer
  abbrev pub Answers : At S F R → At S F R → Result (Option DataRecord) E → Type 0
  Answers from to answer =
      answers from.source from.file from.input to.source to.file to.input answer

  -- calls returned these data records, one after another
  abbrev pub Gives : At S F R → At S F R → List DataRecord → Type 0
  Gives from to [] = to ≡ from
  Gives from to (r ∷ rs) = (mid : At S F R) × Answers from mid (Ok (Some r)) × Gives mid to rs
