-- The annotations of one more data record, and their notes.
use Rattle.std.proofs.Common.{◌≡◌, List, [], ◌∷◌, ◌++◌, ap, ◌∙◌}
use Rattle.std.proofs.lemmas.Grind.{flat_map-append}
use Rattle.std.proofs.lemmas.List.{append-nil}
use Rattle.edf_fragment.specs.Fragment.{DataRecord}
use Rattle.edf_runs.specs.ByOnset.{annotations_of}
use Rattle.edf_picture.specs.declared.extent.Note.{Note}
use Rattle.edf_tal.specs.Tal.{Annotation}
use Rattle.edfruns_command.specs.Picturing.{AreNoted, IsNoted}

pub annotations-push : (records : List DataRecord) (r : DataRecord) →
    annotations_of (records ++ r ∷ []) ≡ annotations_of records ++ r.annotations
annotations-push records r = flat_map-append (λ (x : DataRecord). x.annotations) records (r ∷ [])
    ∙ ap (λ (l : List Annotation). annotations_of records ++ l) (append-nil r.annotations)

-- one more annotation, and its note
pub noted-more : (annotations : List Annotation) (notes : List Note) (a : Annotation) (n : Note) →
    AreNoted annotations notes → IsNoted a n → AreNoted (annotations ++ a ∷ []) (notes ++ n ∷ [])
noted-more [] [] a n are is = (is, tt)
noted-more [] (m ∷ notes) a n are is = absurd are
noted-more (b ∷ annotations) [] a n are is = absurd are
noted-more (b ∷ annotations) (m ∷ notes) a n are is =
    (are.0, noted-more annotations notes a n are.1 is)
