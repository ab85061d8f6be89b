use Rattle.std.proofs.Common.{List, ℕ, [], ap, ◌∙◌, subst, slice_index_or}
use Rattle.edf_field.specs.Text.{subfields}
use Rattle.std.specs.Str.{str_to_ascii_uppercase as capitals}
use Rattle.edf_mend.specs.Identification.{AreDated}
use Rattle.edf_mend.proofs.Starts.{day-of-date}
use Rattle.edf_mend.proofs.start.day_in.Goals as goal

pub returns : goal.returns
returns c =
    let two = rw c.in-Some.is at c.in_ok-date.ensures in
    let spaced-is = c.as_slice.ensures.value ∙ c.in_ok-field.ensures in
    day-of-date c.id_date.result c.args.recording.now c.as_slice-2.result.now
    (c.as_slice-2.ensures.value ∙ c.in_ok-text.ensures
    ∙ ap capitals (two.1 ∙ ap (λ (l : List ℕ). slice_index_or (subfields l) 1 []) spaced-is))
    (subst (λ (l : List ℕ). AreDated (subfields l)) spaced-is two.0) c.id_date.ensures
