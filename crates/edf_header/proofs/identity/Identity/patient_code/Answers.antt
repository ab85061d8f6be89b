use Rattle.std.proofs.Common.{◌∷◌, [], ℕ, List, ap, sym, slice_index_or}
use Rattle.edf_field.specs.Text.{subfields}
use Rattle.edf_header.proofs.Held.{patient-read}
use Rattle.edf_header.proofs.identity.Identity.patient_code.Goals as goal

pub returns : goal.returns
returns c =
    let more = subfields c.in-Some.field-0-1.now in
    sym (ap (λ (l : List (List ℕ)). slice_index_or l 0 [])
    (patient-read c.deref.result.now c.self.inside.bytes.items c.args.self.now
    (c.in-Some.code.now ∷ more) c.deref.ensures.value c.self.view_is c.in-Some.ensures))
