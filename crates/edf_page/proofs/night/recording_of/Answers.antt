use Rattle.std.proofs.Common.{ℕ, List, subst}
use Rattle.edf_page.specs.Inside.{ListsFile, DrawsFile}
use Rattle.edf_page.proofs.Files.{recording-is}
use Rattle.edf_page.proofs.night.recording_of.Goals as goal

pub returns : goal.returns
returns c h k is =
    let same = c.as_slice-bytes.ensures.value in
    recording-is h k _ is
    (subst (λ (f : List ℕ). ListsFile f c.in_ok-runs.runs.items) same c.in_ok-runs.ensures)
    (subst (λ (f : List ℕ). DrawsFile f c.in_ok-picture.picture.items) same c.in_ok-picture.ensures)
