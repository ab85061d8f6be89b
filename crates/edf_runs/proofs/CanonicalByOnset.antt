-- The canonical file by onset, by two readings of one file.
use Rattle.std.proofs.Common.{◌≡◌, ℕ, List, sym, subst}
use Rattle.std.specs.Io.KnownBytes.{Appends}
use Rattle.edf_fragment.specs.Fragment.{DataRecord}
use Rattle.edf_fragment.proofs.Fragments.{fragment_of_all}
use Rattle.edf_fragment.proofs.OneFragment.{one-fragment}
use Rattle.edf_fragment.proofs.Sound.{spelled-sound}
use Rattle.edf_canonical.specs.File.{IsCanonicalFile}
use Rattle.edf_runs.specs.ByOnset.{by_onset}
use Rattle.edf_runs.specs.CanonicalLaws.{StayJoined, WritesByOnset, WritesAlike}
use Rattle.edf_runs.specs.Twice.{AreJoined}
use Rattle.edf_runs.proofs.ByOnset.{stay-alike, are-one-however-spread}
use Rattle.edf_runs.proofs.CutLaws.{sampled-by}
use Rattle.edf_runs.proofs.Noted.{joined-self, one-joined}

pub stay-joined : StayJoined
stay-joined k records sound = record {
  annotated = (joined-self (by_onset records)).annotated;
  sampled = sampled-by records records (by_onset records) (joined-self records).sampled
      (stay-alike k records sound).0;
}

pub writes-by-onset : WritesByOnset
writes-by-onset bytes k records before after spells out =
    let w = out.written in
    let read = one-fragment bytes k w.layout.key records w.others spells
    (fragment_of_all bytes out.rest w.layout w.others w.read) in
    let joined : AreJoined (by_onset records) records w.records =
    subst (λ (l : List DataRecord). AreJoined (by_onset records) l w.records) (sym read.records)
    w.joined in
    let own = stay-joined k records (spelled-sound bytes k records spells) in
    let same : w.records ≡ by_onset records =
    one-joined (by_onset records) records w.records (by_onset records) joined.annotated
    own.annotated joined.sampled own.sampled in
    (w.file, subst (IsCanonicalFile w.file k) same w.is_file, w.wrote)

pub writes-alike : WritesAlike
writes-alike bytes other k records others before after from to spells spells-other alike moved out
    out-other =
    let one = writes-by-onset bytes k records before after spells out in
    let two = writes-by-onset other k others from to spells-other out-other in
    let same = (are-one-however-spread records others alike moved).1 k one.0 two.0 one.1 two.1 in (
      one.0,
      one.1,
      subst (λ (x : List ℕ). IsCanonicalFile x k (by_onset others)) (sym same) two.1,
      one.2,
      subst (Appends from to) (sym same) two.2,
    )
