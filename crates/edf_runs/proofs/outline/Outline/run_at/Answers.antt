use Rattle.std.proofs.Common.{◌≡◌, ℕ, ◌<◌, [], ◌∷◌, ◌++◌, take, sym, ap}
use Rattle.std.proofs.Common.{◌∙◌}
use Rattle.std.proofs.Common.{subst, rules, of_calls}
use Rattle.std.proofs.lemmas.List.{map-append}
use Rattle.std.proofs.lemmas.List.Sorted.{IsPartitionPoint-from_clause, IsPartitionedBy-leb}
use Rattle.edf_field.specs.Number.{duration_of}
use Rattle.edf_header.specs.Key.{Key}
use Rattle.edf_fragment.specs.Fragment.{DataRecord}
use Rattle.edf_runs.specs.Crowded.{IsRunCount}
use Rattle.edf_runs.specs.Inside.Stretching.{Rise}
use Rattle.edf_runs.proofs.ByOnset.{spaced-sound}
use Rattle.edf_runs.proofs.LyingIn.{begun, never-falls}
use Rattle.edf_runs.proofs.Noted.{starts_of}
use Rattle.edf_runs.proofs.OutsideCounts.{starts-rise}
use Rattle.edf_runs.proofs.RunCounts.{through}
use Rattle.edf_runs.proofs.outline.Outline.run_at.Goals as goal

pub returns : goal.returns
returns c = λ k before after r is start-is.
    let all = before ++ r ∷ after in
    let d = duration_of k.duration in
    let xs = c.as_slice-starts.result.now in
    let n = c.nanos-nanos.result in
    let begun-many = c.partition_point-begun.result in
    let lasts : c.duration.result ≡ d =
    c.duration.ensures.value ∙ ap (λ (x : Key). duration_of x.duration) is.identity in
    let starts : xs ≡ starts_of all = c.as_slice-starts.ensures.value ∙ is.spans.starts in
    let rise : Rise d 0 xs = subst (Rise d 0) (sym starts)
    (starts-rise d 0 all (spaced-sound k 0 all is.sound)) in
    let parted = IsPartitionedBy-leb (λ (s : ℕ). s) xs n (never-falls d 0 xs rise) in
    let point = IsPartitionPoint-from_clause (begun n) xs _
    c.partition_point-begun.ensures.partitioned parted (λ x q p k. search (rules, of_calls)) in
    let at : n ≡ r.start = c.nanos-nanos.ensures.value ∙ sym start-is in
    let parts : xs ≡ starts_of before ++ n ∷ starts_of after =
    starts ∙ map-append (λ (x : DataRecord). x.start) before (r ∷ after)
    ∙ ap (λ (m : ℕ). starts_of before ++ m ∷ starts_of after) (sym at) in
    let some : 0 < d = subst (λ (m : ℕ). 0 < m) lasts c.duration.ensures.positive in
    let front : starts_of (before ++ r ∷ []) ≡ take begun-many xs =
    map-append (λ (x : DataRecord). x.start) before (r ∷ [])
    ∙ ap (λ (m : ℕ). starts_of before ++ m ∷ []) (sym at)
    ∙ sym (through d n begun-many (starts_of before) (starts_of after) xs some parts rise
    c.partition_point-begun.ensures.bound point) in
    subst (λ (m : ℕ). IsRunCount m (before ++ r ∷ []) c.count_runs.result) lasts
    (c.count_runs.ensures (before ++ r ∷ []) front)
