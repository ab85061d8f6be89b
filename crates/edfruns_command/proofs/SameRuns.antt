-- Data records that are listed as the runs of a file are runs too.
use Rattle.std.proofs.Common.{◌≡◌, ◌≢◌, ℕ, ◌+◌, ◌*◌, List, [], ◌∷◌, ◌++◌, length, refl, sym}
use Rattle.std.proofs.Common.{ap, ◌∙◌, subst, arith, append_assoc, All, Option}
use Rattle.std.specs.List.{flat_map, AllZip}
use Rattle.std.proofs.Math.Nat.{suc-mul}
use Rattle.std.proofs.lemmas.List.Elements.{All-nil, All-cons}
use Rattle.edf_field.specs.Number.{duration_of}
use Rattle.edf_header.specs.Key.{Key}
use Rattle.edf_fragment.specs.Fragment.{DataRecord}
use Rattle.edf_runs.specs.Runs.{StartFrom, IsTouching, AreParted, IsRuns, IsListed}
use Rattle.edf_runs.specs.declared.run.Run.{Run}
use Rattle.edf_runs.specs.declared.run_list.Listing.{Listing}
use Rattle.edf_runs.proofs.Growing.{touching_from, from_touching, touching_front, last_start}
use Rattle.edf_runs.proofs.Growing.{run_end}
use Rattle.edfruns_command.specs.Listing.{HasRuns}

starts-then : (d at : ℕ) (xs ys : List DataRecord) → StartFrom d at xs →
    StartFrom d (at + length xs * d) ys → StartFrom d at (xs ++ ys)
starts-then d at [] ys first then = subst (λ n. StartFrom d n ys) (omega arith) then
starts-then d at (x ∷ xs) ys first then =
    let e = suc-mul (length xs) d in
    let here : at + length (x ∷ xs) * d ≡ (at + d) + length xs * d = omega (arith, e) in (
      first.0,
      starts-then d (at + d) xs ys first.1 (subst (λ n. StartFrom d n ys) here then),
    )

some : (d : ℕ) (records : List DataRecord) (run : Run) → IsListed d records run → records ≢ []
some d records run is none =
    let count : length records ≡ 0 = ap (λ (rs : List DataRecord). length rs) none in
    omega (arith, is.count, run.records_some, count)

-- runs that may be joined follow each other
follows : (d : ℕ) (xs ys : List DataRecord) (run next : Run) → IsListed d xs run →
    IsListed d ys next → IsTouching d (xs ++ ys) → next.first ≡ run.last + d
follows d [] ys run next is then touching = absurd (some d [] run is refl)
follows d (x ∷ xs) [] run next is then touching = absurd (some d [] next then refl)
follows d (x ∷ xs) (y ∷ ys) run next is then touching =
    let here : IsTouching d ((x ∷ xs) ++ (y ∷ [])) =
    touching_front d ((x ∷ xs) ++ (y ∷ [])) ys
    (subst (IsTouching d) (sym (append_assoc (x ∷ xs) (y ∷ []) ys)) touching) in
    let from = from_touching d run.first x (xs ++ (y ∷ [])) is.starts.0 here in
    let at = last_start d run.first (x ∷ xs) y from in
    omega (arith, at, run_end d (x ∷ xs) run is, then.starts.0)

-- and those that follow each other may be joined
joins : (d : ℕ) (xs ys : List DataRecord) (run next : Run) → IsListed d xs run →
    IsListed d ys next → next.first ≡ run.last + d → IsTouching d (xs ++ ys)
joins d xs ys run next is then e =
    touching_from d run.first (xs ++ ys) (starts-then d run.first xs ys is.starts
    (subst (λ n. StartFrom d n ys) (e ∙ run_end d xs run is) then.starts))

parted : (d : ℕ) (runs others : List (List DataRecord)) (listed : List Run) →
    AllZip (IsListed d) runs listed → AllZip (IsListed d) others listed → AreParted d runs →
    AreParted d others
parted d runs [] listed are were apart = tt
parted d runs (x ∷ []) listed are were apart = tt
parted d runs (x ∷ y ∷ others) [] are were apart = absurd were
parted d runs (x ∷ y ∷ others) (r ∷ []) are were apart = absurd were.1
parted d [] (x ∷ y ∷ others) (r ∷ s ∷ listed) are were apart = absurd are
parted d (p ∷ []) (x ∷ y ∷ others) (r ∷ s ∷ listed) are were apart = absurd are.1
parted d (p ∷ q ∷ runs) (x ∷ y ∷ others) (r ∷ s ∷ listed) are were apart = (
  λ touching. apart.0 (joins d p q r s are.0 are.1.0
      (follows d x y r s were.0 were.1.0 touching)),
  parted d (q ∷ runs) (y ∷ others) (s ∷ listed) are.1 were.1 apart.1,
)

none-empty : (d : ℕ) (runs : List (List DataRecord)) (listed : List Run) →
    AllZip (IsListed d) runs listed → All (λ (run : List DataRecord). run ≢ []) runs
none-empty d [] [] are = All-nil (λ (run : List DataRecord). run ≢ [])
none-empty d [] (r ∷ rs) are = absurd are
none-empty d (p ∷ ps) [] are = absurd are
none-empty d (p ∷ ps) (r ∷ rs) are =
    All-cons (λ (run : List DataRecord). run ≢ []) p ps (some d p r are.0)
    (none-empty d ps rs are.1)

each-touching : (d : ℕ) (runs : List (List DataRecord)) (listed : List Run) →
    AllZip (IsListed d) runs listed → All (IsTouching d) runs
each-touching d [] [] are = All-nil (IsTouching d)
each-touching d [] (r ∷ rs) are = absurd are
each-touching d (p ∷ ps) [] are = absurd are
each-touching d (p ∷ ps) (r ∷ rs) are =
    All-cons (IsTouching d) p ps (touching_from d r.first p are.0.starts)
    (each-touching d ps rs are.1)

same-runs : (d : ℕ) (runs others : List (List DataRecord)) (listed : List Run) →
    AreParted d runs → AllZip (IsListed d) runs listed → AllZip (IsListed d) others listed →
    IsRuns d (flat_map (λ run. run) others) others
same-runs d runs others listed apart are were = record {
  joined = refl;
  none_empty = none-empty d others listed were;
  touching = each-touching d others listed were;
  parted = parted d runs others listed are were apart;
}

-- ---- runs that were listed

-- what is listed of the runs of a file is listed of runs alone
pub listed-runs : (bytes : Option (List ℕ)) (listing : Listing) (others : List (List DataRecord)) →
    HasRuns bytes listing →
    AllZip (IsListed (duration_of listing.identity.duration)) others listing.runs.items →
    IsRuns (duration_of listing.identity.duration) (flat_map (λ run. run) others) others
listed-runs bytes listing others has each =
    let first = has.read in
    let d = duration_of listing.identity.duration in
    let e : duration_of first.layout.key.duration ≡ d =
    ap (λ (k : Key). duration_of k.duration) (sym first.identity) in
    same-runs d first.listed.runs others listing.runs.items
    (subst (λ n. AreParted n first.listed.runs) e first.listed.are_runs.parted)
    (subst (λ n. AllZip (IsListed n) first.listed.runs listing.runs.items) e first.listed.each)
    each
