-- What is told of files of the same times, samples and annotations.
use Rattle.std.proofs.Common.{◌≡◌, ℕ, ◌+◌, List, [], ◌∷◌, All, refl, sym, ap, ◌∙◌, subst}
use Rattle.std.specs.Prelude.{Bool, not, ◌&&◌, ◌||◌, nat_le, nat_lt, cond, Contains}
use Rattle.std.specs.List.{AllZip}
use Rattle.std.proofs.lemmas.List.Elements.{All-weaker, All-contains_itself}
use Rattle.std.proofs.lemmas.List.Sorted.{sum_by-IsPermutation}
use Rattle.edf_tal.specs.Tal.{Annotation}
use Rattle.edf_fragment.specs.Fragment.{DataRecord}
use Rattle.edf_runs.specs.ByOnset.{annotations_of, AreAlike}
use Rattle.edf_runs.specs.OneByOnset.{lies_in, ToldAlike}
use Rattle.edf_runs.specs.Crowded.{IsFirstCrowded}
use Rattle.edf_runs.proofs.ByOnset.{same-by-onset}
use Rattle.edf_runs.proofs.Filtered.{counted-alike}

lies-alike : (d : ℕ) (rs ss : List DataRecord) → AllZip AreAlike rs ss → (instant : ℕ) →
    lies_in d rs instant ≡ lies_in d ss instant
lies-alike d [] [] alike instant = refl
lies-alike d [] (s ∷ ss) alike instant = absurd alike
lies-alike d (r ∷ rs) [] alike instant = absurd alike
lies-alike d (r ∷ rs) (s ∷ ss) alike instant =
    ap (λ n. (nat_le n instant && nat_lt instant (n + d)) || lies_in d rs instant) alike.0.0
    ∙ ap (λ b. (nat_le s.start instant && nat_lt instant (s.start + d)) || b)
    (lies-alike d rs ss alike.1 instant)

pub told-alike : ToldAlike
told-alike d records others alike moved =
    let same = same-by-onset records others alike moved in
    let out : Annotation → Bool = λ a. not (lies_in d records a.onset) in
    let out-too : Annotation → Bool = λ a. not (lies_in d others a.onset) in
    let given = annotations_of records in
    let agree : All (λ a. out a ≡ out-too a) given =
    All-weaker (Contains given) (λ a. out a ≡ out-too a)
    (λ a c. ap not (lies-alike d records others alike a.onset)) given
    (All-contains_itself given) in (
      counted-alike out out-too given agree
          ∙ sym (sum_by-IsPermutation (λ a. cond (out-too a) 1 0) given (annotations_of others)
          moved),
      λ number. (
        subst (λ l. IsFirstCrowded d l number) same,
        subst (λ l. IsFirstCrowded d l number) (sym same),
      ),
    )
