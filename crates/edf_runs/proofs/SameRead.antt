-- Where the same bytes are read twice, one recording is read.
use Rattle.std.proofs.Common.{◌≡◌, ℕ, List, [], ◌∷◌, refl, sym, ap, ◌∙◌, subst}
use Rattle.std.specs.List.{AllZip}
use Rattle.edf_header.specs.Key.{Key}
use Rattle.edf_tal.specs.Tal.{Annotation}
use Rattle.edf_fragment.specs.Fragment.{DataRecord, IsFragmentFile}
use Rattle.edf_fragment.proofs.Fragments.{fragment_of_all}
use Rattle.edf_fragment.proofs.OneFragment.{one-fragment}
use Rattle.edf_runs.specs.Twice.{SameIsRead}

-- data records that have the starts and annotations of some, and the samples of the same, are these
same-joined : (ones joined : List DataRecord) →
    AllZip (λ one r. (one.start ≡ r.start) × (one.annotations ≡ r.annotations)) ones joined →
    AllZip (λ other r. (other.start ≡ r.start) × (other.samples ≡ r.samples)) ones joined →
    ones ≡ joined
same-joined [] [] annotated sampled = refl
same-joined [] (r ∷ rs) annotated sampled = absurd annotated
same-joined (o ∷ os) [] annotated sampled = absurd annotated
same-joined (o ∷ os) (r ∷ rs) annotated sampled =
    ap (λ (x : ℕ). record { start = x; samples = o.samples; annotations = o.annotations } ∷ os)
    annotated.0.0
    ∙ ap (λ (x : List ℕ). record { start = r.start; samples = x; annotations = o.annotations } ∷ os)
    sampled.0.1
    ∙ ap (λ (x : List Annotation). record { start = r.start; samples = r.samples; annotations = x }
    ∷ os) annotated.0.1
    ∙ ap (λ (xs : List DataRecord). r ∷ xs) (same-joined os rs annotated.1 sampled.1)

pub same-is-read : SameIsRead
same-is-read bytes k records t =
    let one : IsFragmentFile bytes k t.ones = subst (λ (x : Key). IsFragmentFile bytes x t.ones)
    t.keys.0 (fragment_of_all bytes t.rest t.layout t.ones t.read) in
    let two : IsFragmentFile bytes k t.others = subst (λ (x : Key). IsFragmentFile bytes x t.others)
    t.keys.1 (fragment_of_all bytes t.rest' t.layout' t.others t.reread) in
    let same = one-fragment bytes k k t.ones t.others one two in
    subst (λ (l : List DataRecord). IsFragmentFile bytes k l)
    (same-joined t.ones records t.joined.annotated
    (subst (λ (l : List DataRecord).
    AllZip (λ other r. (other.start ≡ r.start) × (other.samples ≡ r.samples)) l records)
    (sym same.records) t.joined.sampled)) one
