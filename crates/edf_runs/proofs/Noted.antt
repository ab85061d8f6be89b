-- Data records with the annotations of an outline and the samples of a second reading.
use Rattle.std.proofs.Common.{◌≡◌, ℕ, ◌+◌, ◌≤◌, List, [], ◌∷◌, ◌++◌, length, map, take}
use Rattle.std.proofs.Common.{refl, sym, ap, ◌∙◌, subst, arith}
use Rattle.std.specs.Prelude.{Bool, true, false, cond, filter}
use Rattle.std.specs.List.{AllByRecursion, AllZip}
use Rattle.std.proofs.Math.Seq.{take-append_seam, drop-append_seam}
use Rattle.edf_field.specs.Number.{duration_of}
use Rattle.edf_header.specs.Key.{Key}
use Rattle.edf_tal.specs.Tal.{Annotation}
use Rattle.edf_fragment.specs.Fragment.{DataRecord}
use Rattle.edf_fragment.specs.Sound.{AreSoundFrom}
use Rattle.edf_runs.specs.ByOnset.{annotations_of}
use Rattle.edf_runs.specs.Inside.Selecting.{with_counts, HasLimits}
use Rattle.edf_runs.specs.Twice.{AreJoined}

abbrev pub counts_of : List DataRecord → List ℕ
counts_of records = map (λ (r : DataRecord). length r.annotations) records

abbrev pub starts_of : List DataRecord → List ℕ
starts_of records = map (λ (r : DataRecord). r.start) records

-- a data record has the start and the annotations of one, or the start and the samples of another
abbrev pub Noted : DataRecord → DataRecord → Type 0
Noted one r = (one.start ≡ r.start) × (one.annotations ≡ r.annotations)

abbrev pub Sampled : DataRecord → DataRecord → Type 0
Sampled other r = (other.start ≡ r.start) × (other.samples ≡ r.samples)

annotated : (ones others : List DataRecord) → starts_of others ≡ starts_of ones →
    AllZip (λ (one r : DataRecord). Noted one r) ones
    (with_counts (counts_of ones) (annotations_of ones) others)
annotated [] [] same = tt
annotated [] (o ∷ os) same = cc
annotated (x ∷ xs) [] same = cc
annotated (x ∷ xs) (o ∷ os) same =
    let more = annotations_of xs in
    let here : o.start ≡ x.start = cc in
    let rest : starts_of os ≡ starts_of xs = cc in (
      (sym here, sym (take-append_seam x.annotations more)),
      subst (λ (l : List Annotation). AllZip (λ (one r : DataRecord). (one.start ≡ r.start)
          × (one.annotations ≡ r.annotations)) xs (with_counts (counts_of xs) l os))
          (sym (drop-append_seam x.annotations more)) (annotated xs os rest),
    )

sampled : (counts : List ℕ) (notes : List Annotation) (others : List DataRecord) →
    AllZip (λ (other r : DataRecord). (other.start ≡ r.start) × (other.samples ≡ r.samples)) others
    (with_counts counts notes others)
sampled counts notes [] = tt
sampled counts notes (o ∷ os) = ((refl, refl), sampled _ _ os)

pub are-joined : (ones others : List DataRecord) → starts_of others ≡ starts_of ones →
    AreJoined ones others (with_counts (counts_of ones) (annotations_of ones) others)
are-joined ones others same = record {
  annotated = annotated ones others same;
  sampled = sampled (counts_of ones) (annotations_of ones) others;
}

-- joined data records are known by what they are joined of
pub one-joined : (ones others xs ys : List DataRecord) →
    AllZip (λ (one r : DataRecord). Noted one r) ones xs →
    AllZip (λ (one r : DataRecord). Noted one r) ones ys →
    AllZip (λ (other r : DataRecord). Sampled other r) others xs →
    AllZip (λ (other r : DataRecord). Sampled other r) others ys → xs ≡ ys
one-joined [] [] [] [] a b c d = refl
one-joined [] others (x ∷ xs) ys a b c d = absurd a
one-joined [] others [] (y ∷ ys) a b c d = absurd b
one-joined [] (o ∷ os) [] [] a b c d = absurd c
one-joined (z ∷ zs) others [] ys a b c d = absurd a
one-joined (z ∷ zs) others (x ∷ xs) [] a b c d = absurd b
one-joined (z ∷ zs) [] (x ∷ xs) (y ∷ ys) a b c d = absurd c
one-joined (z ∷ zs) (o ∷ os) (x ∷ xs) (y ∷ ys) a b c d =
    let start : x.start ≡ y.start = sym a.0.0 ∙ b.0.0 in
    let notes : x.annotations ≡ y.annotations = sym a.0.1 ∙ b.0.1 in
    let samples : x.samples ≡ y.samples = sym c.0.1 ∙ d.0.1 in
    let same : x ≡ y = λ i. record {
      start = start i;
      samples = samples i;
      annotations = notes i;
    } in
    ap (λ (r : DataRecord). r ∷ xs) same
    ∙ ap (λ (l : List DataRecord). y ∷ l) (one-joined zs os xs ys a.1 b.1 c.1 d.1)

zip-starts : (P : DataRecord → DataRecord → Type 0) →
    ((x r : DataRecord) → P x r → x.start ≡ r.start) → (xs rs : List DataRecord) →
    AllZip P xs rs → starts_of xs ≡ starts_of rs
zip-starts P same [] [] each = refl
zip-starts P same [] (r ∷ rs) each = absurd each
zip-starts P same (x ∷ xs) [] each = absurd each
zip-starts P same (x ∷ xs) (r ∷ rs) each =
    ap (λ (n : ℕ). n ∷ starts_of xs) (same x r each.0)
    ∙ ap (λ (l : List ℕ). r.start ∷ l) (zip-starts P same xs rs each.1)

module _ (ones others records : List DataRecord) (joined : AreJoined ones others records) where
  pub joined-starts : starts_of others ≡ starts_of ones
  joined-starts =
      zip-starts (λ (other r : DataRecord). Sampled other r) (λ x r is. is.0) others records
      joined.sampled
      ∙ sym (zip-starts (λ (one r : DataRecord). Noted one r) (λ x r is. is.0) ones records
      joined.annotated)

  pub joined-is : with_counts (counts_of ones) (annotations_of ones) others ≡ records
  joined-is =
      let are = are-joined ones others joined-starts in
      one-joined ones others (with_counts (counts_of ones) (annotations_of ones) others) records
      are.annotated joined.annotated are.sampled joined.sampled

-- both sound, they are sound together
pub joined-sound : (k : Key) (low lower : ℕ) (ones others : List DataRecord) →
    AreSoundFrom k low ones → AreSoundFrom k lower others → starts_of others ≡ starts_of ones →
    AreSoundFrom k low (with_counts (counts_of ones) (annotations_of ones) others)
joined-sound k low lower [] [] sound sound' same = tt
joined-sound k low lower [] (o ∷ os) sound sound' same = cc
joined-sound k low lower (x ∷ xs) [] sound sound' same = cc
joined-sound k low lower (x ∷ xs) (o ∷ os) sound sound' same =
    let more = annotations_of xs in
    let here : o.start ≡ x.start = cc in
    let rest : starts_of os ≡ starts_of xs = cc in
    let d = duration_of k.duration in
    let noted : take (length x.annotations) (x.annotations ++ more) ≡ x.annotations =
    take-append_seam x.annotations more in (
      record {
        samples_len = sound'.0.samples_len;
        start = sound'.0.start;
        limits = rw noted sound.0.limits;
        notes = rw noted sound.0.notes;
      },
      omega (arith, here, sound.1),
      subst (λ (l : List Annotation). AreSoundFrom k (o.start + d) (with_counts (counts_of xs) l
          os)) (sym (drop-append_seam x.annotations more))
          (joined-sound k (o.start + d) (o.start + d) xs os
          (subst (λ (n : ℕ). AreSoundFrom k (n + d) xs) (sym here) sound.2) sound'.2 rest),
    )

noted-self : (rs : List DataRecord) → AllZip (λ (one r : DataRecord). Noted one r) rs rs
noted-self [] = tt
noted-self (r ∷ rs) = ((refl, refl), noted-self rs)

sampled-self : (rs : List DataRecord) → AllZip (λ (other r : DataRecord). Sampled other r) rs rs
sampled-self [] = tt
sampled-self (r ∷ rs) = ((refl, refl), sampled-self rs)

pub joined-self : (rs : List DataRecord) → AreJoined rs rs rs
joined-self rs = record { annotated = noted-self rs; sampled = sampled-self rs }

pub are-sound : (k : Key) (ones others records : List DataRecord) → AreJoined ones others records →
    AreSoundFrom k 0 ones → AreSoundFrom k 0 others → AreSoundFrom k 0 records
are-sound k ones others records joined sound sound' =
    subst (AreSoundFrom k 0) (joined-is ones others records joined)
    (joined-sound k 0 0 ones others sound sound' (joined-starts ones others records joined))

-- some of them are sound
pub some-sound : (p : DataRecord → Bool) (k : Key) (low lower : ℕ) (records : List DataRecord) →
    lower ≤ low → AreSoundFrom k low records → AreSoundFrom k lower (filter p records)
some-sound p k low lower [] le sound = tt
some-sound p k low lower (r ∷ rs) le sound =
    let d = duration_of k.duration in
    elim (p r) as (λ (b : Bool). AreSoundFrom k lower (cond b (r ∷ filter p rs) (filter p rs))) [
      | true ↦ (
        sound.0,
        omega (arith, le, sound.1),
        some-sound p k (r.start + d) (r.start + d) rs (omega arith) sound.2,
      )
      | false ↦ some-sound p k (r.start + d) lower rs (omega (arith, le, sound.1)) sound.2
    ]

pub sound-limits : (k : Key) (low : ℕ) (records : List DataRecord) → AreSoundFrom k low records →
    AllByRecursion HasLimits records
sound-limits k low [] sound = tt
sound-limits k low (r ∷ rs) sound =
    (sound.0.limits, sound-limits k (r.start + duration_of k.duration) rs sound.2)
