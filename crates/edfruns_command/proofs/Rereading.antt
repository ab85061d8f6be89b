-- A second reading, run by run.
use Rattle.std.proofs.Common.{◌≡◌, ℕ, ◌+◌, ◌<◌, List, [], ◌∷◌, ◌++◌, length, take, get_or}
use Rattle.std.proofs.Common.{sym, ap, ◌∙◌, subst, arith, length-append, Option, append_assoc}
use Rattle.std.specs.List.{AllZip}
use Rattle.std.proofs.KnownBytes.{Consumes-trans}
use Rattle.std.proofs.lemmas.List.{take_more}
use Rattle.edf_header.specs.Header.{Layout}
use Rattle.edf_tal.specs.declared.place.Place.{Place}
use Rattle.edf_fragment.specs.Fragment.{DataRecord, BeginWithDataRecords, place_after}
use Rattle.edf_fragment.specs.declared.advance.Progress.{Progress}
use Rattle.edf_fragment.specs.declared.advance.ReaderState.TheVariants.{Reading}
use Rattle.edf_runs.specs.Read.{ReadsOn}

-- data records, and then others
records-then : (l : Layout) (p q r : Place) (a b : List ℕ) (xs ys : List DataRecord) →
    BeginWithDataRecords l p a xs q [] → BeginWithDataRecords l q b ys r [] →
    BeginWithDataRecords l p (a ++ b) (xs ++ ys) r []
records-then l p q r a b [] ys first then =
    let place = first.0 in
    let none = first.1 in
    subst (λ (z : List ℕ). BeginWithDataRecords l p (z ++ b) ys r []) none
    (subst (λ (z : Place). BeginWithDataRecords l z b ys r []) place then)
records-then l p q r a b (x ∷ xs) ys first then =
    let front = first.0 in
    let back = first.1 in (
      front,
      back ++ b,
      ap (λ (z : List ℕ). z ++ b) first.2 ∙ append_assoc front back b,
      first.3,
      records-then l (place_after l x.start) q r back b xs ys first.4 then,
    )

pub reads-then : (l : Layout) (from mid to : Progress) (left middle rest : Option (List ℕ))
    (xs ys : List DataRecord) → from.state ≡ Reading → ReadsOn l from mid left middle xs →
    ReadsOn l mid to middle rest ys → ReadsOn l from to left rest (xs ++ ys)
reads-then l from mid to left middle rest xs ys going a b = record {
  going = λ some. going;
  bytes = a.bytes ++ b.bytes;
  read = Consumes-trans left middle rest a.bytes b.bytes a.read b.read;
  are_records = records-then l from.place mid.place to.place a.bytes b.bytes xs ys a.are_records
      b.are_records;
  given = omega (arith, a.given, b.given, length-append xs ys);
  within = b.within;
  state = b.state ∙ a.state;
}

-- ---- one run more

pub both : {X Y : Type 0} (P : X → Y → Type 0) (xs : List X) (ys : List Y) (x : X) (y : Y) →
    AllZip P xs ys → P x y → AllZip P (xs ++ (x ∷ [])) (ys ++ (y ∷ []))
both P [] [] x y each one = (one, tt)
both P (a ∷ xs) [] x y each one = absurd each
both P [] (b ∷ ys) x y each one = absurd each
both P (a ∷ xs) (b ∷ ys) x y each one = (each.0, both P xs ys x y each.1 one)

pub one-more : {X Y : Type 0} (P : X → Y → Type 0) (xs : List X) (ys : List Y) (i : ℕ) (x : X)
    (y : Y) → i < length ys → y ≡ get_or ys i y → AllZip P xs (take i ys) → P x y →
    AllZip P (xs ++ (x ∷ [])) (take (i + 1) ys)
one-more P xs ys i x y lt is each more =
    subst (AllZip P (xs ++ (x ∷ [])))
    (ap (λ z. take i ys ++ (z ∷ [])) is ∙ sym (take_more ys i y lt))
    (both P xs (take i ys) x y each more)
