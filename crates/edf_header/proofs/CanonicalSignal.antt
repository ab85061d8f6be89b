-- The annotations signal of a canonical file.
use Rattle.std.proofs.Common.{◌≡◌, ℕ, ◌≤◌, List, ◌++◌, refl, sym, subst, arith, lit<}
use Rattle.std.specs.Prelude.{codes}
use Rattle.std.specs.Fmt.{decimal}
use Rattle.std.proofs.lemmas.List.{length-append, take_at}
use Rattle.std.proofs.lemmas.List.Elements.{All-append, All-replicate}
use Rattle.edf_field.specs.Number.{field, AreSpaces, IsNumber}
use Rattle.edf_field.specs.Text.{IsPrintable, spaces, padded_to}
use Rattle.edf_header.specs.Signal.{IsAnnotationsSignal, HasSamples, samples}
use Rattle.edf_header.specs.Canonical.{annotations_signal}
use Rattle.edf_header.specs.Spelled.{IsPrinted}
use Rattle.edf_header.specs.declared.limits.TheConstants.{MOST_BLOCK_SAMPLES}
use Rattle.edf_header.proofs.SpelledTexts.{printable-by}
use Rattle.edf_header.proofs.SpelledNumbers.{number-field, spaces-printable}

-- the row up to the samples
abbrev front : List ℕ
front =
    codes "EDF Annotations " ++ (spaces 80
    ++ (spaces 8 ++ (padded_to 8 (codes "-1") ++ (padded_to 8 (codes "1")
    ++ (padded_to 8 (codes "-32768") ++ (padded_to 8 (codes "32767") ++ spaces 80))))))

abbrev tail : ℕ → List ℕ
tail n = padded_to 8 (decimal n) ++ spaces 32

spaces-are : (n : ℕ) → AreSpaces (spaces n)
spaces-are n = All-replicate (λ (b : ℕ). b ≡ 32) n 32 refl

pub annotations-is : (n : ℕ) → IsAnnotationsSignal (annotations_signal n)
annotations-is n = record {
  label = refl;
  physical = record {
    minimum = (lit< tt, spaces-are 6);
    maximum = (lit< tt, spaces-are 7);
    differ = λ same. cc;
  };
  minimum = (lit< tt, spaces-are 2);
  minimum_is = refl;
  maximum = (lit< tt, spaces-are 3);
  maximum_is = refl;
}

-- the row and its samples
pub record IsCanonicalRow (n : ℕ) (row : List ℕ) : Type 0 where
  pub printed : IsPrinted 256 row
  pub annotations : IsAnnotationsSignal row
  pub samples_are : HasSamples row
  pub samples_is : samples row ≡ n

pub canonical-row : (n : ℕ) → 1 ≤ n → n ≤ MOST_BLOCK_SAMPLES →
    IsCanonicalRow n (annotations_signal n)
canonical-row n some small =
    let f = number-field 8 n (omega arith) (omega arith) (omega arith) in
    let text : List ℕ = padded_to 8 (decimal n) in
    let here : field (annotations_signal n) 216 8 ≡ text =
    take_at text (spaces 32) 8 f.printed.len in
    let number : IsNumber (field (annotations_signal n) 216 8) n =
    subst (λ (l : List ℕ). IsNumber l n) (sym here) f.number in
    record {
      printed = record {
        len = omega (
          arith,
          length-append front (tail n),
          length-append text (spaces 32),
          f.printed.len,
        );
        printable = All-append IsPrintable front (tail n) (printable-by front refl)
            (All-append IsPrintable text (spaces 32) f.printed.printable (spaces-printable 32));
      };
      annotations = annotations-is n;
      samples_are = record { whole = number.whole; some = omega (arith, number.value) };
      samples_is = sym number.value;
    }
