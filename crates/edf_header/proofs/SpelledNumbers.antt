-- Numbers in fields: digits and then spaces.
use Rattle.std.proofs.Common.{ℕ, ◌-◌, ◌^◌, ◌≤◌, ◌<◌, List, [], ◌∷◌, length, arith}
use Rattle.std.specs.Prelude.{All}
use Rattle.std.specs.Fmt.{decimal}
use Rattle.std.specs.Str.Parse.{AllDigits}
use Rattle.std.proofs.lemmas.Fmt.{decimal_is_IsNumeral, length-decimal-le}
use Rattle.std.proofs.lemmas.List.{length-append, length-replicate}
use Rattle.std.proofs.lemmas.List.Elements.{All-nil, All-cons, All-append, All-replicate}
use Rattle.edf_time.proofs.Cited.{digit_only}
use Rattle.edf_field.proofs.WrittenNumbers.{numeral-number}
use Rattle.edf_field.specs.Number.{IsNumber}
use Rattle.edf_field.specs.Text.{IsPrintable, spaces, padded_to}
use Rattle.edf_header.specs.Spelled.{IsPrinted}

digits-printable : (ds : List ℕ) → AllDigits 10 ds → All IsPrintable ds
digits-printable [] all = All-nil IsPrintable
digits-printable (d ∷ ds) all =
    let b = digit_only d all.0 in
    All-cons IsPrintable d ds (record { from = omega arith; to = omega arith })
    (digits-printable ds all.1)

pub spaces-printable : (n : ℕ) → All IsPrintable (spaces n)
spaces-printable n = All-replicate IsPrintable n 32
    (record { from = omega arith; to = omega arith })

-- a text that is filled up
pub padded-printed : (width : ℕ) (text : List ℕ) → length text ≤ width → All IsPrintable text →
    IsPrinted width (padded_to width text)
padded-printed width text fits all = record {
  len = omega (
    arith,
    length-append text (spaces (width - length text)),
    length-replicate {A = ℕ} (width - length text) 32,
  );
  printable = All-append IsPrintable text (spaces (width - length text)) all
      (spaces-printable (width - length text));
}

-- a number without leading zeros in a field that it fits
pub record IsNumberField (width n : ℕ) (text : List ℕ) : Type 0 where
  pub printed : IsPrinted width text
  pub number : IsNumber text n

pub number-field : (width n : ℕ) → 0 < width → n < 10 ^ width → n < 2 ^ 64 →
    IsNumberField width n (padded_to width (decimal n))
number-field width n some fits small =
    let d = decimal_is_IsNumeral n small in
    record {
      printed = padded-printed width (decimal n) (length-decimal-le width n some fits small)
          (digits-printable (decimal n) d.0.1);
      number = numeral-number (decimal n) (width - length (decimal n)) n d.0 d.1;
    }
