use Rattle.std.proofs.Common.{subst, ℕ, List}
use Rattle.edf_time.specs.Decimal.{IsDecimalFault, IsDecimal, IsFine}
use Rattle.edf_time.specs.declared.decimal.DecimalFault.{DecimalFault}
use Rattle.edf_tal.proofs.Heads.{too-fine}
use Rattle.edf_tal.proofs.scan.capped_seconds.Goals as goal

pub returns-in-Err-TooFine : goal.returns-in-Err-TooFine
returns-in-Err-TooFine c =
    let bad : (whole fraction : List ℕ) × IsDecimal c.args.text.now whole fraction
    × ¬ IsFine fraction =
    subst (λ (f : DecimalFault). IsDecimalFault c.args.text.now f) c.in-Err-TooFine.field-0-is
    c.in-Err-TooFine.ensures in
    λ n s. too-fine c.args.text.now bad.0 bad.1 n bad.2 bad.3 s
