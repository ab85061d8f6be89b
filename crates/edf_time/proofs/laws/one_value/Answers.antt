use Rattle.edf_time.proofs.OneValue.{same-parts, one-value}
use Rattle.edf_time.proofs.laws.one_value.Goals as goal

pub returns : goal.returns
returns c = record {
  whole = λ text w f v g p q. (same-parts text w f v g p q).whole;
  fraction = λ text w f v g p q. (same-parts text w f v g p q).fraction;
  value = one-value;
}
