use Rattle.edf_fragment.proofs.OneFragment.{one-fragment}
use Rattle.edf_fragment.proofs.laws.one_fragment.Goals as goal

pub returns : goal.returns
returns c = λ b k j rs ss s t. let same = one-fragment b k j rs ss s t in (same.key, same.records)
