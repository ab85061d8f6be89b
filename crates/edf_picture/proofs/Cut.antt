-- The mark of a text that was cut.
use Rattle.std.proofs.Common.{◌≡◌, ℕ, ◌<◌, ◌≤◌, List, [], length, arith, codes}
use Rattle.std.proofs.lemmas.Bool.Decides.{nat_tests}
use Rattle.edf_picture.specs.Markup.{cut_mark}

pub cut-marked : (limit : ℕ) (text : List ℕ) → limit < length text →
    cut_mark limit text ≡ codes "..."
cut-marked limit text h = grind (arith, nat_tests)

pub uncut : (limit : ℕ) (text : List ℕ) → length text ≤ limit → cut_mark limit text ≡ []
uncut limit text h = grind (arith, nat_tests)
