-- How often a name was opened.
use Rattle.std.proofs.Common.{◌≡◌, ℕ, ◌+◌, ◌≤◌, List, ◌++◌, replicate, append_assoc, ap, ◌∙◌, arith}
use Rattle.std.proofs.lemmas.List.{replicate-append-replicate}
use Rattle.edf_cli.specs.Opened.{OpensUpTo}

pub exactly : (before after : List (List ℕ)) (name : List ℕ) (n most : ℕ) → n ≤ most →
    after ≡ before ++ replicate n name → OpensUpTo before after name most
exactly before after name n most fits is = record { times = n; few = fits; opened = is }

pub at-most : (before after : List (List ℕ)) (name : List ℕ) (n most : ℕ) → n ≤ most →
    OpensUpTo before after name n → OpensUpTo before after name most
at-most before after name n most fits opens =
    record { times = opens.times; few = omega (arith, fits, opens.few); opened = opens.opened }

pub then-more : (before mid after : List (List ℕ)) (name : List ℕ) (m n most : ℕ) →
    m + n ≤ most → OpensUpTo before mid name m → OpensUpTo mid after name n →
    OpensUpTo before after name most
then-more before mid after name m n most fits first later = record {
  times = first.times + later.times;
  few = omega (arith, fits, first.few, later.few);
  opened = later.opened
      ∙ ap (λ (l : List (List ℕ)). l ++ replicate later.times name) first.opened
      ∙ append_assoc before (replicate first.times name) (replicate later.times name)
      ∙ ap (λ (l : List (List ℕ)). before ++ l)
      (replicate-append-replicate first.times later.times name);
}
