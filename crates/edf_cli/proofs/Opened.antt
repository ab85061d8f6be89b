-- How often a name was opened.
use Rattle.std.proofs.Common.{◌≡◌, ℕ, List, [], ◌∷◌, ◌++◌, arith, replicate}
use Rattle.std.specs.Prelude.{Result, Ok, Err, MatchResult}
use Rattle.edf_cli.specs.Opened.{OpensUpTo}

pub opened-once : (before after : List (List ℕ)) (name : List ℕ) → after ≡ before ++ (name ∷ []) →
    OpensUpTo before after name 1
opened-once before after name is = record { times = 1; few = omega arith; opened = is }

pub opened-either : {T E : Type 0} (r : Result T E) (before after : List (List ℕ))
    (name : List ℕ) → after ≡ before ++ (name ∷ []) →
    MatchResult r (λ _. after ≡ before ++ replicate 1 name)
    (λ _. OpensUpTo before after name 1)
opened-either (Ok x) before after name is = is
opened-either (Err e) before after name is = opened-once before after name is
