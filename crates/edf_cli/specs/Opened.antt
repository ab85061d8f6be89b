-- Names that were opened.
use Rattle.std.specs.Prelude.{◌≡◌, ℕ, ◌≤◌, List, ◌++◌, replicate}

-- one name was opened again and again, at most `most` times
pub record OpensUpTo (before after : List (List ℕ)) (name : List ℕ) (most : ℕ) : Type 0 where
  pub times : ℕ
  pub few : times ≤ most
  pub opened : after ≡ before ++ replicate times name
