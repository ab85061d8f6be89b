-- Where names lead, and which files are opened.
use Rattle.std.specs.Prelude.{◌≡◌, ◌≢◌, ◌⊎◌, ℕ, Bool, false, ◌==◌, List, [], ◌∷◌, ◌++◌, Option}
use Rattle.std.specs.Prelude.{Some, None, IfSome, option_map, codes, All}
use Rattle.std.specs.List.{slice_split}

-- the parts of a name, which slashes separate
abbrev pub parts_of : List ℕ → List (List ℕ)
parts_of name = slice_split (λ b. b == 47) name

-- it has a byte at least, does not begin with a slash, and none of its parts is `..`
pub record IsBelow (name : List ℕ) : Type 0 where
  pub some : name ≢ []
  pub relative : (rest : List ℕ) → name ≢ 47 ∷ rest
  pub down : All (λ part. part ≢ codes "..") (parts_of name)

-- where there is a folder, the path is that of a name that leads below it
abbrev pub LiesBelow : Option (List ℕ) → List ℕ → Type 0
LiesBelow None path = Unit {0}
LiesBelow (Some folder) path = (name : List ℕ) × IsBelow name × (path ≡ folder ++ (47 ∷ name))

-- what is known of paths: the bytes that one stands for; whether a part of a name below a folder is
-- a link; and those that were opened, in turn
pub record Paths : Type 0 where
  pub bytes : List ℕ → Option (List ℕ)
  pub links : List ℕ → List ℕ → Option Bool
  pub opened : Option (List (List ℕ))

-- after this one was opened too
abbrev pub opens : Paths → List ℕ → Paths
opens paths path = record paths {
  opened = option_map (λ (all : List (List ℕ)). all ++ (path ∷ [])) paths.opened;
}

-- Without a folder a name stands for itself. With one it stands for the path below it, if it leads
-- below it and no part of it is a link; else for nothing. Where links are not known, it may be
-- either.
abbrev pub IsPlace : Paths → Option (List ℕ) → List ℕ → Option (List ℕ) → Type 0
IsPlace paths None name path = path ≡ Some name
IsPlace paths (Some folder) name (Some path) = (IsBelow name × (path ≡ folder ++ (47 ∷ name)))
    × IfSome (paths.links folder name) (λ b. b ≡ false)
IsPlace paths (Some folder) name None = (IsBelow name → ⊥)
    ⊎ (paths.links folder name ≢ Some false)
