-- What follows `list`, `convert` and `export`: a fixed number of values.
use Rattle.std.proofs.Common.{◌≡◌, ◌∙◌, codes, true, refl, ap, List, [], ◌∷◌}
use Rattle.clap.specs.Walk.{Row, Text, Walk, idle, finished, nothing_held, rows_after, walk, walked}
use Rattle.clap.specs.Faults.{defaults_fault, walk_fault}
use Rattle.clap.specs.declared.error.kind.ErrorKind.TheVariants as kind
use Rattle.edf_command.proofs.Levels.{fault_step, given, leaf_by, leaf_fault, pending, sub}
use Rattle.edf_command.proofs.Values.{at, idle_walks}
use Rattle.edf_command.specs.Arguments.{is_value}

-- `list`

pub list_none : leaf_fault (sub 1) [] ≡ kind.MissingRequiredArgument ∷ []
unfolding walk_fault defaults_fault
list_none = refl

list_walk : (a : Text) → is_value a ≡ true →
    walk (sub 1).rules [] nothing_held (a ∷ []) ≡ at (pending [] (codes "STORE") (a ∷ [])) idle 2
list_walk a v = idle_walks (sub 1).rules nothing_held 1 a v

pub list_one : (a : Text) → is_value a ≡ true → leaf_fault (sub 1) (a ∷ []) ≡ []
unfolding walk_fault defaults_fault
list_one a v = leaf_by (sub 1) (a ∷ []) _ _ (list_walk a v)
    (fault_step (sub 1) nothing_held 1 a [] v)

pub list_rows : (a : Text) → is_value a ≡ true →
    rows_after (sub 1).rules [] (a ∷ []) ≡ given (codes "STORE") (a ∷ []) ∷ []
list_rows a v = ap (λ (w : Walk). finished (sub 1).rules w.held) (list_walk a v)

pub list_many : (a b : Text) (rest : List Text) → is_value a ≡ true → is_value b ≡ true →
    leaf_fault (sub 1) (a ∷ b ∷ rest) ≡ kind.UnknownArgument ∷ []
list_many a b rest v w = leaf_by (sub 1) (a ∷ b ∷ rest) _ _ refl
    (fault_step (sub 1) nothing_held 1 a (b ∷ rest) v
    ∙ fault_step (sub 1) (pending [] (codes "STORE") (a ∷ [])) 2 b rest w)

-- `convert`

pub convert_none : leaf_fault (sub 3) [] ≡ kind.MissingRequiredArgument ∷ []
unfolding walk_fault defaults_fault
convert_none = refl

convert_walk : (a : Text) → is_value a ≡ true →
    walk (sub 3).rules [] nothing_held (a ∷ []) ≡ at (pending [] (codes "FILE") (a ∷ [])) idle 2
convert_walk a v = idle_walks (sub 3).rules nothing_held 1 a v

pub convert_one : (a : Text) → is_value a ≡ true → leaf_fault (sub 3) (a ∷ []) ≡ []
unfolding walk_fault defaults_fault
convert_one a v = leaf_by (sub 3) (a ∷ []) _ _ (convert_walk a v)
    (fault_step (sub 3) nothing_held 1 a [] v)

pub convert_rows : (a : Text) → is_value a ≡ true →
    rows_after (sub 3).rules [] (a ∷ []) ≡ given (codes "FILE") (a ∷ []) ∷ []
convert_rows a v = ap (λ (w : Walk). finished (sub 3).rules w.held) (convert_walk a v)

pub convert_many : (a b : Text) (rest : List Text) → is_value a ≡ true → is_value b ≡ true →
    leaf_fault (sub 3) (a ∷ b ∷ rest) ≡ kind.UnknownArgument ∷ []
convert_many a b rest v w = leaf_by (sub 3) (a ∷ b ∷ rest) _ _ refl
    (fault_step (sub 3) nothing_held 1 a (b ∷ rest) v
    ∙ fault_step (sub 3) (pending [] (codes "FILE") (a ∷ [])) 2 b rest w)

-- `export`

abbrev pub store_row : Text → List Row
store_row a = given (codes "STORE") (a ∷ []) ∷ []

pub export_none : leaf_fault (sub 2) [] ≡ kind.MissingRequiredArgument ∷ []
unfolding walk_fault defaults_fault
export_none = refl

pub export_one : (a : Text) → is_value a ≡ true →
    leaf_fault (sub 2) (a ∷ []) ≡ kind.MissingRequiredArgument ∷ []
unfolding walk_fault defaults_fault
export_one a v = leaf_by (sub 2) (a ∷ []) _ _ (idle_walks (sub 2).rules nothing_held 1 a v)
    (fault_step (sub 2) nothing_held 1 a [] v)

export_walk : (a b : Text) → is_value a ≡ true → is_value b ≡ true →
    walk (sub 2).rules [] nothing_held (a ∷ b ∷ []) ≡ at
    (pending (store_row a) (codes "PLACE") (b ∷ [])) idle 3
export_walk a b v w = ap (λ k. walked (sub 2).rules [] k b)
    (idle_walks (sub 2).rules nothing_held 1 a v)
    ∙ idle_walks (sub 2).rules (pending [] (codes "STORE") (a ∷ [])) 2 b w

pub export_two : (a b : Text) → is_value a ≡ true → is_value b ≡ true →
    leaf_fault (sub 2) (a ∷ b ∷ []) ≡ []
unfolding walk_fault defaults_fault
export_two a b v w = leaf_by (sub 2) (a ∷ b ∷ []) _ _ (export_walk a b v w)
    (fault_step (sub 2) nothing_held 1 a (b ∷ []) v
    ∙ fault_step (sub 2) (pending [] (codes "STORE") (a ∷ [])) 2 b [] w)

pub export_rows : (a b : Text) → is_value a ≡ true → is_value b ≡ true →
    rows_after (sub 2).rules [] (a ∷ b ∷ []) ≡ given (codes "STORE") (a ∷ []) ∷ given
    (codes "PLACE") (b ∷ []) ∷ []
export_rows a b v w = ap (λ (k : Walk). finished (sub 2).rules k.held) (export_walk a b v w)

pub export_many : (a b d : Text) (rest : List Text) → is_value a ≡ true → is_value b ≡ true →
    is_value d ≡ true → leaf_fault (sub 2) (a ∷ b ∷ d ∷ rest) ≡ kind.UnknownArgument ∷ []
export_many a b d rest v w x = leaf_by (sub 2) (a ∷ b ∷ d ∷ rest) _ _ refl
    (fault_step (sub 2) nothing_held 1 a (b ∷ d ∷ rest) v
    ∙ fault_step (sub 2) (pending [] (codes "STORE") (a ∷ [])) 2 b (d ∷ rest) w
    ∙ fault_step (sub 2) (pending (store_row a) (codes "PLACE") (b ∷ [])) 3 d rest x)
