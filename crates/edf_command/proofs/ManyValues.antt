-- What follows `take`: a store and files.
use Rattle.std.proofs.Common.{◌≡◌, ◌∙◌, ◌≤◌, ℕ, codes, true, false, refl, sym, ap, ap₂, arith, List}
use Rattle.std.proofs.Common.{[], ◌∷◌, ◌++◌, length, append-nil, append_assoc, ne_eqb, le-ltb}
use Rattle.std.specs.List.{fold, list_all}
use Rattle.clap.specs.Lexer.{usize_max}
use Rattle.clap.specs.Walk.{Text, Walk, finished, nothing_held, positional, rows_after, walk}
use Rattle.clap.specs.Walk.{walk_from, walked}
use Rattle.clap.specs.Kinds.{or_else, range_kinds, values_kinds}
use Rattle.clap.specs.declared.builder.value_parser.ValueParser.TheVariants as vp
use Rattle.std.specs.Prelude.{◌==◌, nat_lt}
use Rattle.clap.specs.Faults.{check_fault, defaults_fault, settle_fault, walk_fault}
use Rattle.clap.specs.declared.error.kind.ErrorKind.TheVariants as kind
use Rattle.edf_command.proofs.Levels.{fault_step, given, leaf_by, leaf_fault, more_step}
use Rattle.edf_command.proofs.Levels.{pending, sub}
use Rattle.edf_command.proofs.Values.{at, idle_walks, and_left, and_right, more_walks}
use Rattle.edf_command.proofs.FewValues.{store_row}
use Rattle.edf_command.specs.Arguments.{is_value}

pub take_none : leaf_fault (sub 0) [] ≡ kind.MissingRequiredArgument ∷ []
unfolding walk_fault defaults_fault
take_none = refl

pub take_one : (a : Text) → is_value a ≡ true →
    leaf_fault (sub 0) (a ∷ []) ≡ kind.MissingRequiredArgument ∷ []
unfolding walk_fault defaults_fault
take_one a v = leaf_by (sub 0) (a ∷ []) _ _ (idle_walks (sub 0).rules nothing_held 1 a v)
    (fault_step (sub 0) nothing_held 1 a [] v)

abbrev files_at : Text → List Text → Walk
files_at a files = at (pending (store_row a) (codes "FILE") files) positional 2

files_walk : (a : Text) (files more : List Text) → list_all is_value more ≡ true →
    fold (walked (sub 0).rules []) (files_at a files) more ≡ files_at a (files ++ more)
files_walk a files [] v = ap (files_at a) (sym (append-nil files))
files_walk a files (x ∷ more) v =
    ap (λ k. fold (walked (sub 0).rules []) k more)
    (more_walks (sub 0).rules (pending (store_row a) (codes "FILE") files) 2 x (and_left _ _ v))
    ∙ files_walk a (files ++ x ∷ []) more (and_right _ _ v)
    ∙ ap (files_at a) (append_assoc files (x ∷ []) more)

files_faults : (a : Text) (files more : List Text) → list_all is_value more ≡ true →
    walk_fault (sub 0) [] (files_at a files) more ≡ []
unfolding walk_fault
files_faults a files [] v = refl
files_faults a files (x ∷ more) v =
    more_step (sub 0) (pending (store_row a) (codes "FILE") files) 2 x more (and_left _ _ v)
    ∙ files_faults a (files ++ x ∷ []) more (and_right _ _ v)

take_walk : (a f : Text) (more : List Text) → is_value a ≡ true → is_value f ≡ true →
    list_all is_value more ≡ true
    → walk (sub 0).rules [] nothing_held (a ∷ f ∷ more) ≡ files_at a (f ∷ more)
take_walk a f more v w all =
    ap (λ k. fold (walked (sub 0).rules []) (walked (sub 0).rules [] k f) more)
    (idle_walks (sub 0).rules nothing_held 1 a v)
    ∙ ap (λ k. fold (walked (sub 0).rules []) k more)
    (idle_walks (sub 0).rules (pending [] (codes "STORE") (a ∷ [])) 2 f w)
    ∙ files_walk a (f ∷ []) more all

take_faults : (a f : Text) (more : List Text) → is_value a ≡ true → is_value f ≡ true →
    list_all is_value more ≡ true
    → walk_fault (sub 0) [] (walk_from nothing_held) (a ∷ f ∷ more) ≡ []
take_faults a f more v w all = fault_step (sub 0) nothing_held 1 a (f ∷ more) v
    ∙ fault_step (sub 0) (pending [] (codes "STORE") (a ∷ [])) 2 f more w
    ∙ files_faults a (f ∷ []) more all

-- each text passes as a value
texts_pass : (vs : List Text) → values_kinds false vp.String vs ≡ []
texts_pass [] = refl
texts_pass (v ∷ vs) = texts_pass vs

-- from one value on, as many as a list may have
in_range : (n : ℕ) → 1 ≤ n → n ≤ usize_max → range_kinds 1 usize_max n ≡ []
in_range n least most =
    let some : (n == 0) ≡ false = ne_eqb n 0 (λ e. absurd (omega (arith, e, least))) in
    let few : nat_lt n 1 ≡ false = le-ltb n 1 least in
    let many : nat_lt usize_max n ≡ false = le-ltb usize_max n most in
    rw (some, few, many) refl

-- the files at the end are used
files_used : (a f : Text) (more : List Text) → length (f ∷ more) ≤ usize_max →
    settle_fault (sub 0).rules false (files_at a (f ∷ more)).held ≡ []
files_used a f more fits = ap₂ or_else (in_range (length (f ∷ more)) (omega arith) fits)
    (texts_pass (f ∷ more))

pub take_more : (a f : Text) (more : List Text) → is_value a ≡ true → is_value f ≡ true →
    list_all is_value more ≡ true → length (f ∷ more) ≤ usize_max
    → leaf_fault (sub 0) (a ∷ f ∷ more) ≡ []
unfolding defaults_fault
take_more a f more v w all fits =
    leaf_by (sub 0) (a ∷ f ∷ more) _ _ (take_walk a f more v w all) (take_faults a f more v w all)
    ∙ ap (λ k. or_else k
    (or_else (defaults_fault (given (codes "STORE") (a ∷ []) ∷ given (codes "FILE")
    (f ∷ more) ∷ []) (sub 0).rules)
    (check_fault (sub 0) (given (codes "STORE") (a ∷ []) ∷ given (codes "FILE") (f ∷ more) ∷ [])
    false))) (files_used a f more fits)

pub take_rows : (a f : Text) (more : List Text) → is_value a ≡ true → is_value f ≡ true →
    list_all is_value more ≡ true
    → rows_after (sub 0).rules [] (a ∷ f ∷ more) ≡ given (codes "STORE") (a ∷ []) ∷ given
    (codes "FILE") (f ∷ more) ∷ []
take_rows a f more v w all = ap (λ (k : Walk). finished (sub 0).rules k.held)
    (take_walk a f more v w all)
