-- What the words ask for is what `clap` finds, and it fails where they ask for nothing.
use Rattle.std.proofs.Common.{◌≡◌, ◌∙◌, ◌≤◌, ◌⊎◌, Bool, codes, true, false, refl, sym, ap, ap₂}
use Rattle.std.proofs.Common.{subst, arith, List, [], ◌∷◌, ◌++◌, length, Some, None, inl, inr}
use Rattle.std.proofs.Common.{is_some, true≢false, append-nil, append_assoc}
use Rattle.std.specs.List.{fold, list_all}
use Rattle.std.specs.Str.{bytes_eq}
use Rattle.std.proofs.lemmas.Slice.Eq.{bytes_eq-Decides}
use Rattle.clap.specs.Lexer.{usize_max}
use Rattle.clap.specs.Walk.{Names, Text, Walk, nothing_held, walk, walk_from, walked}
use Rattle.clap.specs.Kinds.{Kinds, or_else}
use Rattle.clap.specs.Faults.{defaults_fault, fault_of, entered_fault, turn_fault, walk_fault}
use Rattle.clap.specs.Simple.{built, entered, names_of, subcommand_of}
use Rattle.clap.specs.declared.error.kind.ErrorKind.{ErrorKind}
use Rattle.clap.specs.declared.error.kind.ErrorKind.TheVariants as kind
use Rattle.edf_command.specs.Inside.Commands.{edfstore_app}
use Rattle.edf_command.specs.Arguments.{request, begin_with_help, is_value}
use Rattle.edf_cli.specs.Words.{is_mistake}
use Rattle.edf_command.specs.Inside.Matches.{request_of}
use Rattle.edf_command.proofs.Values.{and_left, and_right, is_value_is}
use Rattle.edf_command.proofs.Levels.{level_by, top}
use Rattle.edf_command.proofs.FewValues.{list_none, list_one, list_rows, list_many, convert_none}
use Rattle.edf_command.proofs.FewValues.{convert_one, convert_rows, convert_many, export_none}
use Rattle.edf_command.proofs.FewValues.{export_one, export_two, export_rows, export_many}
use Rattle.edf_command.proofs.ManyValues.{take_none, take_one, take_more, take_rows}

abbrev names : Names
names = names_of (built edfstore_app)

abbrev stopped_at : Text → List Text → Walk
stopped_at name words = record (walk_from nothing_held) { stopped = Some (name, words) }

stopped_walks : (name : Text) (words more : List Text) →
    fold (walked top.rules names) (stopped_at name words) more ≡ stopped_at name (words ++ more)
unfolding walked
stopped_walks name words [] = ap (stopped_at name) (sym (append-nil words))
stopped_walks name words (x ∷ more) = stopped_walks name (words ++ x ∷ []) more
    ∙ ap (stopped_at name) (append_assoc words (x ∷ []) more)

stopped_faults : (name : Text) (words more : List Text) →
    walk_fault top names (stopped_at name words) more ≡ []
unfolding walked walk_fault
stopped_faults name words [] = refl
stopped_faults name words (x ∷ more) = stopped_faults name (words ++ x ∷ []) more

abbrev fault_by : Walk → Kinds → Kinds
fault_by w fault = level_by top (is_some (entered (built edfstore_app) w.stopped))
    (entered_fault (built edfstore_app) w.stopped) w fault

module _ (name : Text) (values : List Text)
    (starts : walked top.rules names (walk_from nothing_held) name ≡ stopped_at name [])
    (passes : turn_fault top names (walk_from nothing_held) name ≡ []) where
  named_walk : walk top.rules names nothing_held (name ∷ values) ≡ stopped_at name values
  named_walk = ap (λ w. fold (walked top.rules names) w values) starts
      ∙ stopped_walks name [] values

  named_faults : walk_fault top names (walk_from nothing_held) (name ∷ values) ≡ []
  unfolding walk_fault
  named_faults = ap₂ or_else passes (ap (λ w. walk_fault top names w values) starts
      ∙ stopped_faults name [] values)

  pub named_fault : fault_of edfstore_app (name ∷ values) ≡ fault_by (stopped_at name values) []
  named_fault = ap₂ fault_by named_walk named_faults

  named_matches : subcommand_of edfstore_app (name ∷ values) ≡ entered (built edfstore_app)
      (Some (name, values))
  named_matches = ap (λ (w : Walk). entered (built edfstore_app) w.stopped) named_walk

-- no fault, and what clap found is what the words ask; or a fault, and they ask nothing: a mistake,
-- where `help` is not the first
abbrev pub IsTold : List Text → Type 0
IsTold words = ((fault_of edfstore_app words ≡ [])
    × (request words ≡ request_of (subcommand_of edfstore_app words)))
    ⊎ ((fault_of edfstore_app words ≡ [] → ⊥) × (request words ≡ None)
    × (begin_with_help words ≡ false → list_all is_mistake (fault_of edfstore_app words) ≡ true))

abbrev is_none : Kinds → Bool
is_none [] = true
is_none (k ∷ ks) = false

some_kind : (k : ErrorKind) (ks xs : Kinds) → xs ≡ k ∷ ks → xs ≡ [] → ⊥
some_kind k ks xs e none = true≢false (ap is_none (sym none ∙ e))

mistaken : (k : ErrorKind) (ks : Kinds) (words : List Text) → fault_of edfstore_app words ≡ k ∷ ks →
    list_all is_mistake (k ∷ ks) ≡ true → request words ≡ None → IsTold words
mistaken k ks words is mistake none =
    inr (some_kind k ks _ is, none, λ _. ap (list_all is_mistake) is ∙ mistake)

list_told : (values : List Text) → list_all is_value values ≡ true → IsTold (codes "list" ∷ values)
unfolding walked defaults_fault
list_told [] v = mistaken _ [] _ (named_fault (codes "list") [] refl refl
    ∙ ap (λ k. or_else k []) list_none) refl refl
list_told (a ∷ []) v = inl (
  named_fault (codes "list") (a ∷ []) refl refl
      ∙ ap (λ k. or_else k []) (list_one a (and_left _ _ v)),
  sym (ap request_of (named_matches (codes "list") (a ∷ []) refl refl
      ∙ ap (λ rows. Some (codes "list", rows)) (list_rows a (and_left _ _ v)))),
)
list_told (a ∷ b ∷ rest) v = mistaken _ [] _ (named_fault (codes "list") (a ∷ b ∷ rest) refl refl
    ∙ ap (λ k. or_else k []) (list_many a b rest (and_left _ _ v) (and_left _ _ (and_right _ _ v))))
    refl refl

convert_told : (values : List Text) → list_all is_value values ≡ true →
    IsTold (codes "convert" ∷ values)
unfolding walked defaults_fault
convert_told [] v = mistaken _ [] _ (named_fault (codes "convert") [] refl refl
    ∙ ap (λ k. or_else k []) convert_none) refl refl
convert_told (a ∷ []) v = inl (
  named_fault (codes "convert") (a ∷ []) refl refl
      ∙ ap (λ k. or_else k []) (convert_one a (and_left _ _ v)),
  sym (ap request_of (named_matches (codes "convert") (a ∷ []) refl refl
      ∙ ap (λ rows. Some (codes "convert", rows)) (convert_rows a (and_left _ _ v)))),
)
convert_told (a ∷ b ∷ rest) v =
    mistaken _ [] _ (named_fault (codes "convert") (a ∷ b ∷ rest) refl refl
    ∙ ap (λ k. or_else k []) (convert_many a b rest (and_left _ _ v)
    (and_left _ _ (and_right _ _ v)))) refl refl

export_told : (values : List Text) → list_all is_value values ≡ true →
    IsTold (codes "export" ∷ values)
unfolding walked defaults_fault
export_told [] v = mistaken _ [] _ (named_fault (codes "export") [] refl refl
    ∙ ap (λ k. or_else k []) export_none) refl refl
export_told (a ∷ []) v = mistaken _ [] _ (named_fault (codes "export") (a ∷ []) refl refl
    ∙ ap (λ k. or_else k []) (export_one a (and_left _ _ v))) refl refl
export_told (a ∷ b ∷ []) v = inl (
  named_fault (codes "export") (a ∷ b ∷ []) refl refl
      ∙ ap (λ k. or_else k []) (export_two a b (and_left _ _ v) (and_left _ _ (and_right _ _ v))),
  sym (ap request_of (named_matches (codes "export") (a ∷ b ∷ []) refl refl
      ∙ ap (λ rows. Some (codes "export", rows))
      (export_rows a b (and_left _ _ v) (and_left _ _ (and_right _ _ v))))),
)
export_told (a ∷ b ∷ d ∷ rest) v =
    mistaken _ [] _ (named_fault (codes "export") (a ∷ b ∷ d ∷ rest) refl refl
    ∙ ap (λ k. or_else k []) (export_many a b d rest (and_left _ _ v)
    (and_left _ _ (and_right _ _ v)) (and_left _ _ (and_right _ _ (and_right _ _ v))))) refl
    refl

take_told : (values : List Text) → list_all is_value values ≡ true → length values ≤ usize_max →
    IsTold (codes "take" ∷ values)
unfolding walked defaults_fault
take_told [] v fits = mistaken _ [] _ (named_fault (codes "take") [] refl refl
    ∙ ap (λ k. or_else k []) take_none) refl refl
take_told (a ∷ []) v fits = mistaken _ [] _ (named_fault (codes "take") (a ∷ []) refl refl
    ∙ ap (λ k. or_else k []) (take_one a (and_left _ _ v))) refl refl
take_told (a ∷ f ∷ more) v fits = inl (
  named_fault (codes "take") (a ∷ f ∷ more) refl refl
      ∙ ap (λ k. or_else k []) (take_more a f more (and_left _ _ v) (and_left _ _ (and_right _ _ v))
      (and_right _ _ (and_right _ _ v)) (omega (arith, fits))),
  sym (ap request_of (named_matches (codes "take") (a ∷ f ∷ more) refl refl
      ∙ ap (λ rows. Some (codes "take", rows))
      (take_rows a f more (and_left _ _ v) (and_left _ _ (and_right _ _ v))
      (and_right _ _ (and_right _ _ v))))),
)

-- a first word that is `help`, or names no command
help_told : (values : List Text) → IsTold (codes "help" ∷ values)
unfolding walked walk_fault defaults_fault
help_told values = inr (
  some_kind kind.DisplayHelp (kind.InvalidSubcommand ∷ []) _ refl,
  refl,
  λ e. absurd (true≢false e),
)

unknown_fails : (name : Text) → is_value name ≡ true → bytes_eq (codes "take") name ≡ false →
    bytes_eq (codes "list") name ≡ false → bytes_eq (codes "export") name ≡ false
    → bytes_eq (codes "convert") name ≡ false → bytes_eq (codes "help") name ≡ false
    → turn_fault top names (walk_from nothing_held)
    name ≡ kind.UnknownArgument ∷ kind.InvalidSubcommand ∷ []
unknown_fails name v t l e c h = let w = is_value_is name v in
    rw (t, l, e, c, h, w.dashes, w.long, w.short) refl

unknown_fault : (name : Text) (values : List Text) →
    turn_fault top names (walk_from nothing_held)
    name ≡ kind.UnknownArgument ∷ kind.InvalidSubcommand ∷ []
    → fault_of edfstore_app (name ∷ values) ≡ kind.UnknownArgument ∷ kind.InvalidSubcommand ∷ []
unfolding walk_fault
unknown_fault name values is =
    ap (λ k. fault_by (walk top.rules names nothing_held (name ∷ values))
    (or_else k (walk_fault top names (walked top.rules names (walk_from nothing_held) name)
    values))) is

differs : (name want : Text) → bytes_eq name want ≡ false → bytes_eq want name ≡ false
differs name want miss = go (bytes_eq want name) refl
  where
    go : (b : Bool) → bytes_eq want name ≡ b → bytes_eq want name ≡ false
    go false e = e
    go true e = absurd
        (true≢false (sym ((bytes_eq-Decides name want).1 (sym ((bytes_eq-Decides want name).0 e)))
        ∙ miss))

-- by what the first word is
module _ (name : Text) (values : List Text) (v : is_value name ≡ true)
    (all : list_all is_value values ≡ true) (fits : length values ≤ usize_max) where
  named : (want : Text) → bytes_eq name want ≡ true → IsTold (want ∷ values) →
      IsTold (name ∷ values)
  named want is told = subst (λ n. IsTold (n ∷ values)) (sym ((bytes_eq-Decides name want).0 is))
      told

  by_help : (b : Bool) → bytes_eq name (codes "help") ≡ b → bytes_eq name (codes "take") ≡ false →
      bytes_eq name (codes "list") ≡ false
      → bytes_eq name (codes "export") ≡ false → bytes_eq name (codes "convert") ≡ false →
      IsTold (name ∷ values)
  by_help true is t l e c = named (codes "help") is (help_told values)
  by_help false miss t l e c = mistaken _ _ _
      (unknown_fault name values (unknown_fails name v (differs name _ t) (differs name _ l)
      (differs name _ e) (differs name _ c) (differs name _ miss)))
      refl
      (rw (t, l, e, c) refl)

  by_convert : (b : Bool) → bytes_eq name (codes "convert") ≡ b →
      bytes_eq name (codes "take") ≡ false → bytes_eq name (codes "list") ≡ false
      → bytes_eq name (codes "export") ≡ false → IsTold (name ∷ values)
  by_convert true is t l e = named (codes "convert") is (convert_told values all)
  by_convert false miss t l e = by_help (bytes_eq name (codes "help")) refl t l e miss

  by_export : (b : Bool) → bytes_eq name (codes "export") ≡ b →
      bytes_eq name (codes "take") ≡ false → bytes_eq name (codes "list") ≡ false →
      IsTold (name ∷ values)
  by_export true is t l = named (codes "export") is (export_told values all)
  by_export false miss t l = by_convert (bytes_eq name (codes "convert")) refl t l miss

  by_list : (b : Bool) → bytes_eq name (codes "list") ≡ b → bytes_eq name (codes "take") ≡ false →
      IsTold (name ∷ values)
  by_list true is t = named (codes "list") is (list_told values all)
  by_list false miss t = by_export (bytes_eq name (codes "export")) refl t miss

  by_take : (b : Bool) → bytes_eq name (codes "take") ≡ b → IsTold (name ∷ values)
  by_take true is = named (codes "take") is (take_told values all fits)
  by_take false miss = by_list (bytes_eq name (codes "list")) refl miss

-- what clap makes of words that are values
pub told : (name : Text) (values : List Text) → list_all is_value (name ∷ values) ≡ true →
    length values ≤ usize_max → IsTold (name ∷ values)
told name values v fits = by_take name values (and_left _ _ v) (and_right _ _ v) fits
    (bytes_eq name (codes "take")) refl
