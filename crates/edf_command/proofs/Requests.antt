-- What `clap` answers where the words begin with what asks for help or for the version.
use Rattle.std.proofs.Common.{◌≡◌, codes, false, refl, sym, subst, List, [], ◌∷◌, inl, inr}
use Rattle.std.specs.Str.{chars}
use Rattle.clap.specs.Walk.{Text, walked}
use Rattle.clap.specs.Kinds.{Kinds}
use Rattle.clap.specs.Faults.{fault_of, flags_fault, walk_fault}
use Rattle.clap.specs.declared.error.kind.ErrorKind.{ErrorKind}
use Rattle.clap.specs.declared.error.kind.ErrorKind.TheVariants as kind
use Rattle.edf_command.specs.Inside.Commands.{edfstore_app}
use Rattle.edf_cli.specs.Words.{is_mistake}
use Rattle.edf_command.specs.Arguments.{BeginWithHelpOrVersion, IsOneOf, commands, help_flags}
use Rattle.edf_command.proofs.Told.{named_fault}

-- the only kind is one of the two that are asked for
abbrev pub IsRequest : Kinds → Type 0
IsRequest kinds = (k : ErrorKind) × (kinds ≡ k ∷ []) × (is_mistake k ≡ false)

-- ---- the first word

long_help : (rest : List Text) →
    fault_of edfstore_app (codes "--help" ∷ rest) ≡ kind.DisplayHelp ∷ []
unfolding walk_fault
long_help rest = refl

short_help : (rest : List Text) → fault_of edfstore_app (codes "-h" ∷ rest) ≡ kind.DisplayHelp ∷ []
unfolding walk_fault flags_fault chars
short_help rest = refl

long_version : (rest : List Text) →
    fault_of edfstore_app (codes "--version" ∷ rest) ≡ kind.DisplayVersion ∷ []
unfolding walk_fault
long_version rest = refl

short_version : (rest : List Text) →
    fault_of edfstore_app (codes "-V" ∷ rest) ≡ kind.DisplayVersion ∷ []
unfolding walk_fault flags_fault chars
short_version rest = refl

-- ---- the word after a command

abbrev Helps : Text → List Text → Type 0
Helps name words = fault_of edfstore_app (name ∷ words) ≡ kind.DisplayHelp ∷ []

take_helps : (flag : Text) (rest : List Text) → IsOneOf help_flags flag →
    Helps (codes "take") (flag ∷ rest)
unfolding walked walk_fault flags_fault chars
take_helps flag rest (inl e) = subst (λ f. Helps (codes "take") (f ∷ rest)) (sym e)
    (named_fault (codes "take") (codes "--help" ∷ rest) refl refl)
take_helps flag rest (inr (inl e)) =
    subst (λ f. Helps (codes "take") (f ∷ rest)) (sym e)
    (named_fault (codes "take") (codes "-h" ∷ rest) refl refl)
take_helps flag rest (inr (inr none)) = absurd none

list_helps : (flag : Text) (rest : List Text) → IsOneOf help_flags flag →
    Helps (codes "list") (flag ∷ rest)
unfolding walked walk_fault flags_fault chars
list_helps flag rest (inl e) = subst (λ f. Helps (codes "list") (f ∷ rest)) (sym e)
    (named_fault (codes "list") (codes "--help" ∷ rest) refl refl)
list_helps flag rest (inr (inl e)) =
    subst (λ f. Helps (codes "list") (f ∷ rest)) (sym e)
    (named_fault (codes "list") (codes "-h" ∷ rest) refl refl)
list_helps flag rest (inr (inr none)) = absurd none

export_helps : (flag : Text) (rest : List Text) → IsOneOf help_flags flag →
    Helps (codes "export") (flag ∷ rest)
unfolding walked walk_fault flags_fault chars
export_helps flag rest (inl e) =
    subst (λ f. Helps (codes "export") (f ∷ rest)) (sym e)
    (named_fault (codes "export") (codes "--help" ∷ rest) refl refl)
export_helps flag rest (inr (inl e)) =
    subst (λ f. Helps (codes "export") (f ∷ rest)) (sym e)
    (named_fault (codes "export") (codes "-h" ∷ rest) refl refl)
export_helps flag rest (inr (inr none)) = absurd none

convert_helps : (flag : Text) (rest : List Text) → IsOneOf help_flags flag →
    Helps (codes "convert") (flag ∷ rest)
unfolding walked walk_fault flags_fault chars
convert_helps flag rest (inl e) =
    subst (λ f. Helps (codes "convert") (f ∷ rest)) (sym e)
    (named_fault (codes "convert") (codes "--help" ∷ rest) refl refl)
convert_helps flag rest (inr (inl e)) =
    subst (λ f. Helps (codes "convert") (f ∷ rest)) (sym e)
    (named_fault (codes "convert") (codes "-h" ∷ rest) refl refl)
convert_helps flag rest (inr (inr none)) = absurd none

command_helps : (name flag : Text) (rest : List Text) → IsOneOf commands name →
    IsOneOf help_flags flag → Helps name (flag ∷ rest)
command_helps name flag rest (inl e) f =
    subst (λ n. Helps n (flag ∷ rest)) (sym e) (take_helps flag rest f)
command_helps name flag rest (inr (inl e)) f =
    subst (λ n. Helps n (flag ∷ rest)) (sym e) (list_helps flag rest f)
command_helps name flag rest (inr (inr (inl e))) f =
    subst (λ n. Helps n (flag ∷ rest)) (sym e) (export_helps flag rest f)
command_helps name flag rest (inr (inr (inr (inl e)))) f =
    subst (λ n. Helps n (flag ∷ rest)) (sym e) (convert_helps flag rest f)
command_helps name flag rest (inr (inr (inr (inr none)))) f = absurd none

-- words that ask for help or for the version are answered by it
abbrev Answered : List Text → Type 0
Answered words = IsRequest (fault_of edfstore_app words)

pub requested : (words : List Text) → BeginWithHelpOrVersion words → Answered words
requested [] asks = absurd asks
requested (word ∷ rest) (inl (inl e)) =
    subst (λ w. Answered (w ∷ rest)) (sym e) (kind.DisplayHelp, long_help rest, refl)
requested (word ∷ rest) (inl (inr (inl e))) =
    subst (λ w. Answered (w ∷ rest)) (sym e) (kind.DisplayHelp, short_help rest, refl)
requested (word ∷ rest) (inl (inr (inr (inl e)))) =
    subst (λ w. Answered (w ∷ rest)) (sym e) (kind.DisplayVersion, long_version rest, refl)
requested (word ∷ rest) (inl (inr (inr (inr (inl e))))) =
    subst (λ w. Answered (w ∷ rest)) (sym e) (kind.DisplayVersion, short_version rest, refl)
requested (word ∷ rest) (inl (inr (inr (inr (inr none))))) = absurd none
requested (word ∷ []) (inr asks) = absurd asks.1
requested (word ∷ flag ∷ rest) (inr asks) =
    (kind.DisplayHelp, command_helps word flag rest asks.0 asks.1, refl)
