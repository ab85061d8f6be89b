-- What an answer of `clap` says of the words.
use Rattle.std.proofs.Common.{◌≡◌, ◌∙◌, ◌≤◌, true, refl, sym, ap, subst, arith, List, [], ◌∷◌}
use Rattle.std.proofs.Common.{length, inl, inr}
use Rattle.clap.specs.Lexer.{usize_max}
use Rattle.std.proofs.Common.{◌<◌}
use Rattle.clap.specs.Words.{HasMatchesOf, kind_of, subcommand_rows_of}
use Rattle.clap.specs.declared.parser.matches.ArgMatches.{ArgMatches}
use Rattle.clap.specs.declared.error.Error.{Error}
use Rattle.clap.specs.Kinds.{HasKind}
use Rattle.clap.specs.Faults.{fault_of, is_simple_and_free}
use Rattle.clap.specs.Simple.{App, subcommand_of}
use Rattle.clap.specs.declared.error.kind.ErrorKind.TheVariants as kind
use Rattle.edf_command.specs.Inside.Commands.{edfstore_app}
use Rattle.std.specs.Global.{Global}
use Rattle.std.specs.Prelude.{Err, String, string_bytes, suc}
use Rattle.std.proofs.lemmas.List.{length-map}
use Rattle.edf_command.specs.Arguments.{AreValues, AskForHelp, AskForNoHelp, WordsParseToNothing}
use Rattle.edf_command.specs.Arguments.{request, texts}
use Rattle.edf_cli.specs.Words.{IsNoUsage}
use Rattle.edf_command.specs.Inside.Matches.{request_of}
use Rattle.edf_command.specs.Inside.Read.{AreWordsRead}
use Rattle.edf_command.proofs.Levels.{simple}
use Rattle.edf_command.proofs.Told.{told}
use Rattle.edf_command.proofs.Requests.{requested}
use Rattle.edf_command.proofs.Values.{and_left, and_right}
use Rattle.edf_cli.specs.Words.{is_mistake}
use Rattle.edf_cli.specs.declared.words.CommandFault.{CommandFault}
use Rattle.edf_cli.specs.declared.words.CommandFault.TheVariants as fault
use Rattle.clap.specs.Kinds.{IsAmong, Kinds}
use Rattle.clap.specs.declared.error.kind.ErrorKind.{ErrorKind}
use Rattle.std.specs.List.{list_all}
use Rattle.std.proofs.Common.{◌⊎◌, Bool, false, true≢false}

-- as many texts as words
few : (values : List (String Global)) → suc (length values) ≤ usize_max →
    length (texts values) ≤ usize_max
few values fits = rw (length-map values string_bytes) (omega (arith, fits))

-- what `clap` matched is what the words ask for
pub matches_asked : (a : App) (words : List (String Global)) (m : ArgMatches) → a ≡ edfstore_app →
    AreValues words → 0 < length words → length words ≤ usize_max
    → (is_simple_and_free a ≡ true → fault_of a (texts words) ≡ []) →
    HasMatchesOf a (texts words) m → request (texts words) ≡ request_of (subcommand_rows_of m)
matches_asked a [] m is v some fits passes has = absurd (omega (arith, some))
matches_asked a (name ∷ values) m is v some fits passes has =
    let none : fault_of edfstore_app (texts (name ∷ values)) ≡ [] =
    subst (λ (x : App). is_simple_and_free x ≡ true → fault_of x (texts (name ∷ values)) ≡ [])
    is passes simple in
    let rows : subcommand_rows_of m ≡ subcommand_of edfstore_app (texts (name ∷ values)) =
    (subst (λ (x : App). HasMatchesOf x (texts (name ∷ values)) m) is has refl).1 in
    elim (told (string_bytes name) (texts values) v (few values fits)) [
      | inl t ↦ t.1 ∙ ap request_of (sym rows)
      | inr t ↦ absurd (t.0 none)
    ]

-- where `clap` fails, and not for memory, the words ask for nothing
pub fails_asked : (a : App) (words : List (String Global)) (e : Error) → a ≡ edfstore_app →
    AreValues words → 0 < length words → length words ≤ usize_max
    → (is_simple_and_free a ≡ true → HasKind (fault_of a (texts words)) e) →
    (kind_of e ≡ kind.OutOfMemory → ⊥) → WordsParseToNothing words
fails_asked a [] e is v some fits fails other = absurd (omega (arith, some))
fails_asked a (name ∷ values) e is v some fits fails other =
    let has : HasKind (fault_of edfstore_app (texts (name ∷ values))) e =
    subst (λ (x : App). is_simple_and_free x ≡ true →
    HasKind (fault_of x (texts (name ∷ values))) e) is fails simple in
    elim (told (string_bytes name) (texts values) v (few values fits)) [
      | inl t ↦ elim (subst (λ k. HasKind k e) t.0 has) [
        | inl oom ↦ absurd (other oom)
        | inr none ↦
            absurd none
      ]
      | inr t ↦ t.1
    ]

-- ---- help against usage

among_mistakes : (k : ErrorKind) (ks : Kinds) → IsAmong k ks → list_all is_mistake ks ≡ true →
    is_mistake k ≡ true
among_mistakes k [] among all = absurd among
among_mistakes k (x ∷ xs) (inl e) all = ap is_mistake e ∙ and_left _ _ all
among_mistakes k (x ∷ xs) (inr more) all = among_mistakes k xs more (and_right _ _ all)

mistake_among : (k : ErrorKind) (ks : Kinds) → (k ≡ kind.OutOfMemory) ⊎ IsAmong k ks →
    list_all is_mistake ks ≡ true → is_mistake k ≡ true
mistake_among k ks (inl oom) all = ap is_mistake oom
mistake_among k ks (inr among) all = among_mistakes k ks among all

-- where `clap` fails at words that ask for no help, it is a mistake
pub fails_mistaken : (a : App) (words : List (String Global)) (e : Error) → a ≡ edfstore_app →
    AskForNoHelp words → 0 < length words → length words ≤ usize_max
    → (is_simple_and_free a ≡ true → HasKind (fault_of a (texts words)) e) →
    is_mistake (kind_of e) ≡ true
fails_mistaken a [] e is v some fits fails = absurd (omega (arith, some))
fails_mistaken a (name ∷ values) e is v some fits fails =
    let has : HasKind (fault_of edfstore_app (texts (name ∷ values))) e =
    subst (λ (x : App). is_simple_and_free x ≡ true →
    HasKind (fault_of x (texts (name ∷ values))) e) is fails simple in
    elim (told (string_bytes name) (texts values) v.0 (few values fits)) [
      | inl t ↦ mistake_among (kind_of e) _ has (ap (list_all is_mistake) t.0)
      | inr t ↦ mistake_among (kind_of e) _ has (t.2 v.1)
    ]

abbrev is_none : Kinds → Bool
is_none [] = true
is_none (k ∷ ks) = false

some_kinds : (k : ErrorKind) → (k ∷ []) ≡ [] → ⊥
some_kinds k e = true≢false (ap is_none (sym e))

-- words that ask for help are no command
pub request_fails : (a : App) (words : List (String Global)) → a ≡ edfstore_app → AskForHelp words →
    (is_simple_and_free a ≡ true → fault_of a (texts words) ≡ []) → ⊥
request_fails a words is asks passes =
    let none : fault_of edfstore_app (texts words) ≡ [] =
    subst (λ (x : App). is_simple_and_free x ≡ true → fault_of x (texts words) ≡ []) is passes
    simple in
    let r = requested (texts words) asks in
    some_kinds r.0 (sym r.1 ∙ none)

one_among : (k x : ErrorKind) → IsAmong k (x ∷ []) → is_mistake x ≡ false → is_mistake k ≡ false
one_among k x (inl e) asks = ap is_mistake e ∙ asks
one_among k x (inr more) asks = absurd more

-- what `clap` answers then is help, or that memory ran out
pub request_answers : (a : App) (words : List (String Global)) (e : Error) (f : CommandFault) →
    a ≡ edfstore_app → AskForHelp words
    → (is_simple_and_free a ≡ true → HasKind (fault_of a (texts words)) e) →
    (kind_of e ≡ kind.OutOfMemory → f ≡ fault.Memory) →
    (is_mistake (kind_of e) ≡ false → IsNoUsage f) → IsNoUsage f
request_answers a words e f is asks fails oom help =
    let r = requested (texts words) asks in
    let has : HasKind (fault_of edfstore_app (texts words)) e =
    subst (λ (x : App). is_simple_and_free x ≡ true → HasKind (fault_of x (texts words)) e) is
    fails simple in
    elim (subst (λ k. HasKind k e) r.1 has) [
      | inl memory ↦ subst IsNoUsage (sym (oom memory)) tt
      | inr one ↦ help (one_among (kind_of e) r.0 one r.2)
    ]

-- no memory, whatever the words
pub lacks_memory : (words : List (String Global)) (f : CommandFault) → f ≡ fault.Memory →
    AreWordsRead words (Err f)
lacks_memory words f is = subst (λ (x : CommandFault). AreWordsRead words (Err x)) (sym is)
    (record {
      reads = λ v. tt;
      refuses = λ v other. absurd (other refl);
      usage = λ v. tt;
      help = λ v. tt;
    })
