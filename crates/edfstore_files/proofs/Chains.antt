-- Runs and sessions, one after another.
use Rattle.std.proofs.Common.{◌≡◌, inl, inr, ℕ, List, [], ◌∷◌, ◌++◌, map, Option, Some, None, Ok}
use Rattle.std.proofs.Common.{Err, refl, sym, ap, subst, ◌∙◌, append_assoc}
use Rattle.std.proofs.lemmas.List.{map-append}
use Rattle.std.proofs.Math.Logic.{∥∥₁_elim, ∥∥₁_map}
use Rattle.std.specs.List.{AllByRecursion}
use Rattle.sqlite_wal.specs.Recovery.{Image}
use Rattle.edf_fragment.specs.Parsed.{Parsed, Fragment, Fault}
use Rattle.edf_holdings.specs.Holdings.{Holdings, IsSound}
use Rattle.edf_holdings.specs.Reply.{Reply, after}
use Rattle.edf_holdings.specs.Laws.{AreWellFormed}
use Rattle.edf_holdings.proofs.Settled.{after-append}
use Rattle.edf_intake.specs.Refusal.{Answer, reply_of}
use Rattle.edf_intake.specs.Input.{ReadsAs}
use Rattle.edf_intake.specs.Batch.{Turn, some_values, submissions_in, AgreesWith, IsConsistentTurn}
use Rattle.edf_intake.specs.declared.answer.Refusal.TheVariants as refusal
use Rattle.edf_intake.proofs.Turns.{told-next, all-next, sound_told}
use Rattle.edf_export.proofs.Headline.{headline}
use Rattle.edfstore_files.specs.Files.{FilesHold}
use Rattle.edfstore_files.specs.Turns.{IsSubmittedPrefix, given_in, PastRun, ended, idle}
use Rattle.edfstore_files.specs.Turns.{interrupted, MaySubmit, LeadsTo, StepsBy, Follow}
use Rattle.edfstore_files.specs.Turns.{AreSubmittedBy, HeadlineAfterRuns}

-- ---- what turns told is sound

sound_append : (xs ys : List Parsed) → AreWellFormed xs → AreWellFormed ys →
    AreWellFormed (xs ++ ys)
sound_append [] ys one two = two
sound_append (x ∷ xs) ys one two = (one.0, sound_append xs ys one.1 two)

sound_turn : (t : Turn) (told : Option Parsed) (r : Option Reply) → AgreesWith t told r →
    AreWellFormed (some_values (told ∷ []))
sound_turn t (Some x) (Some answer) h = (sound_told t.from t.to x h.0, tt)
sound_turn t (Some x) None h = absurd h
sound_turn t None r h = tt

pub somes_first : (o : Option Parsed) (os : List (Option Parsed)) →
    some_values (o ∷ os) ≡ some_values (o ∷ []) ++ some_values os
somes_first (Some x) os = refl
somes_first None os = refl

pub sound_turns : (turns : List Turn) → AllByRecursion IsConsistentTurn turns →
    AreWellFormed (submissions_in turns)
sound_turns [] all = tt
sound_turns (t ∷ ts) all =
    subst AreWellFormed (sym (somes_first t.submission (map (λ (u : Turn). u.submission) ts)))
    (sound_append _ (submissions_in ts) (sound_turn t t.submission (reply_of t.answer) all.0)
    (sound_turns ts all.1))

sound_may : (cap : ℕ) (run : PastRun) (h : Holdings) (tolds : List Parsed) →
    MaySubmit cap run h tolds → AreWellFormed tolds
sound_may cap (ended turns) h tolds it = subst AreWellFormed (sym it.1) (sound_turns turns it.0)
sound_may cap idle h tolds it = subst AreWellFormed (sym it) tt
sound_may cap (interrupted given) h tolds (turns, rest, gave, each, are) =
    subst AreWellFormed (sym are) (sound_turns turns each)

-- ---- what is left by all of them

record Followed (cap : ℕ) (runs : List PastRun) (h : Holdings) (end : Image) : Type 0 where
  submissions : List Parsed
  submitted : AreSubmittedBy cap h runs submissions
  sound : AreWellFormed submissions
  holds : FilesHold cap end (after cap h submissions)

followed : (cap : ℕ) (runs : List PastRun) (h : Holdings) (start end : Image) →
    Follow cap runs start end → FilesHold cap start h → ∥ Followed cap runs h end ∥₁
followed cap [] h start end same keep = ∣ record {
  submissions = [];
  submitted = refl;
  sound = tt;
  holds = subst (λ (i : Image). FilesHold cap i h) same keep;
} ∣₁
followed cap (run ∷ later) h start end it keep =
    ∥∥₁_elim (it.1 h keep) squash₁ (λ (tolds, may, kept).
    ∥∥₁_map (followed cap later (after cap h tolds) it.0 end it.2 kept) (λ more.
    let r : Followed cap (run ∷ later) h end = record {
      submissions = tolds ++ more.submissions;
      submitted = (tolds, more.submissions, may, refl, more.submitted);
      sound = sound_append tolds more.submissions (sound_may cap run h tolds may) more.sound;
      holds = subst (FilesHold cap end)
          (sym (after-append cap h tolds more.submissions)) more.holds;
    } in r))

pub result : (cap : ℕ) (runs : List PastRun) (h : Holdings) (start end : Image) → IsSound cap h →
    FilesHold cap start h → Follow cap runs start end → ∥ HeadlineAfterRuns cap runs h end ∥₁
result cap runs h start end sound keep follow =
    ∥∥₁_map (followed cap runs h start end follow keep) (λ it.
    let r : HeadlineAfterRuns cap runs h end = record {
      submissions = it.submissions;
      submitted = it.submitted;
      sound = it.sound;
      holds = it.holds;
      headline = headline cap h it.submissions sound it.sound;
    } in r)

-- ---- a run that was let go unclosed was broken off

-- an answer that tells a reply to this
abbrev answer_to : Parsed → Answer
answer_to (Fragment key records) = Ok (record { identity = key; new = 0; known = 0 })
answer_to (Fault fault) = Err (refusal.Form fault)

-- the same turn, as if it had been answered
abbrev answered : Turn → Parsed → Turn
answered t told = record {
  from = t.from;
  to = t.to;
  answer = answer_to told;
  submission = Some told;
}

answered_turn : (t : Turn) (told : Parsed) → ReadsAs t.from t.to told →
    IsConsistentTurn (answered t told)
answered_turn t (Fragment key records) heard = (heard, refl)
answered_turn t (Fault fault) heard = (heard, refl)

first_turns : (xs ys : List Turn) → AllByRecursion IsConsistentTurn (xs ++ ys) →
    AllByRecursion IsConsistentTurn xs
first_turns [] ys all = tt
first_turns (x ∷ xs) ys all = (all.0, first_turns xs ys all.1)

with_next : (cap : ℕ) (h : Holdings) (given rest : List (Option (List ℕ))) (first : List Turn)
    (t : Turn) (later : List Turn) (told : Parsed) (tolds : List Parsed) →
    AllByRecursion IsConsistentTurn first → given ≡ given_in (first ++ t ∷ later) ++ rest →
    ReadsAs t.from t.to told → tolds ≡ submissions_in first ++ told ∷ [] →
    MaySubmit cap (interrupted given) h tolds
with_next cap h given rest first t later told tolds each gave heard are =
    let last = answered t told in
    let same : given_in (first ++ t ∷ later) ≡ given_in (first ++ last ∷ []) ++ given_in later =
    map-append (λ (u : Turn). u.from.remaining) first (t ∷ later)
    ∙ sym (append_assoc (given_in first) (t.from.remaining ∷ []) (given_in later))
    ∙ ap (λ (l : List (Option (List ℕ))). l ++ given_in later)
    (sym (map-append (λ (u : Turn). u.from.remaining) first (last ∷ []))) in (
      first ++ last ∷ [],
      given_in later ++ rest,
      gave ∙ ap (λ (l : List (Option (List ℕ))). l ++ rest) same
          ∙ append_assoc (given_in (first ++ last ∷ [])) (given_in later) rest,
      all-next IsConsistentTurn first last each (answered_turn t told heard),
      are ∙ sym (told-next first last),
    )

front_may : (cap : ℕ) (h : Holdings) (given rest : List (Option (List ℕ))) (turns : List Turn)
    (tolds : List Parsed) → AllByRecursion IsConsistentTurn turns → given ≡ given_in turns ++ rest →
    IsSubmittedPrefix turns tolds → MaySubmit cap (interrupted given) h tolds
front_may cap h given rest turns tolds all gave it =
    let each = first_turns it.first it.rest
    (subst (AllByRecursion IsConsistentTurn) it.splits all) in
    let gave' : given ≡ given_in (it.first ++ it.rest) ++ rest = gave
    ∙ ap (λ (ts : List Turn). given_in ts ++ rest) it.splits in
    elim it.are [
      | inl told ↦ (
        it.first,
        given_in it.rest ++ rest,
        gave' ∙ ap (λ (l : List (Option (List ℕ))). l ++ rest)
            (map-append (λ (u : Turn). u.from.remaining) it.first it.rest)
            ∙ append_assoc (given_in it.first) (given_in it.rest) rest,
        each,
        told,
      )
      | inr next ↦ with_next cap h given rest it.first next.0 next.1 next.2 tolds each
          (gave' ∙ ap (λ (ts : List Turn). given_in (it.first ++ ts) ++ rest) next.3) next.5 next.6
    ]

pub unclosed : (cap : ℕ) (turns : List Turn) (given rest : List (Option (List ℕ)))
    (start end : Image) → AllByRecursion IsConsistentTurn turns → given ≡ given_in turns ++ rest →
    LeadsTo cap (λ h. IsSubmittedPrefix turns) start end → StepsBy cap (interrupted given) start end
unclosed cap turns given rest start end all gave it h keep =
    ∥∥₁_map (it h keep) (λ (tolds, front, kept).
    let r : (ts : List Parsed) × MaySubmit cap (interrupted given) h ts
    × FilesHold cap end (after cap h ts) = (
      tolds,
      front_may cap h given rest turns tolds all gave front,
      kept,
    ) in r)
