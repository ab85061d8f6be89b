-- The lines of a session, answered one after another, and its end.
use Rattle.std.proofs.Common.{◌≡◌, ◌∙◌, ℕ, ◌+◌, List, [], ◌∷◌, ◌++◌, length, map, Option, Some}
use Rattle.std.proofs.Common.{None, refl, sym, ap, subst, inl, inr, append_assoc, arith}
use Rattle.std.proofs.lemmas.List.{append-nil}
use Rattle.std.specs.List.{AllByRecursion}
use Rattle.std.specs.Option.{option_map, option_to_list}
use Rattle.sqlite_trees.specs.declared.store.Store.{Ghosts}
use Rattle.edf_store.specs.Held.{StoreModel, KeepsHoldings}
use Rattle.edf_store.proofs.Begun.{stays_same}
use Rattle.edf_intake.proofs.Batches.{none_submitted}
use Rattle.edf_intake.proofs.Turns.{map-next}
use Rattle.edf_serve.specs.Exchange.{Exchange, IsAnswered}
use Rattle.edf_serve.specs.Files.{Paths, opens, LiesBelow}
use Rattle.edf_serve.specs.Session.{Moment, IsExchange, AreExchanges, IsStep, IsWholeSession}
use Rattle.edf_serve.specs.Session.{AreSubmittedInTurn, IsSession, submissions, status_at}
use Rattle.edf_serve.specs.Work.{Point, Submission}
use Rattle.edf_serve.specs.declared.answering.End.{End}
use Rattle.edf_serve.specs.declared.answering.End.TheVariants as end
use Rattle.edf_serve.specs.declared.room.Outcome.{Outcome}
use Rattle.edf_serve.specs.declared.room.Outcome.TheVariants as outcome
use Rattle.edf_serve.proofs.Orderly.{IsOrderly, orderly}
use Rattle.edf_serve.proofs.Submitting.{stays-in_turn, more-in_turn}

-- after these were opened too
abbrev opened-with : Paths → List (List ℕ) → Paths
opened-with paths more = record paths {
  opened = option_map (λ (before : List (List ℕ)). before ++ more) paths.opened;
}

nothing-opened : (paths : Paths) → paths ≡ opened-with paths []
nothing-opened paths = ap (λ (o : Option (List (List ℕ))). record paths { opened = o })
    (by paths.opened)
  where
    by : (o : Option (List (List ℕ))) →
        o ≡ option_map (λ (before : List (List ℕ)). before ++ []) o
    by None = refl
    by (Some all) = ap (λ (l : List (List ℕ)). Some l) (sym (append-nil all))

one-opened : (paths : Paths) (more : List (List ℕ)) (path : List ℕ) →
    opens (opened-with paths more) path ≡ opened-with paths (more ++ (path ∷ []))
one-opened paths more path = ap (λ (o : Option (List (List ℕ))). record paths { opened = o })
    (by paths.opened)
  where
    by : (o : Option (List (List ℕ))) → option_map (λ (all : List (List ℕ)). all ++ (path ∷ []))
        (option_map (λ (before : List (List ℕ)). before ++ more) o)
        ≡ option_map (λ (before : List (List ℕ)). before ++ (more ++ (path ∷ []))) o
    by None = refl
    by (Some all) = ap (λ (l : List (List ℕ)). Some l) (append_assoc all more (path ∷ []))

all-append : {A : Type 0} (P : A → Type 0) (xs ys : List A) → AllByRecursion P xs →
    AllByRecursion P ys → AllByRecursion P (xs ++ ys)
all-append P [] ys a b = b
all-append P (x ∷ xs) ys a b = (a.0, all-append P xs ys a.1 b)

module _ {S : Type 0} (g : Ghosts S) (folder : Option (List ℕ)) (a : Point S) where
  -- what was submitted since `a`
  pub record Took (b : Point S) (all : List Submission) : Type 0 where
    pub submitted : AreSubmittedInTurn g a.store b.store all
    pub opened : b.paths ≡ opened-with a.paths (map (λ (s : Submission). s.path) all)
    pub given : AllByRecursion (λ (s : Submission). (s.from.remaining ≡ a.paths.bytes s.path)
        × LiesBelow folder s.path) all

  took-same : (b c : Point S) (all : List Submission) → Took b all → c.store ≡ b.store →
      c.paths ≡ b.paths → Took c all
  took-same b c all took same paths = record {
    submitted = subst (λ (s : StoreModel S). AreSubmittedInTurn g a.store s all) (sym same)
        took.submitted;
    opened = paths ∙ took.opened;
    given = took.given;
  }

  took-none : (b c : Point S) (all : List Submission) → Took b all →
      KeepsHoldings g b.store c.store →
      c.paths ≡ b.paths → Took c all
  took-none b c all took stays paths = record {
    submitted = stays-in_turn g a.store b.store c.store all took.submitted stays;
    opened = paths ∙ took.opened;
    given = took.given;
  }

  took-more : (b c : Point S) (all : List Submission) (s : Submission) → Took b all →
      AreSubmittedInTurn g a.store c.store (all ++ (s ∷ [])) →
      s.from.remaining ≡ b.paths.bytes s.path → LiesBelow folder s.path →
      c.paths ≡ opens b.paths s.path → Took c (all ++ (s ∷ []))
  took-more b c all s took submitted given below paths = record {
    submitted = submitted;
    opened = paths ∙ (ap (λ (p : Paths). opens p s.path) took.opened
        ∙ (one-opened a.paths (map (λ (s : Submission). s.path) all) s.path
        ∙ ap (opened-with a.paths) (sym (map-next (λ (s : Submission). s.path) all s))));
    given = all-append (λ (s : Submission). (s.from.remaining ≡ a.paths.bytes s.path)
        × LiesBelow folder s.path) all (s ∷ []) took.given
        ((given ∙ ap (λ (p : Paths). p.bytes s.path) took.opened, below), tt);
  }

module _ {S : Type 0} (g : Ghosts S) (folder : Option (List ℕ)) where
  -- the answer left the store and the paths as the work did
  answer-same : (x : Exchange S) (b : Point S) (o : Outcome) → IsAnswered g x b o →
      (b.store ≡ x.work.new.store) × (b.paths ≡ x.work.new.paths)
  answer-same x b (outcome.Told told is_stopped) t =
      (ap (λ (p : Point S). p.store) t.same, ap (λ (p : Point S). p.paths) t.same)
  answer-same x b (outcome.Accepted name receipt) (inl t) =
      (ap (λ (p : Point S). p.store) t.same, ap (λ (p : Point S). p.paths) t.same)
  answer-same x b (outcome.Accepted name receipt) (inr t) =
      (ap (λ (p : Point S). p.store) t.same, ap (λ (p : Point S). p.paths) t.same)

  -- one exchange, by what any command does
  worked : (a : Point S) (x : Exchange S) (all : List Submission) →
      Took g folder a x.work.old all → x.work.new.store.cap ≡ x.work.old.store.cap →
      IsOrderly g folder x.work →
      Took g folder a x.work.new (all ++ option_to_list x.work.submission)
  worked a x all took cap (inl none) = subst (λ (o : Option Submission).
      Took g folder a x.work.new (all ++ option_to_list o)) (sym none.none)
      (subst (Took g folder a x.work.new) (sym (append-nil all))
      (took-none g folder a x.work.old x.work.new all took none.stays none.paths))
  worked a x all took cap (inr one) = subst (λ (o : Option Submission).
      Took g folder a x.work.new (all ++ option_to_list o)) (sym one.is_it)
      (took-more g folder a x.work.old x.work.new all one.it took
      (more-in_turn g a.store x.work.old.store x.work.new.store all one.it cap took.submitted
      one.submitted) one.given one.below one.paths)

  -- the answers so far
  pub record SoFar (a b : Moment S) (count : ℕ) : Type 0 where
    pub all : List (Exchange S)
    pub answered : AreExchanges g folder a all b
    pub counted : length all ≡ count
    pub took : Took g folder a.at b.at (submissions all)

  module _ (a b c : Moment S) (count : ℕ) (so : SoFar a b count) where
    took-next : (x : Exchange S) → IsExchange g folder b c x →
        Took g folder a.at c.at (submissions (x ∷ so.all))
    took-next x is =
        let w = x.work in
        let begins = ap (λ (p : Point S). p.store) is.served.begins in
        let found = took-same g folder a.at b.at w.old (submissions so.all) so.took begins
        (ap (λ (p : Point S). p.paths) is.served.begins) in
        let left = answer-same x is.point w.outcome is.served.answered in
        let cap : w.new.store.cap ≡ w.old.store.cap =
        sym (ap (λ (s : StoreModel S). s.cap) left.0)
        ∙ (is.served.cap ∙ sym (ap (λ (s : StoreModel S). s.cap) begins)) in
        let all = submissions so.all ++ option_to_list w.submission in
        let did = worked a.at x (submissions so.all) found cap
        (orderly g folder w x.asked is.served.worked) in
        let told = took-same g folder a.at w.new is.point all did left.0 left.1 in
        took-same g folder a.at is.point c.at all told
        (ap (λ (p : Point S). p.store) is.worst) (ap (λ (p : Point S). p.paths) is.worst)

    -- the end of a session whose last answer or none came so
    whole : (d : Moment S) (why : End) (all : List (Exchange S)) →
        d ≡ record c { at = record c.at { worst = status_at why c.at.worst } } →
        Took g folder a.at c.at (submissions all) → IsSession g folder a d all why →
        IsWholeSession g folder a d why
    whole d why all status took session =
        let point = ap (λ (m : Moment S). m.at) status in
        let now = took-same g folder a.at c.at d.at (submissions all) took
        (ap (λ (p : Point S). p.store) point) (ap (λ (p : Point S). p.paths) point) in
        record {
          all = all;
          session = session;
          submitted = now.submitted;
          opened = now.opened;
          given = now.given;
        }

    ends-with : (d : Moment S) (why : End) (x : Option (Exchange S)) →
        IsStep g folder b c x (Some why) →
        d ≡ record c { at = record c.at { worst = status_at why c.at.worst } } →
        IsWholeSession g folder a d why
    ends-with d why (Some x) step status = whole d why (x ∷ so.all) status (took-next x step.0)
        (record {
          mid = b;
          before = so.all;
          answered = so.answered;
          last = c;
          ends = inl (Some x, step, refl);
          status = status;
        })
    ends-with d why None step status = whole d why so.all status
        (took-same g folder a.at b.at c.at (submissions so.all) so.took
        (ap (λ (p : Point S). p.store) step.3) (ap (λ (p : Point S). p.paths) step.3)) (record {
          mid = b;
          before = so.all;
          answered = so.answered;
          last = c;
          ends = inl (None, step, refl);
          status = status;
        })

    pub step-ends : (d : Moment S) (result : Option End) (why : End) → result ≡ Some why →
        ((x : Option (Exchange S)) × IsStep g folder b c x result) →
        d ≡ record c { at = record c.at { worst = status_at why c.at.worst } } →
        IsWholeSession g folder a d why
    step-ends d result why e step status =
        ends-with d why step.0 (subst (IsStep g folder b c step.0) e step.1) status

    -- it goes on
    goes-on : (x : Option (Exchange S)) → IsStep g folder b c x None → SoFar a c (count + 1)
    goes-on (Some x) step = record {
      all = x ∷ so.all;
      answered = (b, so.answered, step);
      counted = omega (arith, so.counted);
      took = took-next x step.0;
    }
    goes-on None step = absurd (let one = step.1 in cc)

    pub step-goes_on : (result : Option End) → result ≡ None →
        ((x : Option (Exchange S)) × IsStep g folder b c x result) → SoFar a c (count + 1)
    step-goes_on result e step = goes-on step.0 (subst (IsStep g folder b c step.0) e step.1)

  -- as many lines as can be counted
  pub all-counted : (a b : Moment S) (count : ℕ) (so : SoFar a b count) →
      count ≡ 18446744073709551615 →
      IsWholeSession g folder a (record b {
        at = record b.at { worst = status_at end.Stopped b.at.worst };
      }) end.Stopped
  all-counted a b count so all = record {
    all = so.all;
    session = record {
      mid = b;
      before = so.all;
      answered = so.answered;
      last = b;
      ends = inr (refl, refl, refl, so.counted ∙ all);
      status = refl;
    };
    submitted = so.took.submitted;
    opened = so.took.opened;
    given = so.took.given;
  }

  -- no line yet
  pub none-yet : (a : Moment S) → SoFar a a 0
  none-yet a = record {
    all = [];
    answered = refl;
    counted = refl;
    took = record {
      submitted = record {
        cap = refl;
        submitted = none_submitted g a.at.store (stays_same g a.at.store);
      };
      opened = nothing-opened a.at.paths;
      given = tt;
    };
  }
