-- A list of submissions: nothing yet, one input more, all of it as one list, and all of it where
-- each answer tells a reply.
use Rattle.std.proofs.Common.{◌≡◌, ℕ, ◌⊎◌, List, [], ◌∷◌, ◌++◌, map, Option, Some, None, Ok, Err}
use Rattle.std.proofs.Common.{refl, sym, ap, subst, ◌∙◌, inl, inr, append_assoc, append-nil, arith}
use Rattle.std.specs.List.{AllByRecursion, AllZip}
use Rattle.std.specs.Io.KnownBytes.{Consumes, IsAtEnd}
use Rattle.sqlite_trees.specs.declared.store.Store.{Ghosts}
use Rattle.sqlite_trees.specs.Tree.{Trees}
use Rattle.sqlite.specs.State.{HasCleanDisk}
use Rattle.sqlite.proofs.StateLemmas.{survives_then, survives_weaker}
use Rattle.edf_fragment.specs.Fragment.{IsFragmentFile}
use Rattle.edf_fragment.specs.Fault.{IsFirstFault}
use Rattle.edf_fragment.specs.Parsed.{Parsed, Fragment, Fault, ParsesTo}
use Rattle.edf_fragment.specs.Whole.{IsFirstFaultIfKnown}
use Rattle.edf_fragment.specs.declared.fault.FragmentFault.{FragmentFault}
use Rattle.edf_fragment.specs.declared.fault.FragmentFault.TheVariants.{Read, Memory, Failed}
use Rattle.edf_fragment.proofs.Parsed.{one-parse}
use Rattle.edf_holdings.specs.Holdings.{Holdings}
use Rattle.edf_holdings.specs.Reply.{Reply, replies, after}
use Rattle.edf_holdings.proofs.Replies.{replies-append}
use Rattle.edf_holdings.proofs.Settled.{after-append}
use Rattle.edf_rows.specs.Rows.{RepresentCommitted}
use Rattle.edf_store.specs.Held.{StoreModel, at, Holds, KeepsHoldings}
use Rattle.edf_store.proofs.Begun.{stays_same}
use Rattle.edf_store.proofs.Held.{others_committed_then}
use Rattle.edf_intake.specs.Refusal.{Cause, OfForm, OfConflict, OfRead, OfMemory, OfStore}
use Rattle.edf_intake.specs.Refusal.{Answer, reply_of, cause}
use Rattle.edf_fragment.specs.Call.{InputState}
use Rattle.edf_intake.specs.Input.{IsFormFault, ReadsAs}
use Rattle.edf_store.specs.declared.fault.StoreFault.{StoreFault}
use Rattle.edf_store.specs.declared.fault.StoreFault.TheVariants.{Store, Foreign}
use Rattle.edf_store.specs.declared.fault.StoreFault.TheVariants.{Memory as NoMemory}
use Rattle.edf_store.specs.declared.fault.StoreFault.TheVariants.{Failed as FailedBefore}
use Rattle.edf_intake.specs.Submitted.{StoreMayRefuse, IsSubmitAnswer}
use Rattle.edf_intake.specs.Submitted.{IsOutsideTransactionAfterSubmit}
use Rattle.edf_intake.specs.Batch.{Turn, some_values, submissions_in, replies_in, IsPossibleReply}
use Rattle.edf_intake.specs.Batch.{IsConsistentTurn, MayHaveCommittedNext, StoreCauseIsPossible}
use Rattle.edf_intake.specs.Batch.{StoreRefusalIsPossible, MayRemainAfterCrash}
use Rattle.edf_intake.specs.Batch.{IsOutsideTransactionAfterLast, SubmitsOne, AreSubmitted}
use Rattle.edf_intake.specs.Batch.{AreSubmittedAsList, OneByOneIsAsList, AnswersAreReplies}
use Rattle.edf_intake.proofs.Turns.{IsMade, told-next, replies-next, map-next, all-next, turn_of}

-- what was no refusal of a clean disk is none later
own-one : {S : Type 0} (g : Ghosts S) (mid new : StoreModel S) →
    (HasCleanDisk (at g new) → HasCleanDisk (at g mid)) → (answer : Answer) →
    StoreRefusalIsPossible g mid answer → StoreRefusalIsPossible g new answer
own-one g mid new was (Ok receipt) own = tt
own-one g mid new was (Err refused) own = of (cause refused) own where
  by : (fault : StoreFault) → StoreMayRefuse g (Unit {0}) mid fault →
      StoreMayRefuse g (Unit {0}) new fault
  by NoMemory own = own
  by (Store (Some error)) own = tt
  by (Store None) own = tt
  by Foreign own = λ clean. own (was clean)
  by FailedBefore own = own

  of : (c : Cause) → StoreCauseIsPossible g mid c → StoreCauseIsPossible g new c
  of (OfForm fault) own = tt
  of (OfConflict conflict) own = tt
  of OfRead own = tt
  of OfMemory own = tt
  of (OfStore fault) own = by fault own

pub own-later : {S : Type 0} (g : Ghosts S) (mid new : StoreModel S) →
    (HasCleanDisk (at g new) → HasCleanDisk (at g mid)) → (answers : List Answer) →
    AllByRecursion (StoreRefusalIsPossible g mid) answers →
    AllByRecursion (StoreRefusalIsPossible g new) answers
own-later g mid new was [] all = tt
own-later g mid new was (a ∷ rest) all =
    (own-one g mid new was a all.0, own-later g mid new was rest all.1)

-- one turn more
after-next : (cap : ℕ) (h : Holdings) (turns : List Turn) (t : Turn) →
    after cap (after cap h (submissions_in turns)) (some_values (t.submission ∷ [])) ≡ after cap h
    (submissions_in (turns ++ t ∷ []))
after-next cap h turns t = sym (ap (after cap h) (told-next turns t)
    ∙ after-append cap h (submissions_in turns) (some_values (t.submission ∷ [])))

unended-more : (cap : ℕ) (h : Holdings) (rest : List Turn) (t : Turn) (rows : Trees) →
    MayHaveCommittedNext cap h rest rows → MayHaveCommittedNext cap h (rest ++ t ∷ []) rows
unended-more cap h [] t rows none = absurd none
unended-more cap h (u ∷ us) t rows it = it

left-more : (cap : ℕ) (h : Holdings) (turns : List Turn) (t : Turn) (rows : Trees) →
    MayRemainAfterCrash cap h turns rows → MayRemainAfterCrash cap h (turns ++ t ∷ []) rows
left-more cap h turns t rows l = record {
  first = l.first;
  rest = l.rest ++ t ∷ [];
  splits = ap (λ (ts : List Turn). ts ++ t ∷ []) l.splits ∙ append_assoc l.first l.rest (t ∷ []);
  stand = elim l.stand [
    | inl kept ↦ inl kept
    | inr unended ↦
        inr (unended-more cap (after cap h (submissions_in l.first)) l.rest t rows unended)
  ];
}

left-last : (cap : ℕ) (h : Holdings) (turns : List Turn) (t : Turn) (rows : Trees)
    → RepresentCommitted cap rows (after cap (after cap h (submissions_in turns))
    (some_values (t.submission ∷ [])))
    ⊎ MayHaveCommittedNext cap (after cap h (submissions_in turns)) (t ∷ []) rows →
    MayRemainAfterCrash cap h (turns ++ t ∷ []) rows
left-last cap h turns t rows (inl kept) = record {
  first = turns ++ t ∷ [];
  rest = [];
  splits = sym (append-nil (turns ++ t ∷ []));
  stand = inl (subst (λ (z : Holdings). RepresentCommitted cap rows z)
      (after-next cap h turns t) kept);
}
left-last cap h turns t rows (inr unended) =
    record { first = turns; rest = t ∷ []; splits = refl; stand = inr unended }

-- the last of the list is the one that was added
pub ended-next : {S : Type 0} (g : Ghosts S) (old new : StoreModel S) (answers : List Answer)
    (last : Answer) → IsOutsideTransactionAfterSubmit g new last →
    IsOutsideTransactionAfterLast g old new (answers ++ last ∷ [])
ended-next g old new [] last ended = ended
ended-next g old new (a ∷ []) last ended = ended
ended-next g old new (a ∷ b ∷ more) last ended = ended-next g old new (b ∷ more) last ended

module _ {S : Type 0} (g : Ghosts S) where
  pub none_submitted : (old : StoreModel S) → KeepsHoldings g old old →
      AreSubmittedAsList g old old [] [] []
  none_submitted old stays = record {
    turns = [];
    froms_are = refl;
    tos_are = refl;
    answers_are = refl;
    each = tt;
    refusals = tt;
    replies_are = λ clean h held. refl;
    holdings = λ h held. held;
    others = stays.others;
    crash = survives_weaker (at g old) (at g old) (λ _. ⊥) _ (λ clean rows none. absurd none)
        stays.crash;
  }

  module _ (old mid new : StoreModel S) (froms tos : List InputState) (answers : List Answer)
      (capped : mid.cap ≡ old.cap) (all : AreSubmittedAsList g old mid froms tos answers) where
    next_turn : (t : Turn) → IsMade g mid new t →
        AreSubmittedAsList g old new (froms ++ t.from ∷ []) (tos ++ t.to ∷ [])
        (answers ++ t.answer ∷ [])
    next_turn t m = record {
      turns = all.turns ++ t ∷ [];
      froms_are = map-next (λ (u : Turn). u.from) all.turns t
          ∙ ap (λ (l : List InputState). l ++ t.from ∷ []) all.froms_are;
      tos_are = map-next (λ (u : Turn). u.to) all.turns t
          ∙ ap (λ (l : List InputState). l ++ t.to ∷ []) all.tos_are;
      answers_are = map-next (λ (u : Turn). u.answer) all.turns t
          ∙ ap (λ (l : List Answer). l ++ t.answer ∷ []) all.answers_are;
      each = all-next IsConsistentTurn all.turns t all.each m.is_turn;
      refusals = all-next (StoreRefusalIsPossible g new) answers t.answer
          (own-later g mid new (λ clean. omega (arith, m.crash.clean)) answers all.refusals) m.own;
      replies_are = λ clean h held.
          let was : HasCleanDisk (at g mid) = omega (arith, m.crash.clean) in
          let first = all.replies_are was h held in
          let one = subst (λ (n : ℕ). some_values (reply_of t.answer ∷ []) ≡ replies n
          (after old.cap h (submissions_in all.turns)) (some_values (t.submission ∷ []))) capped
          (m.replied clean (after old.cap h (submissions_in all.turns)) (all.holdings h held)) in
          replies-next all.turns t
          ∙ (ap (λ (l : List Reply). l ++ some_values (reply_of t.answer ∷ [])) first
          ∙ (ap (λ (l : List Reply). replies old.cap h (submissions_in all.turns) ++ l) one
          ∙ (sym (replies-append old.cap h (submissions_in all.turns)
          (some_values (t.submission ∷ [])))
          ∙ ap (replies old.cap h) (sym (told-next all.turns t)))));
      holdings = λ h held.
          let step = m.holdings (after old.cap h (submissions_in all.turns))
          (all.holdings h held) in
          subst (Holds g new) (ap (λ (n : ℕ). after n (after old.cap h (submissions_in all.turns))
          (some_values (t.submission ∷ []))) capped ∙ after-next old.cap h all.turns t) step;
      others = others_committed_then (at g old) (at g mid) (at g new) all.others m.others;
      crash = survives_then (at g old) (at g mid) (at g new) _ _ _
          (λ clean rows left h held. left-more old.cap h all.turns t rows (left h held))
          (λ clean rows left h held. left-last old.cap h all.turns t rows
          (subst (λ (n : ℕ). RepresentCommitted n rows
          (after n (after old.cap h (submissions_in all.turns)) (some_values (t.submission ∷ [])))
          ⊎ MayHaveCommittedNext n (after old.cap h (submissions_in all.turns))
          (t ∷ []) rows) capped
          (left (after old.cap h (submissions_in all.turns)) (all.holdings h held))))
          all.crash m.crash;
    }

    pub next_submitted : (from to : InputState) (answer : Answer) →
        IsSubmitAnswer g mid new from to answer →
        AreSubmittedAsList g old new (froms ++ from ∷ []) (tos ++ to ∷ []) (answers ++ answer ∷ [])
    next_submitted from to answer is =
        let t = turn_of g mid new from to answer is in
        next_turn (record { from = from; to = to; answer = answer; submission = t.0 }) t.1

-- one call more
pub submitted_next : {S : Type 0} (g : Ghosts S) (old mid new : StoreModel S)
    (froms tos : List InputState) (answers : List Answer) (from to : InputState)
    (answer : Answer) → AreSubmitted g old mid froms tos answers →
    SubmitsOne g mid new from to answer →
    AreSubmitted g old new (froms ++ from ∷ []) (tos ++ to ∷ []) (answers ++ answer ∷ [])
submitted_next {S} g old mid new [] [] [] from to answer same one =
    (new, subst (λ (s : StoreModel S). SubmitsOne g s new from to answer) same one, refl)
submitted_next g old mid new [] [] (r ∷ rs) from to answer none one = absurd none
submitted_next g old mid new [] (t ∷ ts) rs from to answer none one = absurd none
submitted_next g old mid new (f ∷ fs) [] rs from to answer none one = absurd none
submitted_next g old mid new (f ∷ fs) (t ∷ ts) [] from to answer none one = absurd none
submitted_next g old mid new (f ∷ fs) (t ∷ ts) (r ∷ rs) from to answer (first, it, rest) one =
    (first, it, submitted_next g first mid new fs ts rs from to answer rest one)

-- calls in turn, after a list
list_then : {S : Type 0} (g : Ghosts S) (old mid new : StoreModel S)
    (froms tos : List InputState) (answers : List Answer) (fs ts : List InputState)
    (rs : List Answer) → mid.cap ≡ old.cap → AreSubmittedAsList g old mid froms tos answers →
    AreSubmitted g mid new fs ts rs →
    AreSubmittedAsList g old new (froms ++ fs) (tos ++ ts) (answers ++ rs)
list_then {S} g old mid new froms tos answers [] [] [] capped all same =
    subst (λ (l : List InputState). AreSubmittedAsList g old new l (tos ++ []) (answers ++ []))
    (sym (append-nil froms))
    (subst (λ (l : List InputState). AreSubmittedAsList g old new froms l (answers ++ []))
    (sym (append-nil tos))
    (subst (λ (l : List Answer). AreSubmittedAsList g old new froms tos l)
    (sym (append-nil answers))
    (subst (λ (s : StoreModel S). AreSubmittedAsList g old s froms tos answers) (sym same) all)))
list_then g old mid new froms tos answers [] [] (r ∷ rs) capped all none = absurd none
list_then g old mid new froms tos answers [] (t ∷ ts) rs capped all none = absurd none
list_then g old mid new froms tos answers (f ∷ fs) [] rs capped all none = absurd none
list_then g old mid new froms tos answers (f ∷ fs) (t ∷ ts) [] capped all none = absurd none
list_then g old mid new froms tos answers (f ∷ fs) (t ∷ ts) (r ∷ rs) capped all (next, it, rest) =
    let one = next_submitted g old mid next froms tos answers capped all f t r it.submitted in
    let more = list_then g old next new (froms ++ f ∷ []) (tos ++ t ∷ []) (answers ++ r ∷ []) fs ts
    rs ((turn_of g mid next f t r it.submitted).1.cap ∙ capped) one rest in
    subst (λ (l : List InputState). AreSubmittedAsList g old new l (tos ++ t ∷ ts)
    (answers ++ r ∷ rs)) (append_assoc froms (f ∷ []) fs)
    (subst (λ (l : List InputState). AreSubmittedAsList g old new ((froms ++ f ∷ []) ++ fs) l
    (answers ++ r ∷ rs)) (append_assoc tos (t ∷ []) ts)
    (subst (λ (l : List Answer). AreSubmittedAsList g old new ((froms ++ f ∷ []) ++ fs)
    ((tos ++ t ∷ []) ++ ts) l) (append_assoc answers (r ∷ []) rs) more))

pub in_turn : {S : Type 0} (g : Ghosts S) → OneByOneIsAsList g
in_turn g old new froms tos answers all = list_then g old old new [] [] [] froms tos answers refl
    (none_submitted g old (stays_same g old)) all

-- ---- what known bytes tell

first_known : (bytes : List ℕ) (fault : FragmentFault) → IsFormFault fault →
    IsFirstFaultIfKnown (Some bytes) fault → IsFirstFault bytes fault
first_known bytes Read form first = absurd form
first_known bytes Memory form first = absurd form
first_known bytes Failed form first = absurd form
first_known bytes fault form first = first

all_read : (bytes b : List ℕ) (rest : Option (List ℕ)) → Consumes (Some bytes) rest b →
    IsAtEnd rest → b ≡ bytes
all_read bytes b None read end = absurd read
all_read bytes b (Some ys) read end = sym (read ∙ (ap (λ (l : List ℕ). b ++ l) end ∙ append-nil b))

heard_tells : (from to : InputState) (bytes : List ℕ) (told : Parsed) →
    from.remaining ≡ Some bytes → ReadsAs from to told → ParsesTo bytes told
heard_tells from to bytes (Fragment key records) known r =
    let read : Consumes (Some bytes) to.remaining r.bytes =
    subst (λ (o : Option (List ℕ)). Consumes o to.remaining r.bytes) known r.read in
    subst (λ (l : List ℕ). IsFragmentFile l key records)
    (all_read bytes r.bytes to.remaining read r.end)
    r.is_file
heard_tells from to bytes (Fault fault) known r =
    first_known bytes fault r.of_form (subst (λ (o : Option (List ℕ)). IsFirstFaultIfKnown o fault)
    known r.is_fault.first)

abbrev IsKnown : InputState → Parsed → Type 0
IsKnown from told = (bytes : List ℕ) × (from.remaining ≡ Some bytes) × ParsesTo bytes told

same_told : (t : Turn) (x : Parsed) (y : Reply) → IsConsistentTurn t → IsKnown t.from x →
    reply_of t.answer ≡ Some y → t.submission ≡ Some x
same_told t x y is (bytes, known, tells) given = go t.submission refl where
  go : (o : Option Parsed) → t.submission ≡ o → t.submission ≡ Some x
  go (Some told) e =
      let heard : ReadsAs t.from t.to told × IsPossibleReply told y = rw (e, given) at is in
      e ∙ ap (λ (z : Parsed). Some z) (one-parse bytes told x
      (heard_tells t.from t.to bytes told known heard.0) tells)
  go None e = absurd (rw (e, given) at is)

all_told : (turns : List Turn) (tolds : List Parsed) (given : List Reply) →
    AllByRecursion IsConsistentTurn turns → AllZip IsKnown (map (λ (t : Turn). t.from) turns) tolds
    → map reply_of (map (λ (t : Turn). t.answer) turns) ≡ map (λ (r : Reply). Some r) given →
    (submissions_in turns ≡ tolds) × (replies_in turns ≡ given)
all_told [] [] [] each known e = (refl, refl)
all_told [] [] (y ∷ ys) each known e = cc
all_told [] (x ∷ xs) given each known e = absurd known
all_told (t ∷ ts) [] given each known e = absurd known
all_told (t ∷ ts) (x ∷ xs) [] each known e = cc
all_told (t ∷ ts) (x ∷ xs) (y ∷ ys) each known e =
    let first : reply_of t.answer ≡ Some y = cc in
    let rest : map reply_of (map (λ (u : Turn). u.answer) ts) ≡ map (λ (r : Reply). Some r) ys =
    cc in
    let told : t.submission ≡ Some x = same_told t x y each.0 known.0 first in
    let more = all_told ts xs ys each.1 known.1 rest in (
      ap (λ (o : Option Parsed). some_values (o ∷ map (λ (u : Turn). u.submission) ts)) told
          ∙ ap (λ (l : List Parsed). x ∷ l) more.0,
      ap (λ (o : Option Reply). some_values (o ∷ map (λ (u : Turn). reply_of u.answer) ts)) first
          ∙ ap (λ (l : List Reply). y ∷ l) more.1,
    )

pub answers_all : {S : Type 0} (g : Ghosts S) (old new : StoreModel S) (froms tos : List InputState)
    (answers : List Answer) → AreSubmittedAsList g old new froms tos answers →
    AnswersAreReplies g old new froms answers
answers_all g old new froms tos answers all tolds given known e h held =
    let said = all_told all.turns tolds given all.each
    (subst (λ (l : List InputState). AllZip IsKnown l tolds) (sym all.froms_are) known)
    (ap (map reply_of) all.answers_are ∙ e) in (
      (λ clean. sym said.1 ∙ (all.replies_are clean h held ∙ ap (replies old.cap h) said.0)),
      subst (Holds g new) (ap (after old.cap h) said.0) (all.holdings h held),
    )
