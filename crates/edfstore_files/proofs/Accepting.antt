-- What turns told as accepted is held.
use Rattle.std.proofs.Common.{◌≡◌, inl, inr, ℕ, List, [], ◌∷◌, ◌++◌, map, Option, Some, None, Ok}
use Rattle.std.proofs.Common.{Contains, refl, sym, ap, subst, ◌∙◌}
use Rattle.std.proofs.lemmas.List.{map-append}
use Rattle.std.proofs.Math.Logic.{∥∥₁_map}
use Rattle.std.specs.List.{AllByRecursion}
use Rattle.sqlite_wal.specs.Recovery.{Image}
use Rattle.sqlite.specs.Effect.{Database}
use Rattle.edf_header.specs.Key.{Key}
use Rattle.edf_fragment.specs.Fragment.{DataRecord}
use Rattle.edf_fragment.specs.Parsed.{Parsed, Fragment, Fault}
use Rattle.edf_holdings.specs.Holdings.{Holdings, IsSound}
use Rattle.edf_holdings.specs.Reply.{Reply, Accepted, IsAccepted, reply, replies, after}
use Rattle.edf_holdings.proofs.Accepted.{after_has_accepted}
use Rattle.edf_holdings.proofs.Added.{nothing_is_sound}
use Rattle.edf_holdings.proofs.Settled.{after-append}
use Rattle.edf_intake.specs.Refusal.{reply_of}
use Rattle.edf_intake.specs.Batch.{Turn, IsConsistentTurn, some_values, submissions_in, replies_in}
use Rattle.edf_intake.specs.Batch.{AgreesWith, IsPossibleReply}
use Rattle.edf_intake.specs.declared.answer.Receipt.{Receipt}
use Rattle.edfstore_files.specs.Files.{DatabaseHolds, no_table, one_table, both_tables, FilesHold}
use Rattle.edfstore_files.specs.Turns.{ended, StepsBy}
use Rattle.edfstore_files.proofs.Chains.{somes_first, sound_turns}
use Rattle.edf_intake.proofs.Turns.{somes-append}

-- ---- the reply to a turn that was accepted

abbrev tolds_of : List Turn → List (Option Parsed)
tolds_of ts = map (λ (t : Turn). t.submission) ts

abbrev replies_of : List Turn → List (Option Reply)
replies_of ts = map (λ (t : Turn). reply_of t.answer) ts

record Met (cap : ℕ) (h : Holdings) (o : Option Parsed) (key : Key) (new known : ℕ) : Type 0 where
  records : List DataRecord
  submission : o ≡ Some (Fragment key records)
  replied : reply cap h (Fragment key records) ≡ Accepted key new known

same_told : (o : Option Parsed) (k key : Key) (records : List DataRecord) → k ≡ key →
    o ≡ Some (Fragment k records) → o ≡ Some (Fragment key records)
same_told o k key records is told = told ∙ ap (λ (q : Key). Some (Fragment q records)) is

met_first : (cap : ℕ) (h : Holdings) (t : Turn) (o : Option Parsed) (p : Option Reply) (key : Key)
    (new known : ℕ) (os : List (Option Parsed)) (ps : List (Option Reply)) → AgreesWith t o p →
    p ≡ Some (Accepted key new known) →
    some_values (p ∷ ps) ≡ replies cap h (some_values (o ∷ os)) → Met cap h o key new known
met_first cap h t (Some (Fragment k records)) (Some answer) key new known os ps goes is same =
    let answered : answer ≡ Accepted key new known = cc in
    let head : answer ≡ reply cap h (Fragment k records) = cc in
    let named : key ≡ k = subst (IsPossibleReply (Fragment k records)) answered goes.1 in record {
      records = records;
      submission = same_told (Some (Fragment k records)) k key records (sym named) refl;
      replied = ap (λ (q : Key). reply cap h (Fragment q records)) named ∙ sym head ∙ answered;
    }
met_first cap h t (Some (Fault fault)) (Some answer) key new known os ps goes is same =
    let answered : answer ≡ Accepted key new known = cc in
    absurd (let e = sym answered ∙ goes.1 in cc)
met_first cap h t (Some told) None key new known os ps goes is same = absurd goes
met_first cap h t None (Some answer) key new known os ps goes is same = absurd goes
met_first cap h t None None key new known os ps goes is same = absurd (cc)

past_first : (cap : ℕ) (h : Holdings) (t : Turn) (o : Option Parsed) (p : Option Reply)
    (os : List (Option Parsed)) (ps : List (Option Reply)) → AgreesWith t o p →
    some_values (p ∷ ps) ≡ replies cap h (some_values (o ∷ os)) →
    some_values ps ≡ replies cap (after cap h (some_values (o ∷ []))) (some_values os)
past_first cap h t (Some told) (Some answer) os ps goes same = cc
past_first cap h t (Some told) None os ps goes same = absurd goes
past_first cap h t None (Some answer) os ps goes same = absurd goes
past_first cap h t None None os ps goes same = same

met_at : (cap : ℕ) (h : Holdings) (before behind : List Turn) (t : Turn) (key : Key)
    (new known : ℕ) → AllByRecursion IsConsistentTurn (before ++ t ∷ behind) →
    some_values (replies_of (before ++ t ∷ behind))
    ≡ replies cap h (some_values (tolds_of (before ++ t ∷ behind))) →
    reply_of t.answer ≡ Some (Accepted key new known) →
    Met cap (after cap h (some_values (tolds_of before))) t.submission key new known
met_at cap h [] behind t key new known all same is =
    met_first cap h t t.submission (reply_of t.answer) key new known (tolds_of behind)
    (replies_of behind) all.0 is same
met_at cap h (b ∷ bs) behind t key new known all same is =
    let next = past_first cap h b b.submission (reply_of b.answer) (tolds_of (bs ++ t ∷ behind))
    (replies_of (bs ++ t ∷ behind)) all.0 same in
    let later = met_at cap (after cap h (some_values (b.submission ∷ []))) bs behind t key new known
    all.1 next is in
    subst (λ (k : Holdings). Met cap k t.submission key new known)
    (sym (after-append cap h (some_values (b.submission ∷ [])) (some_values (tolds_of bs)))
    ∙ sym (ap (after cap h) (somes_first b.submission (tolds_of bs)))) later

-- ---- its data records are held in the end

keeps_sound : (cap : ℕ) (db : Database) (h : Holdings) → DatabaseHolds cap db h → IsSound cap h
keeps_sound cap db h (no_table none is) = subst (IsSound cap) (sym is) (nothing_is_sound cap)
keeps_sound cap db h (one_table one empty is) = subst (IsSound cap) (sym is) (nothing_is_sound cap)
keeps_sound cap db h (both_tables both kept) = kept.sound

files_sound : (cap : ℕ) (image : Image) (h : Holdings) → FilesHold cap image h → IsSound cap h
files_sound cap image h (inl none) = subst (IsSound cap) (sym none.1) (nothing_is_sound cap)
files_sound cap image h (inr it) = keeps_sound cap _ h it.2.holds

-- each turn that was told as accepted has its data records among these
abbrev pub HasAccepted : List Turn → Holdings → Type 0
HasAccepted turns k = (before behind : List Turn) (t : Turn) (receipt : Receipt) →
    turns ≡ before ++ (t ∷ behind) → t.answer ≡ Ok receipt → (records : List DataRecord)
    × (t.submission ≡ Some (Fragment receipt.identity records))
    × ((r : DataRecord) → Contains records r → Contains (k receipt.identity) r)

has_accepted : (cap : ℕ) (h : Holdings) (turns : List Turn) → IsSound cap h →
    AllByRecursion IsConsistentTurn turns →
    replies_in turns ≡ replies cap h (submissions_in turns) →
    HasAccepted turns (after cap h (submissions_in turns))
has_accepted cap h turns sound each same before behind t receipt splits is =
    let key = receipt.identity in
    let all = subst (AllByRecursion IsConsistentTurn) splits each in
    let same' = subst (λ ts. replies_in ts ≡ replies cap h (submissions_in ts)) splits same in
    let it = met_at cap h before behind t key receipt.new receipt.known all same'
    (ap reply_of is) in
    let list : submissions_in turns
    ≡ submissions_in before ++ (Fragment key it.records ∷ submissions_in behind) =
    ap submissions_in splits
    ∙ ap some_values (map-append (λ (u : Turn). u.submission) before (t ∷ behind))
    ∙ somes-append (tolds_of before) (tolds_of (t ∷ behind))
    ∙ ap (λ (o : Option Parsed). submissions_in before
    ++ some_values (o ∷ tolds_of behind)) it.submission in (
      it.records,
      it.submission,
      λ r has. (after_has_accepted cap h (submissions_in turns) key r sound
          (sound_turns turns each)).1
          (inr (record {
            before = submissions_in before;
            member = Fragment key it.records;
            later = submissions_in behind;
            splits = list;
            accepted = subst IsAccepted (sym it.replied) tt;
            has = (refl, has);
          })),
    )

pub accepted_held : (cap : ℕ) (turns : List Turn) (start end : Image) (h : Holdings) →
    FilesHold cap start h → StepsBy cap (ended turns) start end →
    ∥ ((k : Holdings) × FilesHold cap end k × HasAccepted turns k) ∥₁
accepted_held cap turns start end h keep step =
    ∥∥₁_map (step h keep) (λ (tolds, may, kept).
    let all = subst (λ (ts : List Parsed). FilesHold cap end (after cap h ts)) may.1 kept in
    let same = subst (λ (ts : List Parsed). replies_in turns ≡ replies cap h ts) may.1 may.2 in
    let r : (k : Holdings) × FilesHold cap end k × HasAccepted turns k = (
      after cap h (submissions_in turns),
      all,
      has_accepted cap h turns (files_sound cap start h keep) may.0 same,
    ) in r)
