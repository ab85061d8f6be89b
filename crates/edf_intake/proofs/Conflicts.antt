-- The answer to a whole fragment from what its data records met.
use Rattle.std.proofs.Common.{◌≡◌, ◌≢◌, ℕ, ◌+◌, ◌-◌, ◌<◌, ◌≤◌, inl, inr, nat_eq, List, length}
use Rattle.std.proofs.Common.{Option, MatchOption, Some, None, Err, refl, sym, ap, subst, ◌∙◌}
use Rattle.std.proofs.Common.{arith}
use Rattle.std.proofs.lemmas.Bool.Decides.{eqb_tells}
use Rattle.std.proofs.lemmas.Bool.{cond-true, cond-false}
use Rattle.edf_header.specs.Key.{Key}
use Rattle.edf_fragment.specs.Fragment.{DataRecord}
use Rattle.edf_fragment.specs.Parsed.{Fragment}
use Rattle.edf_holdings.specs.Holdings.{Holdings, with_records}
use Rattle.edf_holdings.specs.Reply.{Conflict, Overlap, Differs, Full, conflict_of_clash}
use Rattle.edf_holdings.specs.Reply.{IsWellFormed, Reply, Conflicts, Accepted, reply, after_one}
use Rattle.edf_holdings.proofs.Joining.{IsGood}
use Rattle.edf_holdings.proofs.Replies.{full-by-counts, accepted-by-counts}
use Rattle.edf_holdings.proofs.OneByOne.{Taken, Stopped, reply_stopped, reply_counted}
use Rattle.edf_holdings.proofs.OneByOne.{after_accepted}
use Rattle.edf_fragment.specs.declared.fault.FragmentFault.{FragmentFault}
use Rattle.edf_store.specs.declared.fault.StoreFault.{StoreFault}
use Rattle.edf_intake.specs.Refusal.{reply_of, OfConflict, cause}
use Rattle.edf_intake.specs.declared.answer.Refusal.{Refusal}
use Rattle.edf_intake.specs.declared.answer.Refusal.TheVariants as refusal
use Rattle.edf_intake.specs.Inside.Verdict.{IsSpare, CountsWithoutClash, NamesClash, AreFindings}
use Rattle.edf_intake.specs.declared.data_records.Starts.{Starts}
use Rattle.edf_intake.specs.declared.data_records.Findings.{Findings}

-- refusals by what they come of, where those for a conflict are one case
pub by_cause : (P : Refusal → Type 0) → ((fault : FragmentFault) → P (refusal.Form fault))
    → ((refused : Refusal) (conflict : Conflict) → cause refused ≡ OfConflict conflict → P refused)
    → P refusal.Read → P refusal.Memory → ((fault : StoreFault) → P (refusal.Store fault)) →
    (refused : Refusal) → P refused
by_cause P form conflicts read memory store (refusal.Form fault) = form fault
by_cause P form conflicts read memory store (refusal.Overlap start stored) =
    conflicts (refusal.Overlap start stored) (Overlap start stored) refl
by_cause P form conflicts read memory store (refusal.Differs start) =
    conflicts (refusal.Differs start) (Differs start) refl
by_cause P form conflicts read memory store (refusal.Full held new cap) =
    conflicts (refusal.Full held new cap) (Full held new cap) refl
by_cause P form conflicts read memory store refusal.Read = read
by_cause P form conflicts read memory store refusal.Memory = memory
by_cause P form conflicts read memory store (refusal.Store fault) = store fault

-- where no clash was met
pub counts_all : (key : Key) (h : Holdings) (records : List DataRecord) (findings : Findings) →
    findings.clash ≡ None → AreFindings key h records findings →
    CountsWithoutClash key h records findings
counts_all key h records findings none met =
    subst (λ (o : Option Starts). MatchOption o (CountsWithoutClash key h records findings)
    (NamesClash key h records)) none met

pub names_clash : (key : Key) (h : Holdings) (records : List DataRecord) (findings : Findings)
    (starts : Starts) → findings.clash ≡ Some starts → AreFindings key h records findings →
    NamesClash key h records starts
names_clash key h records findings starts some met =
    subst (λ (o : Option Starts). MatchOption o (CountsWithoutClash key h records findings)
    (NamesClash key h records)) some met

pub taken_of : (cap : ℕ) (key : Key) (h : Holdings) (records : List DataRecord)
    (findings : Findings) → CountsWithoutClash key h records findings →
    Taken cap key h records (with_records key records h) findings.new findings.known
taken_of cap key h records findings k = record {
  free = k.no_clash;
  new_is = k.new_is;
  all = k.all;
  put_in = records;
  part = λ y m. m;
  table = refl;
  whole = λ _. refl;
}

stopped_of : (key : Key) (h : Holdings) (records : List DataRecord) (starts : Starts) →
    NamesClash key h records starts → Stopped key h records (starts.start, starts.stored)
stopped_of key h records starts k = record {
  pair = k.pair;
  first = k.first;
  start = k.start;
  stored = k.stored;
}

-- the first clash, told as a refusal
pub clash_told : (cap : ℕ) (key : Key) (h : Holdings) (records : List DataRecord) (starts : Starts)
    (told : Refusal) → (starts.start ≡ starts.stored → told ≡ refusal.Differs starts.start)
    → (starts.start ≢ starts.stored → told ≡ refusal.Overlap starts.start starts.stored) →
    NamesClash key h records starts →
    reply_of (Err told) ≡ Some (reply cap h (Fragment key records))
clash_told cap key h records starts told differs overlaps k =
    elim (eqb_tells starts.start starts.stored) [
      | inl same ↦ ap (λ (r : Refusal). reply_of (Err r)) (differs same.1)
          ∙ ap (λ (r : Reply). Some r) (sym (named ∙ ap (λ (c : Conflict). Conflicts c)
          (cond-true (nat_eq starts.start starts.stored) (Differs starts.start)
          (Overlap starts.start starts.stored) same.0)))
      | inr other ↦ ap (λ (r : Refusal). reply_of (Err r)) (overlaps other.1)
          ∙ ap (λ (r : Reply). Some r) (sym (named ∙ ap (λ (c : Conflict). Conflicts c)
          (cond-false (nat_eq starts.start starts.stored) (Differs starts.start)
          (Overlap starts.start starts.stored) other.0)))
    ]
  where
    named : reply cap h (Fragment key records)
        ≡ Conflicts (conflict_of_clash starts.start starts.stored)
    named = reply_stopped cap key h records (
      starts.start,
      starts.stored,
    ) (stopped_of key h records starts k)

-- `Full` where a fragment has more new records than there is room for: no less room was found than
-- there is
pub full_here : (cap spare : ℕ) (key : Key) (h : Holdings) (records : List DataRecord)
    (findings : Findings) → CountsWithoutClash key h records findings
    → IsSpare cap (length (h key)) (length records) spare → spare < findings.new →
    reply cap h (Fragment key records) ≡ Conflicts (Full (cap - spare) findings.new cap)
full_here cap spare key h records findings k it past =
    let all : length (h key) + spare ≡ cap =
    elim it.enough [ inl same ↦ same | inr many ↦ absurd (omega (arith, many, past, k.all)) ] in
    let same : length (h key) ≡ cap - spare = omega (arith, all) in
    reply_counted cap key h records (with_records key records h) findings.new findings.known
    (taken_of cap key h records findings k)
    ∙ full-by-counts cap key (length (h key)) findings.new (findings.known + findings.new)
    (omega (arith, past)) (omega (arith, past, all))
    ∙ ap (λ (n : ℕ). Conflicts (Full n findings.new cap)) same

pub accepted_here : (cap spare : ℕ) (key : Key) (h : Holdings) (records : List DataRecord)
    (findings : Findings) → CountsWithoutClash key h records findings
    → length (h key) + spare ≤ cap → findings.new ≤ spare →
    reply cap h (Fragment key records) ≡ Accepted key findings.new findings.known
accepted_here cap spare key h records findings k all low =
    let known : findings.known + findings.new - findings.new ≡ findings.known = omega arith in
    reply_counted cap key h records (with_records key records h) findings.new findings.known
    (taken_of cap key h records findings k)
    ∙ accepted-by-counts cap key (length (h key)) findings.new (findings.known + findings.new)
    (inr (omega (arith, low, all))) ∙ ap (λ (n : ℕ). Accepted key findings.new n) known

pub left_here : (cap spare : ℕ) (key : Key) (h : Holdings) (records : List DataRecord)
    (findings : Findings) → IsWellFormed (Fragment key records) → IsGood cap h →
    CountsWithoutClash key h records findings
    → length (h key) + spare ≤ cap → findings.new ≤ spare →
    with_records key records h ≡ after_one cap h (Fragment key records)
left_here cap spare key h records findings sound good k all low = after_accepted cap key h records
    (with_records key records h) findings.new findings.known sound good
    (taken_of cap key h records findings k) (omega (arith, low, all))
