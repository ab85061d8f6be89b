-- A second reading of bytes that are known has the runs of the first.
use Rattle.std.proofs.Common.{◌≡◌, ◌≢◌, ℕ, ◌+◌, ◌-◌, ◌*◌, ◌≤◌, inl, inr, List, [], ◌∷◌, refl, sym}
use Rattle.std.proofs.Common.{ap, ◌∙◌, subst, arith, All, Option, Some, None, IfSome}
use Rattle.std.specs.Coded.{le_prop}
use Rattle.std.specs.List.{AllZip}
use Rattle.std.proofs.lemmas.List.Elements.{All-head, All-tail}
use mathlib.Core.HLevel.{is_prop→PathP}
use Rattle.edf_field.specs.Number.{duration_of}
use Rattle.edf_header.specs.Key.{Key}
use Rattle.edf_header.specs.declared.limits.TheConstants.{MOST_RECORDS}
use Rattle.edf_tal.specs.declared.limits.TheConstants.{MOST_CANONICAL_BLOCK_SAMPLES}
use Rattle.edf_canonical.specs.File.{second_of, BlocksFit}
use Rattle.edf_fragment.specs.Fragment.{DataRecord}
use Rattle.edf_fragment.specs.Whole.{ReadsFragmentFault}
use Rattle.edf_fragment.specs.declared.fault.FragmentFault.{FragmentFault}
use Rattle.edf_fragment.specs.declared.fault.FragmentFault.TheVariants as refused
use Rattle.edf_fragment.proofs.Fragments.{fragment_of_all, fault_of_all}
use Rattle.edf_fragment.proofs.OneFragment.{one-fragment, spelled-no-fault}
use Rattle.edf_runs.specs.Again.{fault_again}
use Rattle.edf_runs.specs.Read.{ReadsRuns}
use Rattle.edf_runs.specs.Runs.{StartFrom, IsListed, AreListed}
use Rattle.edf_runs.specs.declared.run.Run.{Run}
use Rattle.edf_runs.specs.declared.run_list.Listing.{Listing}
use Rattle.edf_runs.specs.declared.fault.WriteFault.{WriteFault}
use Rattle.edf_runs.specs.declared.fault.WriteFault.TheVariants.{Changed, Read, Memory}
use Rattle.edf_runs.proofs.Parts.{one-runs}
use Rattle.edfruns_command.specs.Listing.{HasRuns}
use Rattle.edfruns_command.specs.Picturing.{IsOfReading, StopsAgain}

-- ---- runs are listed in one way

same-start : (d : ℕ) (rs : List DataRecord) (a b : ℕ) → rs ≢ [] → StartFrom d a rs →
    StartFrom d b rs → a ≡ b
same-start d [] a b some one other = absurd (some refl)
same-start d (r ∷ rs) a b some one other = sym one.0 ∙ other.0

pub same-run : (r s : Run) → r.first ≡ s.first → r.last ≡ s.last → r.records ≡ s.records →
    r.block_samples ≡ s.block_samples → r ≡ s
same-run r s first last records blocks = λ i. record {
  first = first i;
  last = last i;
  records = records i;
  block_samples = blocks i;
  records_some = is_prop→PathP (λ j. 1 ≤ records j) (λ j. le_prop) r.records_some s.records_some i;
  records_few = is_prop→PathP (λ j. records j ≤ MOST_RECORDS) (λ j. le_prop) r.records_few
      s.records_few i;
  block_some = is_prop→PathP (λ j. 1 ≤ blocks j) (λ j. le_prop) r.block_some s.block_some i;
  block_few = is_prop→PathP (λ j. blocks j ≤ MOST_CANONICAL_BLOCK_SAMPLES) (λ j. le_prop)
      r.block_few s.block_few i;
}

one-listed : (d : ℕ) (rs : List DataRecord) (r s : Run) → rs ≢ [] → IsListed d rs r →
    IsListed d rs s → r ≡ s
one-listed d rs r s some one is =
    let first = same-start d rs r.first s.first some one.starts is.starts in
    let records = one.count ∙ sym is.count in
    let low = one.least s.block_samples (subst (λ (f : ℕ). BlocksFit (second_of f) s.block_samples
    rs)
    (sym first) is.holds) in
    let high = is.least r.block_samples (subst (λ (f : ℕ). BlocksFit (second_of f) r.block_samples
    rs)
    first one.holds) in
    same-run r s first (one.last ∙ ap (λ (f : ℕ). f + (r.records - 1) * d) first
    ∙ ap (λ (n : ℕ). s.first + (n - 1) * d) records ∙ sym is.last) records (omega (
      arith,
      low,
      high,
    ))

each-listed : (d : ℕ) (runs : List (List DataRecord)) (rs ss : List Run) →
    All (λ run. run ≢ []) runs → AllZip (IsListed d) runs rs → AllZip (IsListed d) runs ss → rs ≡ ss
each-listed d [] [] [] some p q = refl
each-listed d [] [] (s ∷ ss) some p q = absurd q
each-listed d [] (r ∷ rs) ss some p q = absurd p
each-listed d (run ∷ runs) [] ss some p q = absurd p
each-listed d (run ∷ runs) (r ∷ rs) [] some p q = absurd q
each-listed d (run ∷ runs) (r ∷ rs) (s ∷ ss) some p q =
    let one = one-listed d run r s (All-head (λ run. run ≢ []) run runs some) p.0 q.0 in
    let more = each-listed d runs rs ss (All-tail (λ run. run ≢ []) run runs some) p.1 q.1 in
    λ i. one i ∷ more i

one-list : (d : ℕ) (records : List DataRecord) (rs ss : List Run) → AreListed d records rs →
    AreListed d records ss → rs ≡ ss
one-list d records rs ss one other =
    let same = one-runs d records other.runs one.runs other.are_runs one.are_runs in
    each-listed d one.runs rs ss one.are_runs.none_empty one.each
    (subst (λ (runs : List (List DataRecord)). AllZip (IsListed d) runs ss) same other.each)

-- ---- two readings of the same bytes

record SameListing (one other : Listing) : Type 0 where
  identity : one.identity ≡ other.identity
  runs : one.runs.items ≡ other.runs.items

same-listing : (all : List ℕ) (rest end : Option (List ℕ)) (one other : Listing) →
    ReadsRuns (Some all) rest one → ReadsRuns (Some all) end other → SameListing one other
same-listing all rest end one other a b =
    let same = one-fragment all a.layout.key b.layout.key a.records b.records
    (fragment_of_all all rest a.layout a.records a.read)
    (fragment_of_all all end b.layout b.records b.read) in
    let here = subst (λ (rs : List DataRecord). AreListed (duration_of a.layout.key.duration) rs
    one.runs.items) same.records a.listed in
    record {
      identity = a.identity ∙ same.key ∙ sym b.identity;
      runs = one-list (duration_of b.layout.key.duration) b.records one.runs.items other.runs.items
          (subst (λ (k : Key). AreListed (duration_of k.duration) b.records one.runs.items)
          same.key here) b.listed;
    }

-- ---- why it stops

of-fault : (fault : FragmentFault) → IsOfReading (fault_again fault)
of-fault (refused.Header e) = tt
of-fault (refused.CutRecord n) = tt
of-fault (refused.Tal n e) = tt
of-fault refused.Trailing = tt
of-fault refused.Read = tt
of-fault refused.Memory = tt
of-fault refused.Failed = tt

no-fault : (bytes rest : Option (List ℕ)) (listing : Listing) (fault : FragmentFault) →
    ReadsFragmentFault bytes rest fault → HasRuns bytes listing →
    IfSome bytes (λ _. fault_again fault ≢ Changed)
no-fault None rest listing fault met has = tt
no-fault (Some all) rest listing fault met has = λ same.
    elim (fault_of_all all rest fault met) [
      | inl a ↦
          let e : ◌≡◌ {A = WriteFault} Read Changed = sym (ap fault_again a) ∙ same in
          absurd (let f = e in cc)
      | inr b ↦
          elim b [
            | inl a ↦
                let e : ◌≡◌ {A = WriteFault} Memory Changed = sym (ap fault_again a) ∙ same in
                absurd (let f = e in cc)
            | inr f ↦
                let read = has.read in
                spelled-no-fault all read.layout.key read.records fault
                (fragment_of_all all has.rest read.layout read.records read.read) f
          ]
    ]

pub stops-by-fault : (bytes rest : Option (List ℕ)) (listing : Listing) (fault : FragmentFault)
    (why : WriteFault) → ReadsFragmentFault bytes rest fault → why ≡ fault_again fault →
    StopsAgain bytes listing why
stops-by-fault bytes rest listing fault why met is = record {
  of_reading = subst IsOfReading (sym is) (of-fault fault);
  unchanged = λ has. subst (λ (w : WriteFault). IfSome bytes (λ _. w ≢ Changed)) (sym is)
      (no-fault bytes rest listing fault met has);
}

no-other : (bytes rest : Option (List ℕ)) (one other : Listing) → ReadsRuns bytes rest one →
    (SameListing one other → ⊥) → HasRuns bytes other →
    IfSome bytes (λ _. ◌≢◌ {A = WriteFault} Changed Changed)
no-other None rest one other read differ has = tt
no-other (Some all) rest one other read differ has =
    absurd (differ (same-listing all rest has.rest one other read has.read))

pub stops-by-key : (bytes rest : Option (List ℕ)) (one other : Listing) → ReadsRuns bytes rest one →
    (one.identity ≡ other.identity → ⊥) → StopsAgain bytes other Changed
stops-by-key bytes rest one other read differ = record {
  of_reading = tt;
  unchanged = no-other bytes rest one other read (λ same. differ same.identity);
}

pub stops-by-runs : (bytes rest : Option (List ℕ)) (one other : Listing) → ReadsRuns bytes rest one
    →
    (one.runs.items ≡ other.runs.items → ⊥) → StopsAgain bytes other Changed
stops-by-runs bytes rest one other read differ = record {
  of_reading = tt;
  unchanged = no-other bytes rest one other read (λ same. differ same.runs);
}

-- ---- memory

no-change : (bytes : Option (List ℕ)) → IfSome bytes (λ _. ◌≢◌ {A = WriteFault} Memory Changed)
no-change None = tt
no-change (Some all) = λ e. absurd (let f = e in cc)

pub stops-for-memory : (bytes : Option (List ℕ)) (listing : Listing) →
    StopsAgain bytes listing Memory
stops-for-memory bytes listing = record { of_reading = tt; unchanged = λ has. no-change bytes }

-- ---- all of it was read

pub reads-again : (bytes rest : Option (List ℕ)) (one other : Listing) → ReadsRuns bytes rest one →
    one.identity ≡ other.identity → one.runs.items ≡ other.runs.items → ReadsRuns bytes rest other
reads-again bytes rest one other read identity runs = record {
  layout = read.layout;
  records = read.records;
  read = read.read;
  identity = sym identity ∙ read.identity;
  listed = subst (AreListed (duration_of read.layout.key.duration) read.records) runs read.listed;
}
