-- What `split` did, from what it did of a listed file.
use Rattle.std.proofs.Common.{◌≡◌, ◌≢◌, ◌⊎◌, inl, inr, ℕ, ◌≤◌, List, [], ◌∷◌, ◌++◌, length, take}
use Rattle.std.proofs.Common.{refl, sym, ap, ◌∙◌, subst, Option, None, Ok, arith, decimal}
use Rattle.std.proofs.Common.{append-nil, length-append}
use Rattle.std.proofs.KnownBytes.{Consumes-trans}
use Rattle.std.proofs.lemmas.List.FromFn.{length-map-range_with_len}
use Rattle.std.specs.List.{AllZip, flat_map}
use Rattle.std.specs.Prelude.{Bool, true, false, if◌then◌else◌}
use Rattle.std.specs.Io.KnownBytes.{Consumes}
use Rattle.edf_field.specs.Number.{duration_of}
use Rattle.edf_header.specs.Header.{Layout}
use Rattle.edf_header.specs.Key.{Key}
use Rattle.edf_fragment.specs.Inside.Steps.{ReadsRecords}
use Rattle.edf_fragment.specs.Reading.{IsNextAnswerInState, IsEndOfRecords, ReadsHeader}
use Rattle.edf_fragment.specs.declared.advance.Progress.{Progress}
use Rattle.edf_fragment.specs.declared.advance.ReaderState.{ReaderState}
use Rattle.edf_fragment.specs.declared.advance.ReaderState.TheVariants.{Reading}
use Rattle.edf_fragment.specs.Fault.{fragment_fault_number}
use Rattle.edf_fragment.specs.declared.fault.FragmentFault.{FragmentFault}
use Rattle.edf_fragment.specs.declared.fault.FragmentFault.TheVariants.{Memory}
use Rattle.edf_fragment.proofs.Fragments.{fragment_read}
use Rattle.edf_runs.specs.Runs.{IsRuns, IsListed}
use Rattle.edf_runs.specs.declared.run_list.Listing.{Listing}
use Rattle.edf_runs.specs.declared.fault.WriteFault.{WriteFault}
use Rattle.edf_runs.specs.declared.fault.WriteFault.TheVariants as met
use Rattle.edf_cli.specs.Making.{Making, MakesNothing}
use Rattle.edf_cli.specs.Output.{OutputChange, IsWritten}
use Rattle.edf_cli.specs.Status.{is_trouble}
use Rattle.edf_cli.specs.Text.{memory_line}
use Rattle.edf_cli.specs.declared.status.Status.{Status}
use Rattle.edf_cli.specs.declared.status.Status.TheVariants.{Refused, Trouble}
use Rattle.edf_cli.proofs.Undone.{trouble-told}
use Rattle.edfruns_command.specs.Naming.{run_name, run_names, first_names, asked_names}
use Rattle.edfruns_command.specs.Lines.{file_refused_line, file_refused_status, reread_line}
use Rattle.edfruns_command.specs.Listing.{HasRuns, HasFault}
use Rattle.edfruns_command.specs.InsideSplit.{IsAtEnd, MakesEach, MakesRuns, StopsMaking}
use Rattle.edfruns_command.specs.Splitting.{HoldsRun, IsReady, IsRefused, IsSplit, MakesFiles, Says}
use Rattle.edfruns_command.specs.Splitting.{SplitsFile}
use Rattle.edfruns_command.proofs.MakingFiles.{as-many}
use Rattle.edfruns_command.proofs.SameRuns.{listed-runs}
use Rattle.edfruns_command.proofs.Statuses.{by-status, printed}

-- ---- the file was read to its end

module _ (m : Making) (bytes : Option (List ℕ)) (listing : Listing) (names : List (List ℕ))
    (l : Layout) (start : Option (List ℕ)) (mid to : Progress) (left rest : Option (List ℕ))
    (header : ReadsHeader bytes start l) (same : l.key ≡ listing.identity)
    (makes : MakesEach m names l mid start left listing.runs.items)
    (ends : IsAtEnd l mid to left rest) where
  ended : IsEndOfRecords l mid left rest
  ended =
      let a : IsNextAnswerInState Reading l mid to left rest (Ok None) =
      subst (λ (s : ReaderState). IsNextAnswerInState s l mid to left rest (Ok None))
      makes.read.state
      ends in
      a.1

  reads-records : ReadsRecords l start rest (flat_map (λ part. part) makes.parts)
  reads-records =
      let on = makes.read in
      record {
        bytes = on.bytes;
        next_place = mid.place;
        read = subst (Consumes start rest) (append-nil on.bytes)
            (Consumes-trans start left rest on.bytes [] on.read ended.read);
        end = ended.end;
        are_records = on.are_records;
        least = omega (arith, ended.least, on.given);
        most = omega (arith, ended.most, on.given);
      }

  pub makes-runs : MakesRuns m bytes listing names
  makes-runs = record {
    layout = l;
    rest = rest;
    runs = makes.parts;
    read = fragment_read bytes start rest l (flat_map (λ part. part) makes.parts) header
        reads-records;
    same = same;
    listed = makes.listed;
    files = makes.files;
    made = makes.made;
    named = makes.named;
    held = makes.held;
    unfailed = makes.unfailed;
  }

-- the runs that are read again are those that were listed
pub splits-file : (m : Making) (bytes : Option (List ℕ)) (prefix : List ℕ) (listing : Listing) →
    HasRuns bytes listing →
    MakesRuns m bytes listing (run_names prefix (length listing.runs.items)) →
    SplitsFile m bytes prefix
splits-file m bytes prefix listing has all =
    let d = duration_of all.layout.key.duration in
    let e : d ≡ duration_of listing.identity.duration =
    ap (λ (k : Key). duration_of k.duration) all.same in
    let each = subst (λ n. AllZip (IsListed n) all.runs listing.runs.items) e all.listed in
    let count : length listing.runs.items ≡ length all.files =
    sym (as-many (IsListed d) all.runs listing.runs.items all.listed)
    ∙ as-many (HoldsRun m.known all.layout.key) all.runs all.files all.held in
    record {
      layout = all.layout;
      records = flat_map (λ run. run) all.runs;
      rest = all.rest;
      read = all.read;
      runs = all.runs;
      are_runs = subst (λ n. IsRuns n (flat_map (λ run. run) all.runs) all.runs) (sym e)
          (listed-runs bytes listing all.runs has each);
      files = all.files;
      held = all.held;
      made = all.made;
      named = all.named ∙ ap (run_names prefix) count;
      unfailed = all.unfailed;
    }

-- ---- what is said

-- as a line has behind its name
pub some-behind : (name : List ℕ) (byte : ℕ) (more : List ℕ) → name ++ (byte ∷ more) ≢ []
some-behind [] byte more is = cc
some-behind (n ∷ name) byte more is = cc

-- a line that has a byte is said
pub says : (err : OutputChange) (line : List ℕ) (intended status : Status) → line ≢ [] →
    IsWritten err line intended status → Says err
says err line intended status some (inl whole) = inl (line, some, whole.0)
says err line intended status some (inr cut) = inr (line, cut.0)

pub some-reread : (name : List ℕ) (fault : WriteFault) → reread_line name fault ≢ []
some-reread name met.Undated = some-behind name 32 _
some-reread name met.Changed = some-behind name 32 _
some-reread name met.Read = some-behind name 32 _
some-reread name met.Memory = some-behind name 32 _
some-reread name met.Write = some-behind name 32 _

-- ---- nothing was made

module _ (m : Making) (err : OutputChange) (bytes : Option (List ℕ)) (prefix : List ℕ)
    (status : Status) (none : MakesNothing m) where
  pub none-for-trouble : (line : List ℕ) → line ≢ [] → IsWritten err line Trouble status →
      IsSplit m err bytes prefix status
  none-for-trouble line some said = (
    subst (MakesFiles m bytes prefix) (sym (trouble-told err line status said)) (inl none),
    inr (says err line Trouble status some said),
  )

  pub none-refused : (line : List ℕ) → line ≢ [] → IsRefused m bytes prefix →
      IsWritten err line Refused status → IsSplit m err bytes prefix status
  none-refused line some why said = (
    by-status (MakesFiles m bytes prefix) Refused status (printed err line Refused status said)
        (λ is. (none, why)) (inl none),
    inr (says err line Refused status some said),
  )

  either-made : (is_trouble : Bool) →
      ((if is_trouble then Trouble else Refused) ≡ Refused → IsRefused m bytes prefix) →
      MakesFiles m bytes prefix (if is_trouble then Trouble else Refused)
  either-made true why = inl none
  either-made false why = (none, why refl)

  pub none-of-file : (name : List ℕ) (fault : FragmentFault) →
      HasFault bytes fault ⊎ (fault ≡ Memory) →
      IsWritten err (file_refused_line name fault) (file_refused_status fault) status
      ⊎ IsWritten err (memory_line name) Trouble status → IsSplit m err bytes prefix status
  none-of-file name fault (inl met) (inl said) = (
    by-status (MakesFiles m bytes prefix) (file_refused_status fault) status
        (printed err (file_refused_line name fault) (file_refused_status fault) status said)
        (λ is. either-made (is_trouble (fragment_fault_number fault))
        (λ refused. inl (fault, met, refused))) (inl none),
    inr (says err (file_refused_line name fault) (file_refused_status fault) status
        (some-behind name 32 _) said),
  )
  none-of-file name fault (inr memory) (inl said) =
      none-for-trouble (file_refused_line name Memory) (some-behind name 32 _)
      (subst (λ (f : FragmentFault). IsWritten err (file_refused_line name f)
      (file_refused_status f) status) memory said)
  none-of-file name fault met (inr said) =
      none-for-trouble (memory_line name) (some-behind name 32 _) said

-- ---- files were made, of a listed file

pub stopped : (m : Making) (bytes : Option (List ℕ)) (prefix : List ℕ) (listing : Listing)
    (status : Status) → IsReady m bytes prefix listing → status ≡ Trouble →
    StopsMaking m bytes listing (run_names prefix (length listing.runs.items)) →
    MakesFiles m bytes prefix status
stopped m bytes prefix listing status ready is (inl none) =
    subst (MakesFiles m bytes prefix) (sym is) (inl none)
stopped m bytes prefix listing status ready is (inr some) =
    subst (MakesFiles m bytes prefix) (sym is) (inr (listing, ready, some))

-- ---- names

take-front : {X : Type 0} (xs ys : List X) → take (length xs) (xs ++ ys) ≡ xs
take-front [] ys = refl
take-front (x ∷ xs) ys = ap (λ (l : List _). x ∷ l) (take-front xs ys)

-- what makes files is as it was, before a file is made
pub as-before : (a b : Making) → a.known ≡ b.known →
    ((name : List ℕ) → a.there name ≡ b.there name) → a.before ≡ b.before →
    a.failed_before ≡ b.failed_before → a.after ≡ b.after → a.failed_after ≡ b.failed_after →
    a ≡ b
as-before a b known there before failed after later = λ i. record {
  known = known i;
  there = λ name. there name i;
  before = before i;
  failed_before = failed i;
  after = after i;
  failed_after = later i;
}

-- at least as many names are asked for as there are runs
pub names-count : (prefix : List ℕ) (n : ℕ) (asked : List (List ℕ)) → asked ≡ asked_names prefix n →
    n ≤ length asked
names-count prefix n asked is = omega (
  arith,
  ap (λ (ns : List (List ℕ)). length ns) is,
  length-append (run_names prefix n) (first_names prefix),
  length-map-range_with_len (run_name prefix (length (decimal n))) 1 n,
)

-- the first of them are those of the runs
pub front-names : (prefix : List ℕ) (n count : ℕ) (asked : List (List ℕ)) → count ≡ n →
    asked ≡ asked_names prefix n → take count asked ≡ run_names prefix n
front-names prefix n count asked is are =
    let fit : length (run_names prefix n) ≡ n =
    length-map-range_with_len (run_name prefix (length (decimal n))) 1 n in
    ap (λ k. take k asked) is ∙ ap (λ (ns : List (List ℕ)). take n ns) are
    ∙ ap (λ k. take k (run_names prefix n ++ first_names prefix)) (sym fit)
    ∙ take-front (run_names prefix n) (first_names prefix)

-- what is true of the same three
pub over : (P : Making → Option (List ℕ) → List (List ℕ) → Type 0) (a b : Making)
    (old new : Option (List ℕ)) (ns ms : List (List ℕ)) → a ≡ b → old ≡ new → ns ≡ ms →
    P a old ns → P b new ms
over P a b old new ns ms made bytes names is =
    subst (λ (m : Making). P m new ms) made
    (subst (λ (bs : Option (List ℕ)). P a bs ms) bytes
    (subst (λ (xs : List (List ℕ)). P a old xs) names is))
