-- What a store in memory listed, what was written of a file, and a recording by its file.
use Rattle.std.proofs.Common.{◌≡◌, ◌≢◌, ◌⊎◌, ℕ, List, [], ◌∷◌, length, Bool, true, false}
use Rattle.std.proofs.Common.{Option, Some, inl, inr, refl, sym, ap, subst, if◌then◌else◌}
use Rattle.std.proofs.Common.{arith, ◌∙◌}
use Rattle.std.proofs.lemmas.List.{take_all}
use Rattle.std.specs.Io.KnownBytes.{Appends}
use Rattle.sqlite_trees.specs.declared.memory.MemStore.{MemStore}
use Rattle.sqlite.specs.Steps.{over_memory}
use Rattle.edf_field.specs.Number.{duration_of}
use Rattle.edf_header.specs.Key.{Key}
use Rattle.edf_fragment.specs.Fragment.{DataRecord}
use Rattle.edf_fragment.specs.Fault.{fragment_fault_number}
use Rattle.edf_fragment.proofs.Fragments.{fragment_of_all}
use Rattle.edf_fragment.proofs.OneFragment.{one-fragment}
use Rattle.edf_holdings.specs.Holdings.{Holdings}
use Rattle.edf_store.specs.Held.{StoreModel, KeepsHoldings}
use Rattle.edf_canonical.proofs.Files.{its-own}
use Rattle.edf_cli.specs.Making.{Making}
use Rattle.edf_canonical.specs.File.{IsCanonicalFile}
use Rattle.edf_export.specs.Export.{IsExported}
use Rattle.edf_export.specs.Headline.{IsOnlyCanonicalFile}
use Rattle.edf_runs.specs.Runs.{AreListed}
use Rattle.edf_runs.specs.declared.run_list.Listing.{Listing}
use Rattle.edf_cli.specs.Output.{OutputChange, Gets, AreLinesPrinted, IsWritten}
use Rattle.edf_cli.specs.Status.{is_trouble, status_of_number, worse}
use Rattle.edf_cli.specs.declared.status.Status.{Status}
use Rattle.edf_cli.specs.declared.status.Status.TheVariants.{Done, Refused, Usage, Trouble}
use Rattle.edf_command.specs.Lines.{list_lines, first_list_lines}
use Rattle.edf_command.specs.Listing.{ListsAll, StopsListing}
use Rattle.edfruns_command.specs.Listed.{IsFileListed, IsListOut, Held, between, held_before}
use Rattle.edfruns_command.specs.Listed.{held_after}
use Rattle.edfruns_command.specs.Lines.{each_line, unwritten_line, standard_output}
use Rattle.edfruns_command.specs.Listing.{HasRuns}
use Rattle.edfruns_command.specs.Picturing.{IsPictureOf}
use Rattle.edfruns_command.specs.Picturing as drawn
use Rattle.edfruns_command.specs.Run.{Asked, IsDone}
use Rattle.edf_page.specs.Night.{AreRunLines, IsRecording}
use Rattle.edf_page.specs.Inside.{HoldsStill, ListsHeld, IsWrittenOf, ListsFile, DrawsFile}
use Rattle.edf_page.specs.Programs.{IsText}
use Rattle.edf_page.specs.declared.night.Recording.{Recording}

-- ---- what was said, where there was no trouble

pub said-whole : (w : OutputChange) (lines : ℕ → List ℕ) (count : ℕ) (wanted status : Status) →
    AreLinesPrinted w lines count wanted status → status ≢ Trouble →
    Gets w (lines count) × (status ≡ wanted)
said-whole w lines count wanted status (inl (inl p)) calm = p
said-whole w lines count wanted status (inl (inr p)) calm = absurd (calm p.1)
said-whole w lines count wanted status (inr p) calm = absurd (calm p.1)

-- ---- statuses

pub not-trouble : (Done ≢ Trouble)
not-trouble is = cc

-- what was written in trouble was not done
pub not-written : (w : OutputChange) (text : List ℕ) (status : Status) → status ≡ Done →
    IsWritten w text Trouble status → ⊥
not-written w text status done (inl p) = not-trouble (sym done ∙ p.1)
not-written w text status done (inr p) = not-trouble (sym done ∙ p.1)

refusing : (trouble : Bool) → Done ≢ (if trouble then Trouble else Refused)
refusing true is = cc
refusing false is = cc

-- nor what is a refusal
pub not-refused : (w : OutputChange) (text : List ℕ) (number : ℕ) (status : Status) →
    status ≡ Done → IsWritten w text (status_of_number number) status → ⊥
not-refused w text number status done (inl p) = refusing (is_trouble number) (sym done ∙ p.1)
not-refused w text number status done (inr p) = not-trouble (sym done ∙ p.1)

-- the better of two that are done together is done
pub worse-done : (one : Status) → Done ≡ worse one Done → one ≡ Done
worse-done Done is = refl
worse-done Refused is = absurd (cc)
worse-done Usage is = absurd (cc)
worse-done Trouble is = absurd (cc)

-- ---- a store

pub holds_still : (old new : StoreModel MemStore) → KeepsHoldings over_memory old new →
    HoldsStill old new
holds_still old new stays h has = record {
  cap_is = stays.cap ∙ has.cap_is;
  holds = stays.holdings h has.holds;
}

-- what a writer holds that got these bytes, and held nothing before
pub gets-whole : (w : OutputChange) (text bytes : List ℕ) → w.before ≡ Some [] →
    w.after ≡ Some text → Gets w bytes → text ≡ bytes
gets-whole w text bytes from to got =
    subst (λ (a : Option (List ℕ)). Appends (Some []) a bytes) to
    (subst (λ (b : Option (List ℕ)). Appends b w.after bytes) from got.0)

pub lists-all : (out err : OutputChange) (text : List ℕ) (h : Holdings) → out.before ≡ Some [] →
    out.after ≡ Some text → ListsAll out err h Done ⊎ StopsListing out err h Done → ListsHeld h text
lists-all out err text h from to (inr stop) = absurd (not-written err _ _ refl stop.said)
lists-all out err text h from to (inl all) = record {
  keys = all.keys;
  are_keys = all.are_keys;
  lines = λ spell is.
      let told = said-whole out (first_list_lines spell h all.keys) (length all.keys) Done Done
      (all.said spell is) not-trouble in
      gets-whole out text (first_list_lines spell h all.keys (length all.keys)) from to told.0
      ∙ ap (list_lines spell h 1) (take_all (length all.keys) all.keys (omega arith));
}

-- the one canonical file, in a writer that held nothing before
pub only-file : (before : Option (List ℕ)) (file : List ℕ) (k : Key) (records : List DataRecord)
    (len : ℕ) → before ≡ Some [] → IsExported before (Some file) k records len →
    IsOnlyCanonicalFile file k records
only-file before file k records len from out =
    let same : file ≡ out.file =
    subst (λ (b : Option (List ℕ)). Appends b (Some file) out.file) from out.wrote in
    record {
      canonical = subst (λ (f : List ℕ). IsCanonicalFile f k records) (sym same) out.canonical;
      only = λ other is. out.only other is ∙ sym same;
    }

-- ---- a file

-- what was done of what a reader had
pub written-of : (asked given : Asked) (own bytes text : List ℕ) (made : Making)
    (out err : OutputChange) → given ≡ asked → own ≡ bytes →
    IsDone (λ _. Some own) made out err given Done → IsText out text →
    IsWrittenOf asked bytes text
written-of asked given own bytes text made out err same read done is = record {
  made = made;
  out = out;
  err = err;
  done = subst (λ (a : Asked). IsDone (λ _. Some bytes) made out err a Done) same
      (subst (λ (b : List ℕ). IsDone (λ _. Some b) made out err given Done) read done);
  is_text = is;
}

-- a file that was listed whole, where nothing was listed before
module _ (out err : OutputChange) (file text name : List ℕ) (from : out.before ≡ Some [])
    (to : out.after ≡ Some text) where
  of_one : (mid mid_err : Held) (one : Status) → held_after out ≡ mid → one ≡ Done →
      IsFileListed (between (held_before out) mid) (between (held_before err) mid_err) (Some file)
      []
      name one → ListsFile file text
  of_one mid mid_err one same done (inl (told, silent, is)) = record {
    listing = told.listing;
    has = told.has;
    lines = λ spell is.
        gets-whole (between (held_before out) mid) text _ from
        (subst (λ (m : Held). m.contents ≡ Some text) same to) (told.told spell is);
  }
  of_one mid mid_err one same done (inr (inl refused)) =
      absurd (not-refused _ _ (fragment_fault_number refused.fault) _ done refused.said.1)
  of_one mid mid_err one same done (inr (inr lacks)) = absurd (not-written _ _ _ done lacks.1)

  pub lists-file : IsListOut (λ _. Some file) out err (name ∷ []) Done → ListsFile file text
  lists-file (inl all) =
      let end = all.5 in
      of_one all.0 all.1 all.2 end.0 (worse-done all.2 (all.6 ∙ ap (worse all.2) end.2)) all.4
  lists-file (inr stop) = absurd (not-written _ _ _ refl stop.cut.1)

  pub draws-file : drawn.IsPictured out err (Some file) name true Done → DrawsFile file text
  draws-file (inl sent) = record {
    listing = sent.listing;
    has = sent.has;
    is_picture = of sent.sent;
  }
    where
      of : drawn.SendsPicture out err sent.picture (unwritten_line standard_output) Done →
          IsPictureOf sent.listing.identity true sent.listing.runs.items text
      of (inl (got, silent, is)) = subst (IsPictureOf sent.listing.identity true
          sent.listing.runs.items) (sym (gets-whole out text sent.picture from to got))
          sent.is_picture
      of (inr (front, said)) = absurd (not-written err _ _ refl said)
  draws-file (inr (inl again)) = absurd (not-written _ _ _ refl again.said.1)
  draws-file (inr (inr (inl refused))) =
      absurd (not-refused _ _ (fragment_fault_number refused.fault) _ refl refused.said.1)
  draws-file (inr (inr (inr lacks))) = absurd (not-written _ _ _ refl lacks.1)

-- ---- a recording, by its file

-- the runs of a canonical file are those of its data records
runs-of : (file : List ℕ) (k : Key) (records : List DataRecord) (listing : Listing) →
    IsOnlyCanonicalFile file k records → HasRuns (Some file) listing →
    (listing.identity ≡ k) × AreListed (duration_of k.duration) records listing.runs.items
runs-of file k records listing is has =
    let read = has.read in
    let same = one-fragment file k read.layout.key records read.records
    (its-own file k records is.canonical) (fragment_of_all file has.rest read.layout read.records
    read.read) in (
      read.identity ∙ sym same.key,
      subst (λ (rs : List DataRecord). AreListed (duration_of k.duration) rs listing.runs.items)
          (sym same.records) (subst (λ (q : Key). AreListed (duration_of q.duration) read.records
          listing.runs.items) (sym same.key) read.listed),
    )

pub run-lines-are : (file : List ℕ) (k : Key) (records : List DataRecord) (text : List ℕ) →
    IsOnlyCanonicalFile file k records → ListsFile file text →
    AreRunLines k records text
run-lines-are file k records text is lists =
    let listed = runs-of file k records lists.listing is lists.has in
    record {
      runs = lists.listing.runs.items;
      are_runs = listed.1;
      are_lines = λ spell sp. subst (λ (q : Key). text ≡ each_line spell q lists.listing.runs.items)
          listed.0 (lists.lines spell sp);
    }

pub recording-is : (h : Holdings) (k : Key) (r : Recording) →
    IsOnlyCanonicalFile r.file.items k (h k) →
    ListsFile r.file.items r.runs.items → DrawsFile r.file.items r.picture.items → IsRecording h k r
recording-is h k r is lists draws =
    let drawn = runs-of r.file.items k (h k) draws.listing is draws.has in
    record {
      is_file = is;
      runs = run-lines-are r.file.items k (h k) r.runs.items is lists;
      picture = record {
        runs = draws.listing.runs.items;
        are_runs = drawn.1;
        is_picture = subst (λ (q : Key). IsPictureOf q true draws.listing.runs.items
            r.picture.items) drawn.0 draws.is_picture;
      };
    }
