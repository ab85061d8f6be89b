-- Files that are made one after another, while their runs are read.
use Rattle.std.proofs.Common.{◌≡◌, inl, inr, ℕ, suc, ◌+◌, ◌<◌, ◌≤◌, List, [], ◌∷◌, ◌++◌, length}
use Rattle.std.proofs.Common.{take, get_or, refl, sym, ap, ◌∙◌, subst, arith, append_assoc}
use Rattle.std.proofs.Common.{append-nil, length-append, Option, All, Bool, true, false}
use Rattle.std.specs.Bool.{MatchBool}
use Rattle.std.specs.List.{AllZip, flat_map}
use Rattle.std.proofs.lemmas.List.{take_more, map-append, length-take-le, take_all}
use Rattle.std.proofs.lemmas.List.Elements.{All-nil, All-cons}
use Rattle.edf_field.specs.Number.{duration_of}
use Rattle.edf_header.specs.Header.{Layout}
use Rattle.edf_fragment.specs.Fragment.{DataRecord}
use Rattle.edf_fragment.specs.Reading.{initial_progress}
use Rattle.edf_fragment.specs.declared.advance.Progress.{Progress}
use Rattle.edf_runs.specs.Read.{ReadsOn}
use Rattle.edf_runs.specs.Runs.{IsListed}
use Rattle.edf_runs.specs.declared.run.Run.{Run}
use Rattle.edf_runs.proofs.Growing.{joined_more}
use Rattle.edf_runs.proofs.SecondReading.{none_read}
use Rattle.edf_cli.specs.Made.{MadeFile, names_of, HasPart, half, removed, not_removed}
use Rattle.edf_cli.specs.Making.{Making}
use Rattle.edfruns_command.specs.Splitting.{HasFirst, HoldsRun}
use Rattle.edfruns_command.specs.InsideSplit.{LacksFile, MakesEach, MakesFile}
use Rattle.edfruns_command.proofs.Rereading.{both, one-more, reads-then}

-- from the state before one to the state after another
abbrev pub then : Making → Making → Making
then a b = record {
  known = a.known;
  there = a.there;
  before = a.before;
  failed_before = a.failed_before;
  after = b.after;
  failed_after = b.failed_after;
}

-- one that was taken back is not whole, whether it could be removed or not
pub dropped : (files : List MadeFile) (name : List ℕ) (held : Option (List ℕ))
    (now : List MadeFile) (is_gone : Bool) →
    MatchBool is_gone (now ≡ files ++ (removed (half name held) ∷ []))
    (now ≡ files ++ (not_removed (half name held) ∷ [])) → HasPart files name now
dropped files name held now true is = record {
  part = removed (half name held);
  behind = is;
  named = refl;
  is_half = refl;
}
dropped files name held now false is = record {
  part = not_removed (half name held);
  behind = is;
  named = refl;
  is_half = refl;
}

names-more : (files : List MadeFile) (file : MadeFile) (names : List (List ℕ)) (i : ℕ)
    (name : List ℕ) → i < length names → name ≡ get_or names i name → file.name ≡ name →
    names_of files ≡ take i names → names_of (files ++ (file ∷ [])) ≡ take (i + 1) names
names-more files file names i name lt is named before =
    map-append (λ (f : MadeFile). f.name) files (file ∷ [])
    ∙ ap (λ (ns : List (List ℕ)). ns ++ (file.name ∷ [])) before
    ∙ ap (λ (n : List ℕ). take i names ++ (n ∷ [])) (named ∙ is)
    ∙ sym (take_more names i name lt)

pub as-many : {X Y : Type 0} (P : X → Y → Type 0) (xs : List X) (ys : List Y) → AllZip P xs ys →
    length xs ≡ length ys
as-many P [] [] each = refl
as-many P (x ∷ xs) [] each = absurd each
as-many P [] (y ∷ ys) each = absurd each
as-many P (x ∷ xs) (y ∷ ys) each = ap suc (as-many P xs ys each.1)

abbrev IsHalf : MadeFile → Type 0
IsHalf file = file.whole ≡ false

-- so many of the first runs have their files, and these were begun beside them
has-first : (m : Making) (names : List (List ℕ)) (l : Layout) (to : Progress)
    (input rest : Option (List ℕ)) (runs : List Run) (i : ℕ) → i ≤ length runs →
    (parts : List (List DataRecord)) (files more : List MadeFile) →
    AllZip (IsListed (duration_of l.key.duration)) parts (take i runs) →
    ReadsOn l initial_progress to input rest (flat_map (λ part. part) parts) →
    AllZip (HoldsRun m.known l.key) parts files → length more ≤ 1 →
    All (λ (file : MadeFile). file.whole ≡ false) more → m.after ≡ m.before ++ (files ++ more) →
    names_of (files ++ more) ≡ take (i + length more) names → HasFirst m names l input runs
has-first m names l to input rest runs i within parts files more listed read held few are made
    named =
    let d = duration_of l.key.duration in
    let count : length parts ≡ i = as-many (IsListed d) parts (take i runs) listed
    ∙ length-take-le i runs within in
    let all : i + length more ≡ length (files ++ more) =
    omega (
      arith,
      count,
      as-many (HoldsRun m.known l.key) parts files held,
      length-append files
          more,
    )
    in
    record {
      runs = parts;
      are_listed = subst (λ n. AllZip (IsListed d) parts (take n runs)) (sym count) listed;
      to = to;
      rest = rest;
      read = read;
      whole = files;
      held = held;
      half = more;
      at_most = few;
      are_half = are;
      made = made;
      named = named ∙ ap (λ n. take n names) all;
    }

-- none were begun beside them
alone : (m : Making) (names : List (List ℕ)) (l : Layout) (to : Progress)
    (input rest : Option (List ℕ)) (runs : List Run) (i : ℕ) → i ≤ length runs →
    (parts : List (List DataRecord)) (files : List MadeFile) →
    AllZip (IsListed (duration_of l.key.duration)) parts (take i runs) →
    ReadsOn l initial_progress to input rest (flat_map (λ part. part) parts) →
    AllZip (HoldsRun m.known l.key) parts files → m.after ≡ m.before ++ files →
    names_of files ≡ take i names → HasFirst m names l input runs
alone m names l to input rest runs i within parts files listed read held made named =
    has-first m names l to input rest runs i within parts files [] listed read held (omega arith)
    (All-nil IsHalf) (made ∙ ap (λ (fs : List MadeFile). m.before ++ fs) (sym (append-nil files)))
    (ap (λ (fs : List MadeFile). names_of fs) (append-nil files) ∙ named
    ∙ ap (λ n. take n names) (omega arith))

pub first-made : (m : Making) (names : List (List ℕ)) (l : Layout) (to : Progress)
    (input rest : Option (List ℕ)) (runs : List Run) (i : ℕ) → i ≤ length runs →
    MakesEach m (take i names) l to input rest (take i runs) → HasFirst m names l input runs
first-made m names l to input rest runs i within each =
    alone m names l to input rest runs i within each.parts each.files each.listed each.read
    each.held
    each.made each.named

-- all of them
pub all-first : (m : Making) (names : List (List ℕ)) (l : Layout) (to : Progress)
    (input rest : Option (List ℕ)) (runs : List Run) → length names ≡ length runs →
    MakesEach m names l to input rest runs → HasFirst m names l input runs
all-first m names l to input rest runs fit each =
    let n = length runs in
    first-made m names l to input rest runs n (omega arith)
    (subst (λ (rs : List Run). MakesEach m (take n names) l to input rest rs)
    (sym (take_all n runs (omega arith)))
    (subst (λ (ns : List (List ℕ)). MakesEach m ns l to input rest runs)
    (sym (take_all n names (omega (arith, fit)))) each))

pub all-made : (m : Making) (names : List (List ℕ)) (l : Layout) (to : Progress)
    (input rest : Option (List ℕ)) (runs : List Run) (i : ℕ) → length names ≡ length runs →
    length runs ≤ i → MakesEach m (take i names) l to input rest (take i runs) →
    MakesEach m names l to input rest runs
all-made m names l to input rest runs i fit all each =
    subst (λ (rs : List Run). MakesEach m names l to input rest rs) (take_all i runs all)
    (subst (λ (ns : List (List ℕ)). MakesEach m ns l to input rest (take i runs))
    (take_all i names (omega (arith, fit, all))) each)

-- ---- one file more

module _ (a b : Making) (known : b.known ≡ a.known) (before : b.before ≡ a.after)
    (failed : b.failed_before ≡ a.failed_after) (names : List (List ℕ)) (l : Layout)
    (mid : Progress) (input middle : Option (List ℕ)) (runs : List Run) (i : ℕ) (run : Run)
    (name : List ℕ) (lt : i < length runs) (is : run ≡ get_or runs i run)
    (named : i < length names) (is_name : name ≡ get_or names i name)
    (so_far : MakesEach a (take i names) l mid input middle (take i runs)) where
  more-made : (file : MadeFile) → b.after ≡ b.before ++ (file ∷ []) →
      b.after ≡ a.before ++ (so_far.files ++ (file ∷ []))
  more-made file made =
      made ∙ ap (λ (fs : List MadeFile). fs ++ (file ∷ [])) (before ∙ so_far.made)
      ∙ append_assoc a.before so_far.files (file ∷ [])

  -- it is whole
  pub makes-more : (to : Progress) (rest : Option (List ℕ)) →
      MakesFile b name l mid to middle rest run →
      MakesEach (then a b) (take (i + 1) names) l to input rest (take (i + 1) runs)
  makes-more to rest one = record {
    parts = so_far.parts ++ (one.records ∷ []);
    listed = one-more (IsListed (duration_of l.key.duration)) so_far.parts runs i one.records run
        lt is so_far.listed one.listed;
    read = subst (ReadsOn l initial_progress to input rest)
        (sym (joined_more so_far.parts one.records))
        (reads-then l initial_progress mid to input middle rest _ one.records refl so_far.read
        one.read);
    files = so_far.files ++ (one.file ∷ []);
    made = more-made one.file one.made;
    named = names-more so_far.files one.file names i name named is_name one.named so_far.named;
    held = both (HoldsRun a.known l.key) so_far.parts so_far.files one.records one.file
        so_far.held (subst (λ known. HoldsRun known l.key one.records one.file) known one.held);
    unfailed = one.unfailed ∙ failed ∙ so_far.unfailed;
  }

  -- it is not
  pub makes-no-more : LacksFile b name → HasFirst (then a b) names l input runs
  makes-no-more (inl same) = alone (then a b) names l mid input middle runs i
      (omega (arith, lt)) so_far.parts so_far.files so_far.listed so_far.read so_far.held
      (same ∙ before ∙ so_far.made) so_far.named
  makes-no-more (inr half) = has-first (then a b) names l mid input middle runs i
      (omega (arith, lt)) so_far.parts so_far.files (half.part ∷ []) so_far.listed so_far.read
      so_far.held (omega arith) (All-cons IsHalf half.part [] half.is_half (All-nil IsHalf))
      (more-made half.part half.behind)
      (names-more so_far.files half.part names i name named is_name half.named so_far.named)

-- ---- no file yet

pub none-made : (m : Making) (names : List (List ℕ)) (l : Layout) (to : Progress)
    (input : Option (List ℕ)) (runs : List Run) → to ≡ initial_progress → m.after ≡ m.before →
    m.failed_after ≡ m.failed_before → MakesEach m (take 0 names) l to input input (take 0 runs)
none-made m names l to input runs first made failed = record {
  parts = [];
  listed = tt;
  read = subst (λ (p : Progress). ReadsOn l initial_progress p input input []) (sym first)
      (none_read l initial_progress input (omega arith));
  files = [];
  made = made ∙ sym (append-nil m.before);
  named = refl;
  held = tt;
  unfailed = failed;
}
