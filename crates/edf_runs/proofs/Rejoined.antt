-- Nothing is lost where a file is split into its runs.
use Rattle.std.proofs.Common.{◌≡◌, ℕ, ◌≤◌, List, [], ◌∷◌, length, All, Contains}
use Rattle.std.proofs.Common.{sym, ap, ◌∙◌, subst, arith, inl, inr}
use Rattle.std.specs.List.{flat_map, AllZip, AllByRecursion}
use Rattle.std.proofs.lemmas.List.Elements.{Contains-append_left, Contains-append_right}
use Rattle.std.proofs.lemmas.List.Elements.{Contains-append_cases}
use Rattle.edf_field.specs.Number.{duration_of}
use Rattle.edf_header.specs.Key.{Key}
use Rattle.edf_fragment.specs.Fragment.{DataRecord, IsFragmentFile}
use Rattle.edf_fragment.specs.Parsed.{Parsed, Fragment, ParsesTo}
use Rattle.edf_fragment.proofs.Parsed.{one-parse}
use Rattle.edf_holdings.specs.Clash.{NoClash}
use Rattle.edf_holdings.specs.Rising.{union}
use Rattle.edf_holdings.specs.Holdings.{Holdings, IsSound, with_records, nothing_held}
use Rattle.edf_holdings.specs.Reply.{IsWellFormed, IsAccepted, after, replies}
use Rattle.edf_holdings.specs.ConflictFree.{IsFragment, IsConflictFree, HasRecordUnder, SameRecords}
use Rattle.edf_holdings.specs.Laws.{AreWellFormed}
use Rattle.edf_holdings.proofs.Joining.{put_cases, put_here, lasting, apart-sound}
use Rattle.edf_holdings.proofs.ConflictFree.{IsAmong, IsAmong-from_Any, Any-from_IsAmong}
use Rattle.edf_holdings.proofs.ConflictFree.{any_order_law, recut_law}
use Rattle.edf_holdings.proofs.InSets.{from_nothing}
use Rattle.edf_holdings.proofs.Recut.{free_of_same, alone_is_free}
use Rattle.edf_holdings.proofs.ParsedIsWellFormed.{parsed_is_well_formed}
use Rattle.edf_runs.specs.File.{IsRunFile}
use Rattle.edf_runs.specs.Rejoined.{AreRunFiles, RunsRejoin}
use Rattle.edf_runs.proofs.Members.{contains-first, contains-later, contains-cases}
use Rattle.edf_runs.proofs.RunFiles.{run-file-spells}

-- ---- members of lists

abbrev all_of : List (List DataRecord) → List DataRecord
all_of runs = flat_map (λ run. run) runs

-- a data record of the runs joined is one of a run
in-a-run : (runs : List (List DataRecord)) (r : DataRecord) → Contains (all_of runs) r →
    (run : List DataRecord) × Contains runs run × Contains run r
in-a-run [] r c = absurd (omega (arith, c.1))
in-a-run (run ∷ runs) r c = elim (Contains-append_cases run (all_of runs) r c) [
  | inl here ↦ (run, contains-first run runs, here)
  | inr later ↦ let more = in-a-run runs r later in
      (more.0, contains-later run runs more.0 more.1, more.2)
]

in-all : (runs : List (List DataRecord)) (run : List DataRecord) (r : DataRecord) →
    Contains runs run → Contains run r → Contains (all_of runs) r
in-all [] run r is-run c = absurd (omega (arith, is-run.1))
in-all (first ∷ runs) run r is-run c = elim (contains-cases first runs run is-run) [
  | inl same ↦ Contains-append_left first (all_of runs) r
      (subst (λ (l : List DataRecord). Contains l r) (sym same) c)
  | inr later ↦ Contains-append_right first (all_of runs) r (in-all runs run r later c)
]

-- ---- what the files tell

-- a run of the key
record TellsRun (k : Key) (runs : List (List DataRecord)) (told : Parsed) : Type 0 where
  run : List DataRecord
  is_run : Contains runs run
  is : told ≡ Fragment k run

-- the file of a run
abbrev IsFileOfRun : Key → List (List DataRecord) → List ℕ → Type 0
IsFileOfRun k runs file = (run : List DataRecord) × Contains runs run × IsRunFile file k run

module _ (k : Key) (runs : List (List DataRecord)) where
  all-tell : (files : List (List ℕ)) (tolds : List Parsed) → AllZip ParsesTo files tolds →
      ((file : List ℕ) → Contains files file → IsFileOfRun k runs file)
      → AllByRecursion (TellsRun k runs) tolds
  all-tell [] [] tell of = tt
  all-tell [] (told ∷ tolds) tell of = absurd tell
  all-tell (file ∷ files) [] tell of = absurd tell
  all-tell (file ∷ files) (told ∷ tolds) tell of =
      let one = of file (contains-first file files) in (
        record {
          run = one.0;
          is_run = one.1;
          is =
              one-parse file told (Fragment k one.0) tell.0 (run-file-spells file k one.0 one.2);
        },
        all-tell files tolds tell.1 (λ other c. of other (contains-later file files other c)),
      )

  all-fragments : (tolds : List Parsed) → AllByRecursion (TellsRun k runs) tolds →
      AllByRecursion IsFragment tolds
  all-fragments [] tell = tt
  all-fragments (told ∷ tolds) tell =
      (subst IsFragment (sym tell.0.is) tt, all-fragments tolds tell.1)

  -- a data record that is told is one of the runs
  told-in-runs : (tolds : List Parsed) (q : Key) (r : DataRecord) →
      AllByRecursion (TellsRun k runs) tolds → IsAmong q r tolds → (k ≡ q)
      × Contains (all_of runs) r
  told-in-runs [] q r tell has = absurd has
  told-in-runs (told ∷ tolds) q r tell (inl here) =
      let has : HasRecordUnder q r (Fragment k tell.0.run) =
      subst (HasRecordUnder q r) tell.0.is here in
      (has.0, in-all runs tell.0.run r tell.0.is_run has.1)
  told-in-runs (told ∷ tolds) q r tell (inr later) = told-in-runs tolds q r tell.1 later

pub told-sound : (files : List (List ℕ)) (tolds : List Parsed) → AllZip ParsesTo files tolds →
    AreWellFormed tolds
told-sound [] [] tell = tt
told-sound [] (told ∷ tolds) tell = absurd tell
told-sound (file ∷ files) [] tell = absurd tell
told-sound (file ∷ files) (told ∷ tolds) tell =
    (parsed_is_well_formed file told tell.0, told-sound files tolds tell.1)

-- what a file of the list tells is told
pub file-told : (files : List (List ℕ)) (tolds : List Parsed) (file : List ℕ) (k q : Key)
    (run : List DataRecord) (r : DataRecord) → AllZip ParsesTo files tolds → Contains files file
    → IsFragmentFile file k run → HasRecordUnder q r (Fragment k run) → IsAmong q r tolds
file-told [] tolds file k q run r tell c spells has = absurd (omega (arith, c.1))
file-told (first ∷ files) [] file k q run r tell c spells has = absurd tell
file-told (first ∷ files) (told ∷ tolds) file k q run r tell c spells has =
    elim (contains-cases first files file c) [
      | inl same ↦
          let is = one-parse first told (Fragment k run) tell.0
          (subst (λ (l : List ℕ). IsFragmentFile l k run) (sym same) spells) in
          inl (subst (HasRecordUnder q r) (sym is) has)
      | inr later ↦ inr (file-told files tolds file k q run r tell.1 later spells has)
    ]

-- ---- the whole file, told alone

abbrev pub whole : Key → List DataRecord → List Parsed
whole k records = Fragment k records ∷ []

module _ (cap : ℕ) (h : Holdings) (k : Key) (records : List DataRecord) (sound : IsSound cap h)
    (none : h k ≡ []) (told : IsWellFormed (Fragment k records)) where
  -- what the key holds with them is what it would hold where nothing was held
  as-from-nothing : with_records k records nothing_held k ≡ union (h k) records
  as-from-nothing = put_here k records nothing_held
      ∙ ap (λ (l : List DataRecord). union l records) (sym none)

  alone-free : length records ≤ cap → IsConflictFree cap h (whole k records)
  alone-free few =
      let alone = alone_is_free cap k records told few in
      record {
        fragments = (tt, tt);
        no_clash = put_cases k records h (λ q l. NoClash (duration_of q.duration) l)
            (subst (λ (l : List DataRecord). NoClash (duration_of k.duration) l) as-from-nothing
            (alone.no_clash k)) sound.no_clash;
        within_cap = put_cases k records h (λ q l. length l ≤ cap)
            (subst (λ (l : List DataRecord). length l ≤ cap) as-from-nothing (alone.within_cap k))
            sound.within_cap;
      }

  alone-leaves : length records ≤ cap → after cap h (whole k records) k ≡ records
  alone-leaves few =
      let apart = apart-sound k 0 records told.1 in
      ap (λ (left : Holdings). left k) (any_order_law cap h (whole k records) sound (
        told,
        tt,
      ) (alone-free few)).1
      ∙ put_here k records h ∙ ap (λ (l : List DataRecord). union l records) none
      ∙ from_nothing (duration_of k.duration) 0 records (lasting k told.0) apart apart

-- submissions that hold just the data records of the whole file
pub told-as-whole : (cap : ℕ) (h : Holdings) (k : Key) (records : List DataRecord)
    (tolds : List Parsed) → IsSound cap h → h k ≡ [] → IsWellFormed (Fragment k records) →
    length records ≤ cap → AreWellFormed tolds → AllByRecursion IsFragment tolds →
    SameRecords (whole k records) tolds →
    All IsAccepted (replies cap h tolds) × (after cap h tolds ≡ with_records k records h)
    × (after cap h tolds k ≡ records)
told-as-whole cap h k records tolds sound none told few each fragments same =
    let free = alone-free cap h k records sound none told few in
    let free-too = free_of_same cap h (whole k records) tolds sound (
      told,
      tt,
    ) each free fragments same in
    let ends = recut_law cap h (whole k records) tolds sound (told, tt) each free free-too same in
    let whole-left = (any_order_law cap h (whole k records) sound (told, tt) free).1 in (
      (any_order_law cap h tolds sound each free-too).0,
      sym ends ∙ whole-left,
      ap (λ (held : Holdings). held k) (sym ends)
          ∙ alone-leaves cap h k records sound none told few,
    )

-- the runs' files hold the data records of the whole
same-records : (k : Key) (records : List DataRecord) (runs : List (List DataRecord))
    (files : List (List ℕ)) (tolds : List Parsed) → all_of runs ≡ records
    → AreRunFiles k runs files → AllZip ParsesTo files tolds → SameRecords (whole k records) tolds
same-records k records runs files tolds joined-is are tell q r = (
  (λ any. Any-from_IsAmong q r tolds (forth (IsAmong-from_Any q r (whole k records) any))),
  (λ any. Any-from_IsAmong q r (whole k records) (back (IsAmong-from_Any q r tolds any))),
)
  where
    forth : IsAmong q r (whole k records) → IsAmong q r tolds
    forth (inl has) =
        let run = in-a-run runs r (subst (λ (l : List DataRecord). Contains l r) (sym joined-is)
        has.1) in
        let file = are.each run.0 run.1 in
        file-told files tolds file.0 k q run.0 r tell file.1 (run-file-spells file.0 k run.0 file.2)
        (has.0, run.2)
    forth (inr none) = absurd none

    back : IsAmong q r tolds → IsAmong q r (whole k records)
    back among =
        let has = told-in-runs k runs tolds q r (all-tell k runs files tolds tell are.only) among in
        inl (has.0, subst (λ (l : List DataRecord). Contains l r) joined-is has.1)

pub runs-rejoin : RunsRejoin
runs-rejoin cap h bytes k records runs files tolds sound none spells few are files-are tell =
    told-as-whole cap h k records tolds sound none
    (parsed_is_well_formed bytes (Fragment k records) spells)
    few (told-sound files tolds tell)
    (all-fragments k runs tolds (all-tell k runs files tolds tell files-are.only))
    (same-records k records runs files tolds are.joined files-are tell)
