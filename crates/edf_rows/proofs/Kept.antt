-- Rows whose recordings each have sound records stand for holdings.
use Rattle.std.proofs.Common.{◌≡◌, ◌≢◌, ℕ, ◌+◌, ◌≤◌, ◌⊎◌, inl, inr, ℤ, Bool, true, false, cond}
use Rattle.std.proofs.Common.{List, [], ◌∷◌, map, length, Contains, All, IsPermutation, refl, sym}
use Rattle.std.proofs.Common.{ap, subst, ◌∙◌, arith, true≢false}
use Rattle.std.specs.List.{AllByRecursion}
use Rattle.std.proofs.lemmas.List.Elements.{All-from_recursion}
use Rattle.std.proofs.lemmas.List.Sorted.{IsPermutation-cons, IsPermutation-trans}
use Rattle.std.proofs.lemmas.List.Sorted.{IsPermutation-sym, IsPermutation-middle}
use Rattle.std.proofs.lemmas.List.Sorted.{IsPermutation-refl}
use Rattle.sqlite_value.specs.Order.{Row, column}
use Rattle.sqlite_trees.specs.Tree.{Trees}
use Rattle.edf_field.specs.Number.{duration_of}
use Rattle.edf_header.specs.Key.{Key, IsKey}
use Rattle.edf_fragment.specs.Fragment.{DataRecord}
use Rattle.edf_holdings.specs.Same.{same_key}
use Rattle.edf_holdings.specs.Clash.{NoClash}
use Rattle.edf_holdings.specs.Rising.{IsRising}
use Rattle.edf_fragment.specs.Sound.{IsSoundRecord, AreSoundFrom, FirstMayStart}
use Rattle.edf_holdings.specs.Holdings.{Holdings}
use Rattle.edf_holdings.proofs.Same.{same_key-Decides, same_key-true, test_from_Clash}
use Rattle.edf_holdings.proofs.Joining.{apart-sound, rising_from_apart, free_from_apart, lasting}
use Rattle.edf_holdings.proofs.Joining.{In-from_Contains}
use Rattle.edf_rows.specs.Cells.{record_cells, recording_cells, recordings_in, records_in}
use Rattle.edf_rows.specs.Rows.{IsRecordingRow, BelongsToRecording, AreTwoOf, DifferInIdAndKey}
use Rattle.edf_rows.specs.Rows.{RepresentCommitted}
use Rattle.edf_rows.specs.Inside.Shape.{HasRecords}
use Rattle.edf_rows.proofs.Rows.{here, there, cases_first, no_member, same-recordings}

-- ---- two of a list
pub two_later : (row a b : Row) (rows : List Row) → AreTwoOf rows a b → AreTwoOf (row ∷ rows) a b
two_later row a b rows two = (
  row ∷ two.0,
  IsPermutation-trans _ _ _ (IsPermutation-cons row rows (a ∷ b ∷ two.0) two.1)
      (IsPermutation-sym _ _ (IsPermutation-middle (a ∷ b ∷ []) row two.0)),
)

moved_front : (rows : List Row) (x : Row) → Contains rows x → (rest : List Row)
    × IsPermutation rows (x ∷ rest)
moved_front [] x c = absurd (no_member x c)
moved_front (row ∷ rows) x c = go (cases_first row x rows c) (moved_front rows x)
  where
    go : (row ≡ x) ⊎ Contains rows x →
        (Contains rows x → (rest : List Row) × IsPermutation rows (x ∷ rest)) → (rest : List Row)
        × IsPermutation (row ∷ rows) (x ∷ rest)
    go (inl e) more = (
      rows,
      subst (λ y. IsPermutation (row ∷ rows) (y ∷ rows)) e
          (IsPermutation-refl (row ∷ rows)),
    )
    go (inr c) more =
        let rest = more c in (
          row ∷ rest.0,
          IsPermutation-trans _ _ _ (IsPermutation-cons row rows (x ∷ rest.0) rest.1)
              (IsPermutation-sym _ _ (IsPermutation-middle (x ∷ []) row rest.0)),
        )

pub first_two : (row x : Row) (rows : List Row) → Contains rows x → AreTwoOf (row ∷ rows) row x
first_two row x rows c = let front = moved_front rows x c in
    (front.0, IsPermutation-cons row rows (x ∷ front.0) front.1)

-- ---- the holdings
abbrev pub held_of : (cap : ℕ) (trees : Trees) (rows : List Row) →
    AllByRecursion (HasRecords cap trees) rows → Holdings
held_of cap trees [] all k = []
held_of cap trees (row ∷ rows) all k =
    cond (same_key all.0.key k) all.0.records (held_of cap trees rows all.1 k)

-- what all of them keep
held_keeps : (cap : ℕ) (trees : Trees) (P : Key → List DataRecord → Type 0) → ((k : Key) → P k []) →
    ((row : Row) (has : HasRecords cap trees row) → P has.key has.records)
    → (rows : List Row) (all : AllByRecursion (HasRecords cap trees) rows) (k : Key) →
    P k (held_of cap trees rows all k)
held_keeps cap trees P none each [] all k = none k
held_keeps cap trees P none each (row ∷ rows) all k =
    go (same_key all.0.key k) refl (held_keeps cap trees P none each rows all.1 k)
  where
    go : (b : Bool) → same_key all.0.key k ≡ b → P k (held_of cap trees rows all.1 k) →
        P k (cond b all.0.records (held_of cap trees rows all.1 k))
    go true e more = subst (λ q. P q all.0.records) (same_key-true all.0.key k e) (each row all.0)
    go false e more = more

held_here : (cap : ℕ) (trees : Trees) (rows : List Row)
    (all : AllByRecursion (HasRecords cap trees) rows) →
    ((a b : Row) → AreTwoOf rows a b → DifferInIdAndKey a b)
    → (id : ℤ) (k : Key) → IsKey k → Contains rows (recording_cells id k) →
    records_in trees id ≡ map record_cells (held_of cap trees rows all k)
held_here cap trees [] all apart id k key c = absurd (no_member (recording_cells id k) c)
held_here cap trees (row ∷ rows) all apart id k key c =
    go (cases_first row (recording_cells id k) rows c)
    (held_here cap trees rows all.1 (λ a b two. apart a b (two_later row a b rows two)) id k
    key)
  where
    go : (row ≡ recording_cells id k) ⊎ Contains rows (recording_cells id k) →
        (Contains rows (recording_cells id k) →
        records_in trees id ≡ map record_cells (held_of cap trees rows all.1 k))
        → records_in trees id ≡ map record_cells
        (cond (same_key all.0.key k) all.0.records (held_of cap trees rows all.1 k))
    go (inl e) more =
        let same = same-recordings all.0.id id all.0.key k all.0.is_key key (sym all.0.cells ∙ e) in
        let yes : same_key all.0.key k ≡ true = (same_key-Decides all.0.key k).1 same.1 in
        rw yes (ap (records_in trees) (sym same.0) ∙ all.0.shown)
    go (inr c) more = there_too (same_key all.0.key k) refl
      where
        there_too : (b : Bool) → same_key all.0.key k ≡ b → records_in trees id ≡ map record_cells
            (cond b all.0.records (held_of cap trees rows all.1 k))
        there_too false e = more c
        there_too true e =
            let other = apart row (recording_cells id k)
            (first_two row (recording_cells id k) rows c) in
            let same = same_key-true all.0.key k e in
            absurd (other.identity (ap (λ (r : Row). column r 1) (all.0.cells
            ∙ ap (recording_cells all.0.id) same)))

held_none : (cap : ℕ) (trees : Trees) (rows : List Row)
    (all : AllByRecursion (HasRecords cap trees) rows) (k : Key) →
    ((id : ℤ) → Contains rows (recording_cells id k) → ¬ IsKey k) →
    held_of cap trees rows all k ≡ []
held_none cap trees [] all k none = refl
held_none cap trees (row ∷ rows) all k none =
    go (same_key all.0.key k) refl (held_none cap trees rows all.1 k
    (λ id c. none id (there row (recording_cells id k) rows c)))
  where
    go : (b : Bool) → same_key all.0.key k ≡ b → held_of cap trees rows all.1 k ≡ [] →
        cond b all.0.records (held_of cap trees rows all.1 k) ≡ []
    go false e more = more
    go true e more =
        let same = same_key-true all.0.key k e in
        absurd (none all.0.id (subst (λ q. Contains (row ∷ rows) (recording_cells all.0.id q)) same
        (subst (Contains (row ∷ rows)) all.0.cells (here row rows)))
        (subst IsKey same all.0.is_key))

each_sound : (k : Key) (low : ℕ) (rs : List DataRecord) → AreSoundFrom k low rs →
    AllByRecursion (IsSoundRecord k) rs
each_sound k low [] s = tt
each_sound k low (r ∷ rs) s = (s.0, each_sound k (r.start + duration_of k.duration) rs s.2)

abbrev keys_of : (cap : ℕ) (trees : Trees) (rows : List Row) →
    AllByRecursion (HasRecords cap trees) rows → List Key
keys_of cap trees [] all = []
keys_of cap trees (row ∷ rows) all = all.0.key ∷ keys_of cap trees rows all.1

all_keys : (cap : ℕ) (trees : Trees) (rows : List Row)
    (all : AllByRecursion (HasRecords cap trees) rows) (k : Key) →
    held_of cap trees rows all k ≢ [] → Contains (keys_of cap trees rows all) k
all_keys cap trees [] all k some = absurd (some refl)
all_keys cap trees (row ∷ rows) all k some =
    go (same_key all.0.key k) refl (all_keys cap trees rows all.1 k)
  where
    go : (b : Bool) → same_key all.0.key k ≡ b →
        (held_of cap trees rows all.1 k ≢ [] → Contains (keys_of cap trees rows all.1) k) →
        Contains (keys_of cap trees (row ∷ rows) all) k
    go true e more = subst (λ q. Contains (all.0.key ∷ keys_of cap trees rows all.1) q)
        (same_key-true all.0.key k e) (here all.0.key (keys_of cap trees rows all.1))
    go false e more = there all.0.key k (keys_of cap trees rows all.1)
        (more (λ none. some (rw e none)))

rising : (k : Key) (rs : List DataRecord) → IsKey k → AreSoundFrom k 0 rs → IsRising rs
rising k rs key s = rising_from_apart (duration_of k.duration) 0 rs (lasting k key)
    (apart-sound k 0 rs s)

no_clash : (k : Key) (rs : List DataRecord) → AreSoundFrom k 0 rs →
    NoClash (duration_of k.duration) rs
no_clash k rs s x y c d clash =
    true≢false (sym (test_from_Clash (duration_of k.duration) x y clash)
    ∙ free_from_apart (duration_of k.duration) 0 rs (apart-sound k 0 rs s) x y
    (In-from_Contains rs x c) (In-from_Contains rs y d))

recordings-from : (cap : ℕ) (trees : Trees) (rows : List Row) →
    AllByRecursion (HasRecords cap trees) rows → AllByRecursion IsRecordingRow rows
recordings-from cap trees [] all = tt
recordings-from cap trees (row ∷ rows) all = (
  record { id = all.0.id; key = all.0.key; cells = all.0.cells; is_key = all.0.is_key },
  recordings-from cap trees rows all.1,
)

-- each recording's records, where it is there
some_there : (cap : ℕ) (trees : Trees) (rows : List Row) →
    AllByRecursion (HasRecords cap trees) rows → (id : ℤ) (k : Key) → IsKey k →
    Contains rows (recording_cells id k) → records_in trees id ≢ []
some_there cap trees [] all id k key c none = no_member (recording_cells id k) c
some_there cap trees (row ∷ rows) all id k key c none =
    go (cases_first row (recording_cells id k) rows c)
    (λ c. some_there cap trees rows all.1 id k key c none)
  where
    go : (row ≡ recording_cells id k) ⊎ Contains rows (recording_cells id k) →
        (Contains rows (recording_cells id k) → ⊥) → ⊥
    go (inl e) more =
        all.0.some (ap (records_in trees) (same-recordings all.0.id id all.0.key k all.0.is_key key
        (sym all.0.cells ∙ e)).0 ∙ none)
    go (inr c) more = more c

pub are-kept : (cap : ℕ) (trees : Trees)
    (all : AllByRecursion (HasRecords cap trees) (recordings_in trees)) →
    ((a b : Row) → AreTwoOf (recordings_in trees) a b → DifferInIdAndKey a b) →
    All (BelongsToRecording trees) (trees 2)
    → RepresentCommitted cap trees (held_of cap trees (recordings_in trees) all)
are-kept cap trees all apart owned =
    let rows = recordings_in trees in
    record {
      stand = record {
        recordings = All-from_recursion IsRecordingRow rows (recordings-from cap trees rows all);
        apart = apart;
        owned = owned;
        held = λ id k is. held_here cap trees rows all apart id k is.key is.row;
        others = λ k none. held_none cap trees rows all k
            (λ id c key. none id (record { row = c; key = key }));
      };
      sound = record {
        rising = held_keeps cap trees (λ k rs. IsRising rs) (λ k. tt)
            (λ row has. rising has.key has.records has.is_key has.sound) rows all;
        no_clash = held_keeps cap trees (λ k rs. NoClash (duration_of k.duration) rs)
            (λ k x y c d clash. no_member x c) (λ row has. no_clash has.key has.records has.sound)
            rows all;
        within_cap = held_keeps cap trees (λ k rs. length rs ≤ cap) (λ k. omega arith)
            (λ row has. has.within_cap) rows all;
        records = held_keeps cap trees (λ k rs. All (IsSoundRecord k) rs)
            (λ k. All-from_recursion (IsSoundRecord k) [] tt)
            (λ row has. All-from_recursion (IsSoundRecord has.key) has.records
            (each_sound has.key 0 has.records has.sound)) rows all;
        begins = held_keeps cap trees FirstMayStart (λ k. tt) (λ row has. has.begins) rows all;
        keys = held_keeps cap trees (λ k rs. rs ≢ [] → IsKey k) (λ k some. absurd (some refl))
            (λ row has some. has.is_key) rows all;
        finite = (keys_of cap trees rows all, all_keys cap trees rows all);
      };
      each = λ id k is. some_there cap trees rows all id k is.key is.row;
    }
