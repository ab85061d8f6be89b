-- Where there is no database, none is found; and rows of neither table stand for nothing.
use Rattle.std.proofs.Common.{◌≡◌, ◌<◌, ℕ, ◌-◌, ◌*◌, inl, inr, ℤ, List, [], ◌∷◌, map, length, take}
use Rattle.std.proofs.Common.{slice_index, Option, Some, unwrap_or, Contains, All, refl, sym, ap}
use Rattle.std.proofs.Common.{subst, ◌∙◌, arith, get_or-take, zero-add, length-take, codes, ◌++◌}
use Rattle.std.proofs.Common.{true, false}
use Rattle.std.proofs.lemmas.Bool.{cases_lt}
use Rattle.std.proofs.lemmas.List.{get_or_past}
use Rattle.std.proofs.Math.Logic.{∥∥₁_elim}
use Rattle.std.proofs.lemmas.List.Elements.{All-from_recursion}
use Rattle.std.proofs.lemmas.List.Sorted.{length_permutation}
use Rattle.sqlite_wal.specs.Format.{part}
use Rattle.sqlite_wal.specs.Recovery.{Image, pages_after}
use Rattle.sqlite_wal.proofs.PartLemmas.{slice_index-part, part_within}
use Rattle.sqlite_wal.proofs.RecoveryLemmas.{replays_once}
use Rattle.sqlite_wal.proofs.AppendLemmas.{some_value, page_from_pages}
use Rattle.sqlite_pages.specs.PageMap.{PageMap}
use Rattle.sqlite_pool.specs.Stored.{stored_size, Adopts}
use Rattle.sqlite_pool.specs.StoredLaws.{trimmed_some}
use Rattle.sqlite_pool.specs.File.{header_in, IsSoundFile}
use Rattle.sqlite_pool.specs.Opening.{IsBlankFile}
use Rattle.sqlite_pool.proofs.ProbeLemmas.{first_byte}
use Rattle.sqlite_pool.specs.Stored.{used_size}
use Rattle.sqlite.specs.Order.{Row}
use Rattle.sqlite.specs.Tree.{Trees}
use Rattle.sqlite.specs.Files.{HoldsDatabase, IsNothing, IsEmpty, AreFoundIn}
use Rattle.edf_tables.specs.Columns.{stored_recordings, stored_id, stored_identity, stored_records}
use Rattle.edf_header.specs.Key.{Key}
use Rattle.edf_holdings.specs.Holdings.{nothing_held}
use Rattle.edf_holdings.proofs.Added.{nothing_is_sound}
use Rattle.edf_rows.specs.Cells.{recording_cells, recordings_in}
use Rattle.edf_rows.specs.Rows.{HasRecordingRow, IsRecordingRow, BelongsToRecording}
use Rattle.edf_rows.specs.Rows.{RepresentCommitted}
use Rattle.edf_rows.proofs.Rows.{no_member}

-- ---- no database

-- the first page of a database begins with SQLite's name, so it has some bytes
letter : (size : ℕ) (pages : PageMap) (page : List ℕ) → pages 1 ≡ Some (take size page) →
    IsSoundFile size pages → (k v : ℕ) → k < 16 → slice_index (codes "SQLite format 3" ++ 0 ∷ []) k
    ≡ v → slice_index (take size page) k ≡ v
letter size pages page used sound k v low is =
    let head : header_in pages ≡ take 100 (take size page) =
    ap (λ (o : Option (List ℕ)). take 100 (unwrap_or o [])) used in
    sym (get_or-take 100 (take size page) k 0 (omega (arith, low)))
    ∙ ap (λ (b : List ℕ). slice_index b k) (sym head)
    ∙ sym (get_or-take 16 (header_in pages) k 0 low)
    ∙ ap (λ (b : List ℕ). slice_index b k) sound.header.0.magic ∙ is

within : (size k : ℕ) (page : List ℕ) → slice_index (take size page) k ≡ 81 → k < size
within size k page h = elim (cases_lt k size) [
  | inl low ↦ low
  | inr past ↦ absurd (let none = get_or_past (take size page) k 0
      (omega (arith, length-take size page, past)) in let e : ◌≡◌ {A = ℕ} 0 81 = sym none ∙ h in
      omega (arith, e))
]

never_blank : (size : ℕ) (image : Image) (pages : PageMap) → Adopts size image pages →
    IsSoundFile size pages → (other : ℕ) → 0 < other → ¬ IsBlankFile other image
never_blank size image pages found sound other some (inl none) = omega (arith, found.found.present)
never_blank size image pages found sound other some (inr blank) =
    let raw = found.found in
    let none : raw.frames ≡ 0 = elim blank.0 [
      | inl ignored ↦ replays_once (stored_size size) image.log raw.frames 0 raw.replays
          (inl (ignored.0, refl))
      | inr taken ↦ elim raw.replays [
        | inl ignored ↦ ignored.1
        | inr ours ↦ replays_once (stored_size size) image.log raw.frames 0 raw.replays
            (rw (sym ours.0.head.size ∙ taken.0.head.size) blank.0)
      ]
    ] in
    let whole = stored_size size in
    let (page, is) = some_value (found.stored 1) found.whole.first in
    let used : pages 1 ≡ Some (take size page) = ap (λ (p : PageMap). p 1) (sym found.shows)
    ∙ trimmed_some size _ 1 page is in
    let first = letter size pages page used sound 0 83 (omega arith) refl in
    let large = within size 1 page (letter size pages page used sound 1 81 (omega arith) refl) in
    let alone : pages_after whole image.log image.db 0 1 ≡ Some page =
    ap (λ (p : PageMap). p 1) (ap (pages_after whole image.log image.db) (sym none) ∙ raw.gives)
    ∙ is in
    let start : (1 - 1) * whole ≡ 0 = omega arith in
    let front : part image.db 0 whole ≡ page = ap (λ (at : ℕ). part image.db at whole) (sym start)
    ∙ (page_from_pages whole image.log image.db 0 1 page alone).0 in
    let magic : slice_index image.db 0 ≡ 83 =
    ap (slice_index image.db) (sym (zero-add 0)) ∙ sym
    (slice_index-part image.db 0 whole 0 (omega (arith, large)))
    ∙ ap (λ (b : List ℕ). slice_index b 0) front
    ∙ sym (get_or-take size page 0 0 (omega (arith, large))) ∙ first in
    let long = part_within image.db 0 whole (omega (arith, large))
    (ap length front ∙ found.whole.sized 1 page is) in
    elim blank.1.0 [
      | inl short ↦ omega (arith, short, long, large)
      | inr more ↦ elim more [
        | inl zero' ↦ omega (arith, zero'.1, magic)
        | inr rest ↦ rest.1 (magic ∙ sym (first_byte other some))
      ]
    ]

-- one that is there is found
pub nothing_holds : (image : Image) (db : Trees) → IsNothing image → HoldsDatabase image db → ⊥
nothing_holds image db nothing held =
    let it = held.2 in
    let never = never_blank held.0 image it.pages it.found it.ours.file.sound in
    elim nothing [
      | inl plain ↦ never (used_size 4096 false) (omega arith) plain
      | inr summed ↦ never (used_size 4096 true) (omega arith) summed
    ]

pub nothing_found : (image : Image) (db : Trees) → IsNothing image → AreFoundIn image db →
    IsEmpty db
nothing_found image db nothing (inr none) = none.1
nothing_found image db nothing (inl found) =
    absurd (∥∥₁_elim found.4 (λ a. absurd a) (λ ours.
    let never = never_blank found.0 image found.1 found.3 ours.file.sound in
    elim nothing [
      | inl plain ↦ never (used_size 4096 false) (omega arith) plain
      | inr summed ↦ never (used_size 4096 true) (omega arith) summed
    ]))

-- ---- no rows

pub nothing_kept : (cap : ℕ) (trees : Trees) → stored_recordings trees ≡ [] →
    stored_records trees ≡ [] → RepresentCommitted cap trees nothing_held
nothing_kept cap trees first second =
    let none : recordings_in trees ≡ [] = ap (λ (rows : List Row). map
    (λ row. stored_id row ∷ stored_identity row ∷ []) rows) first in
    let never = λ (id : ℤ) (k : Key) (there : HasRecordingRow trees id k). no_member
    (recording_cells id k)
    (subst (λ (rows : List Row). Contains rows (recording_cells id k)) none there.row) in
    record {
      stand = record {
        recordings = subst (All IsRecordingRow) (sym none)
            (All-from_recursion IsRecordingRow [] tt);
        apart = λ a b two. absurd (let n = length_permutation (recordings_in trees) _ two.1 in
            let m = ap (λ (rows : List Row). length rows) none in omega (arith, n, m));
        owned = subst (All (BelongsToRecording trees)) (sym second)
            (All-from_recursion (BelongsToRecording trees) [] tt);
        held = λ id k there. absurd (never id k there);
        others = λ k no. refl;
      };
      sound = nothing_is_sound cap;
      each = λ id k there _. never id k there;
    }
