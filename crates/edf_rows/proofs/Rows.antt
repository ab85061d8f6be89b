-- Rows stand for one holdings at most, and are not foreign where they stand for sound ones.
use Rattle.std.proofs.Common.{◌≡◌, ◌≢◌, ℕ, zero, suc, ◌+◌, ◌<◌, ◌≤◌, ◌⊎◌, inl, inr, ℤ, pos, Bool}
use Rattle.std.proofs.Common.{true, false, cond, ◌&&◌, nat_le, nat_lt, List, [], ◌∷◌, map, length}
use Rattle.std.proofs.Common.{sum_by, Contains, slice_index_or, refl, sym, ap}
use Rattle.std.proofs.Common.{subst, ◌∙◌, arith, true≢false}
use Rattle.std.specs.List.{AllByRecursion}
use Rattle.std.proofs.Math.Path.{fun_ext}
use Rattle.std.proofs.lemmas.Bool.Decides.{nat_tests}
use Rattle.std.proofs.lemmas.List.{length-map}
use Rattle.std.proofs.lemmas.List.Elements.{All-contains, recursion_from_All}
use Rattle.std.proofs.lemmas.List.Sorted.{sum_by-IsPermutation}
use Rattle.std.proofs.lemmas.List.Sums.{sum_by-cons}
use Rattle.sqlite_value.specs.declared.value.Value.{Value}
use Rattle.sqlite_value.specs.declared.value.Value.TheVariants.{Null, Int, Real, Text, Blob}
use Rattle.sqlite_value.specs.Order.{Row, column}
use Rattle.sqlite_trees.specs.Tree.{Trees}
use Rattle.edf_field.specs.Number.{duration_of}
use Rattle.edf_header.specs.Key.{Key, IsKey, MayStart, key_bytes, key_at}
use Rattle.edf_header.proofs.Cited.{key-back}
use Rattle.edf_tal.specs.Canonical.{tals_text}
use Rattle.edf_tal.proofs.Cited.{one-writing}
use Rattle.edf_fragment.specs.Fragment.{DataRecord}
use Rattle.edf_holdings.specs.Same.{same_key}
use Rattle.edf_fragment.specs.Sound.{IsSoundRecord, FirstMayStart}
use Rattle.edf_holdings.specs.Rising.{StartsAreSpaced}
use Rattle.edf_holdings.specs.Holdings.{Holdings, IsSound}
use Rattle.edf_holdings.proofs.Same.{same_key-Decides, same_key-true}
use Rattle.edf_holdings.proofs.Joining.{IsGood-from_sound}
use Rattle.edf_rows.specs.Cells.{record_cells, recording_cells, recordings_in}
use Rattle.edf_rows.specs.Rows.{HasRecordingRow, IsRecordingRow, BelongsToRecording, Represent}
use Rattle.edf_rows.specs.Rows.{RepresentCommitted}
use Rattle.edf_rows.specs.Foreign.{IsBadRow, bad_start, bad_samples, bad_block, AreTooNear}
use Rattle.edf_rows.specs.Foreign.{BeginsTooLate, AreBadRecords, bad_row, too_near, too_late}
use Rattle.edf_rows.specs.Foreign.{too_few, too_many, IsForeign, bad_recording, bad_records}
use Rattle.edf_rows.specs.Foreign.{without_recording, twice}
use Rattle.edf_rows.proofs.RowCells.{own-read, blob-bytes, int-number}

-- ---- members
pub here : {X : Type 0} (x : X) (xs : List X) → Contains (x ∷ xs) x
here x xs = (0, omega arith, refl)

pub there : {X : Type 0} (y x : X) (xs : List X) → Contains xs x → Contains (y ∷ xs) x
there y x xs c = (suc c.0, omega (arith, c.1), c.2)

pub cases_first : {X : Type 0} (y x : X) (xs : List X) → Contains (y ∷ xs) x → (y ≡ x)
    ⊎ Contains xs x
cases_first y x xs c = go c.0 c.1 c.2
  where
    go : (k : ℕ) → k < length (y ∷ xs) → slice_index_or (y ∷ xs) k x ≡ x → (y ≡ x) ⊎ Contains xs x
    go zero low e = inl e
    go (suc k) low e = inr (k, omega (arith, low), e)

pub no_member : {X : Type 0} (x : X) → ¬ Contains [] x
no_member x c = absurd (let low = c.1 in omega (arith, low))

pub mapped : {X : Type 0} (f : X → Row) (P : X → Type 0) (xs : List X) (row : Row) →
    AllByRecursion P xs → Contains (map f xs) row → (x : X) × P x × (row ≡ f x)
mapped f P [] row all c = absurd (no_member row c)
mapped f P (x ∷ xs) row all c = go (cases_first (f x) row (map f xs) c) (mapped f P xs row all.1)
  where
    go : (f x ≡ row) ⊎ Contains (map f xs) row →
        (Contains (map f xs) row → (x : _) × P x × (row ≡ f x)) → (x : _) × P x × (row ≡ f x)
    go (inl e) more = (x, all.0, sym e)
    go (inr c) more = more c

-- ---- cells are one to one
pos-number : (a b : ℕ) → pos a ≡ pos b → a ≡ b
pos-number a b h = cc

pub same-keys : (a b : Key) → IsKey a → IsKey b → key_bytes a ≡ key_bytes b → a ≡ b
same-keys a b p q e = sym (key-back a p.sized) ∙ ap key_at e ∙ key-back b q.sized

pub same-recordings : (i j : ℤ) (a b : Key) → IsKey a → IsKey b →
    recording_cells i a ≡ recording_cells j b → (i ≡ j) × (a ≡ b)
same-recordings i j a b p q e = (
  int-number i j (ap (λ (r : Row). column r 0) e),
  same-keys a b p q (blob-bytes (key_bytes a) (key_bytes b) (ap (λ (r : Row). column r 1) e)),
)

pub same-records : (k : Key) (r s : DataRecord) → IsSoundRecord k r → IsSoundRecord k s →
    record_cells r ≡ record_cells s → r ≡ s
same-records k r s p q e =
    let start : r.start ≡ s.start =
    pos-number r.start s.start (int-number (pos r.start) (pos s.start)
    (ap (λ (x : Row). column x 0) e)) in
    let samples : r.samples ≡ s.samples =
    blob-bytes r.samples s.samples (ap (λ (x : Row). column x 1) e) in
    let blocks : tals_text 0 r.start r.annotations ≡ tals_text 0 s.start s.annotations =
    blob-bytes _ _ (ap (λ (x : Row). column x 2) e) in
    let same = one-writing 0 r.start s.start r.annotations s.annotations (omega arith) p.start
    q.start p.notes q.notes p.limits q.limits blocks in
    λ i. record { start = start i; samples = samples i; annotations = same.list i }

pub same-lists : (k : Key) (xs ys : List DataRecord) → AllByRecursion (IsSoundRecord k) xs →
    AllByRecursion (IsSoundRecord k) ys → map record_cells xs ≡ map record_cells ys → xs ≡ ys
same-lists k [] [] p q e = refl
same-lists k [] (y ∷ ys) p q e =
    absurd (let n : ◌≡◌ {A = ℕ} 0 (suc (length (map record_cells ys))) = ap length e in
    omega (arith, n))
same-lists k (x ∷ xs) [] p q e =
    absurd (let n : ◌≡◌ {A = ℕ} (suc (length (map record_cells xs))) 0 = ap length e in
    omega (arith, n))
same-lists k (x ∷ xs) (y ∷ ys) p q e =
    let first : record_cells x ≡ record_cells y = cc in
    let rest : map record_cells xs ≡ map record_cells ys = cc in
    let one = same-records k x y p.0 q.0 first in
    let more = same-lists k xs ys p.1 q.1 rest in
    λ i. one i ∷ more i

-- ---- which recordings are there
abbrev pub Finds : List Row → Key → Type 0
Finds rows k = ((id : ℤ) × Contains rows (recording_cells id k) × IsKey k)
    ⊎ ((id : ℤ) → Contains rows (recording_cells id k) → ¬ IsKey k)

pub finds : (rows : List Row) → AllByRecursion IsRecordingRow rows → (k : Key) → Finds rows k
finds [] all k = inr (λ id c key. no_member (recording_cells id k) c)
finds (row ∷ rows) all k = go (same_key all.0.key k) refl (finds rows all.1 k)
  where
    go : (b : Bool) → same_key all.0.key k ≡ b → Finds rows k → Finds (row ∷ rows) k
    go true e more =
        let is = same_key-true all.0.key k e in
        inl (
          all.0.id,
          subst (λ q. Contains (row ∷ rows) (recording_cells all.0.id q)) is
              (subst (Contains (row ∷ rows)) all.0.cells (here row rows)),
          subst IsKey is all.0.is_key,
        )
    go false e (inl found) = inl (
      found.0,
      there row (recording_cells found.0 k) rows found.1,
      found.2,
    )
    go false e (inr none) =
        inr (λ id c key. last id key (cases_first row (recording_cells id k) rows c))
      where
        last : (id : ℤ) → IsKey k → (row ≡ recording_cells id k)
            ⊎ Contains rows (recording_cells id k) → ⊥
        last id key (inl same) =
            true≢false (sym ((same_key-Decides all.0.key k).1
            (same-recordings all.0.id id all.0.key k all.0.is_key key (sym all.0.cells ∙ same)).1)
            ∙ e)
        last id key (inr c) = none id c key

pub one-holdings : (trees : Trees) (h i : Holdings) (c d : ℕ) → Represent trees h → IsSound c h →
    Represent trees i → IsSound d i → h ≡ i
one-holdings trees h i c d a s b t =
    fun_ext (λ k. go k (finds (recordings_in trees)
    (recursion_from_All IsRecordingRow (recordings_in trees) a.recordings) k))
  where
    go : (k : Key) → Finds (recordings_in trees) k → h k ≡ i k
    go k (inl found) =
        let is : HasRecordingRow trees found.0 k = record { row = found.1; key = found.2 } in
        same-lists k (h k) (i k) (recursion_from_All (IsSoundRecord k) (h k) (s.records k))
        (recursion_from_All (IsSoundRecord k) (i k) (t.records k)) (sym (a.held found.0 k is)
        ∙ b.held found.0 k is)
    go k (inr none) = a.others k (λ id t. none id t.row t.key)
        ∙ sym (b.others k (λ id t. none id t.row t.key))

-- ---- two records that lie apart are not near
abbrev hits : ℕ → ℕ → Value → ℕ
hits first d (Int (pos n)) = cond (nat_le first n && nat_lt n (first + d)) 1 0
hits first d (Int (Rattle.std.proofs.Common.negsuc n)) = 0
hits first d Null = 0
hits first d (Real x) = 0
hits first d (Text t) = 0
hits first d (Blob b) = 0

abbrev row_hits : ℕ → ℕ → Row → ℕ
row_hits first d row = hits first d (column row 0)

inside : (first d n : ℕ) → first ≤ n → n < first + d →
    ◌≡◌ {A = ℕ} (cond (nat_le first n && nat_lt n (first + d)) 1 0) 1
inside first d n low high =
    let a : nat_le first n ≡ true = grind (arith, nat_tests) in
    let b : nat_lt n (first + d) ≡ true = grind (arith, nat_tests) in
    rw (a, b) refl

past : (first d n : ℕ) → first + d ≤ n →
    ◌≡◌ {A = ℕ} (cond (nat_le first n && nat_lt n (first + d)) 1 0) 0
past first d n low =
    let a : nat_le first n ≡ true = grind (arith, nat_tests) in
    let b : nat_lt n (first + d) ≡ false = grind (arith, nat_tests) in
    rw (a, b) refl

none_past : (first d low : ℕ) (xs : List DataRecord) → first + d ≤ low → StartsAreSpaced d low xs →
    sum_by (row_hits first d) (map record_cells xs) ≡ 0
none_past first d low [] far apart = refl
none_past first d low (x ∷ xs) far apart =
    let one = past first d x.start (omega (arith, far, apart.0)) in
    let more = none_past first d (x.start + d) xs (omega (arith, far, apart.0)) apart.1 in
    let sum = sum_by-cons (row_hits first d) (record_cells x) (map record_cells xs) in
    omega (arith, one, more, sum)

one_inside : (first d low : ℕ) (xs : List DataRecord) → StartsAreSpaced d low xs →
    sum_by (row_hits first d) (map record_cells xs) ≤ 1
one_inside first d low [] apart = omega arith
one_inside first d low (x ∷ xs) apart =
    go (nat_le first x.start) refl (one_inside first d (x.start + d) xs apart.1)
  where
    at_most : (b : Bool) → cond {A = ℕ} b 1 0 ≤ 1
    at_most true = omega arith
    at_most false = omega arith

    go : (b : Bool) → nat_le first x.start ≡ b →
        sum_by (row_hits first d) (map record_cells xs) ≤ 1 →
        sum_by (row_hits first d) (map record_cells (x ∷ xs)) ≤ 1
    go true e rest =
        let up : first ≤ x.start = grind (arith, nat_tests) in
        let more = none_past first d (x.start + d) xs (omega (arith, up)) apart.1 in
        let one = at_most (nat_le first x.start && nat_lt x.start (first + d)) in
        let sum = sum_by-cons (row_hits first d) (record_cells x) (map record_cells xs) in
        omega (arith, one, more, sum)
    go false e more =
        let zero_here : ◌≡◌ {A = ℕ} (cond (nat_le first x.start && nat_lt x.start (first + d)) 1 0)
        0 = rw e refl in
        let sum = sum_by-cons (row_hits first d) (record_cells x) (map record_cells xs) in
        omega (arith, zero_here, more, sum)

pub not-near : (d low : ℕ) (xs : List DataRecord) → StartsAreSpaced d low xs →
    ¬ AreTooNear (map record_cells xs) d
not-near d low xs apart near =
    let f = row_hits near.first d in
    let all = sum_by-IsPermutation f (map record_cells xs) _ near.two.1 in
    let most = one_inside near.first d low xs apart in
    let a : hits near.first d (column near.a 0) ≡ 1 = ap (hits near.first d) near.a_start
    ∙ inside near.first d near.first (omega arith) (omega (arith, near.order, near.near)) in
    let b : hits near.first d (column near.b 0) ≡ 1 = ap (hits near.first d) near.b_start
    ∙ inside near.first d near.second near.order near.near in
    let one = sum_by-cons f near.a (near.b ∷ near.two.0) in
    let two = sum_by-cons f near.b near.two.0 in
    absurd (omega (arith, all, most, a, b, one, two))

-- ---- what stands for sound holdings is not foreign
pub not-bad : (k : Key) (r : DataRecord) → IsSoundRecord k r → ¬ IsBadRow k (record_cells r)
not-bad k r s (bad_start none) = none r.start (refl, s.start)
not-bad k r s (bad_samples none) = none (r.samples, refl, s.samples_len)
not-bad k r s (bad_block none) = none (record {
  block = tals_text 0 r.start r.annotations;
  start = r.start;
  list = r.annotations;
  is_block = refl;
  read = own-read k r s;
  written = refl;
  starts = refl;
})

not-late : (k : Key) (xs : List DataRecord) → FirstMayStart k xs →
    ¬ BeginsTooLate k (map record_cells xs)
not-late k [] begins late = late
not-late k (x ∷ xs) begins (start, is, late) =
    late (subst (MayStart k) (pos-number x.start start (int-number (pos x.start) (pos start) is))
    begins)

pub not-bad-records : (cap : ℕ) (k : Key) (xs : List DataRecord) →
    AllByRecursion (IsSoundRecord k) xs → StartsAreSpaced (duration_of k.duration) 0 xs →
    FirstMayStart k xs → length xs ≤ cap → map record_cells xs ≢ []
    → ¬ AreBadRecords cap k (map record_cells xs)
not-bad-records cap k xs sound apart begins few some (bad_row row c bad) =
    let it = mapped record_cells (IsSoundRecord k) xs row sound c in
    not-bad k it.0 it.1 (subst (IsBadRow k) it.2 bad)
not-bad-records cap k xs sound apart begins few some (too_near near) =
    not-near (duration_of k.duration) 0 xs apart near
not-bad-records cap k xs sound apart begins few some (too_late late) = not-late k xs begins late
not-bad-records cap k xs sound apart begins few some (too_few none) = some none
not-bad-records cap k xs sound apart begins few some (too_many more) =
    absurd (let n = length-map xs record_cells in omega (arith, n, more, few))

pub not-foreign : (cap : ℕ) (trees : Trees) (h : Holdings) → RepresentCommitted cap trees h →
    ¬ IsForeign cap trees
not-foreign cap trees h kept (bad_recording row c bad) =
    bad (All-contains IsRecordingRow (recordings_in trees) row kept.stand.recordings c)
not-foreign cap trees h kept (bad_records id k is bad) =
    let rows = kept.stand.held id k is in
    let good = IsGood-from_sound cap h kept.sound in
    not-bad-records cap k (h k) (recursion_from_All (IsSoundRecord k) (h k) (kept.sound.records k))
    (good.apart k) (kept.sound.begins k) (good.within_cap k)
    (λ none. kept.each id k is (rows ∙ none)) (subst (AreBadRecords cap k) rows bad)
not-foreign cap trees h kept (without_recording row c none) =
    let own : BelongsToRecording trees row =
    All-contains (BelongsToRecording trees) (trees 2) row kept.stand.owned c in
    none own.id own.key own.there own.owned
not-foreign cap trees h kept (twice a b two (inl e)) = (kept.stand.apart a b two).id e
not-foreign cap trees h kept (twice a b two (inr e)) = (kept.stand.apart a b two).identity e
