-- What is written of sound records is their canonical file, and no other bytes are.
use Rattle.std.proofs.Common.{◌≡◌, ℕ, ◌+◌, ◌*◌, ◌^◌, ◌≤◌, ◌<◌, List, [], ◌∷◌, ◌++◌, length, refl}
use Rattle.std.proofs.Common.{sym, ap, ◌∙◌, subst, arith, All}
use Rattle.std.specs.List.{flat_map}
use Rattle.std.proofs.lemmas.List.Elements.{All-head, All-cons, All-nil}
use Rattle.edf_header.specs.Spelled.{spelled_layout}
use Rattle.edf_header.proofs.Cited.{one-canonical-header, canonical-header-reads}
use Rattle.edf_tal.proofs.Cited.{block-length}
use Rattle.edf_time.specs.Civil.{window}
use Rattle.edf_field.specs.Number.{duration_of}
use Rattle.edf_header.specs.Key.{Key, IsKey, MayStart}
use Rattle.edf_header.specs.Header.{Layout, layout_of, least_records, most_records}
use Rattle.edf_header.specs.Canonical.{IsCanonicalHeader}
use Rattle.edf_tal.specs.declared.place.Place.TheVariants.{First}
use Rattle.edf_header.specs.declared.limits.TheConstants.{MOST_RECORDS}
use Rattle.edf_tal.specs.declared.limits.TheConstants.{MOST_CANONICAL_BLOCK_SAMPLES}
use Rattle.edf_fragment.specs.Fragment.{DataRecord, BeginWithDataRecords, IsFragmentFile}
use Rattle.edf_canonical.specs.File.{second_of, block_of, record_text, IsLaidOut, IsCanonicalFile}
use Rattle.edf_canonical.proofs.Records.{records-read}
use Rattle.edf_fragment.specs.Sound.{AreSoundFrom}
use Rattle.edf_canonical.proofs.CanonicalRecords.{IsCanonicalLayout, are-readable}

second-of-low : (n : ℕ) → second_of n ≤ n
second-of-low n = omega arith

second-of-high : (n : ℕ) → n < second_of n + 10 ^ 9
second-of-high n = omega arith

all-bounded : (k : Key) (low base : ℕ) (rs : List DataRecord) → base < window →
    AreSoundFrom k low rs →
    All (λ r. length (block_of base r) ≤ 2 * MOST_CANONICAL_BLOCK_SAMPLES) rs
all-bounded k low base [] in_window are =
    All-nil (λ r. length (block_of base r) ≤ 2 * MOST_CANONICAL_BLOCK_SAMPLES)
all-bounded k low base (r ∷ rs) in_window (e, lower, more) =
    All-cons (λ x. length (block_of base x) ≤ 2 * MOST_CANONICAL_BLOCK_SAMPLES) r rs
    (let b = block-length base r.start r.annotations in_window e.start e.limits e.notes in
    omega arith)
    (all-bounded k (r.start + duration_of k.duration) base rs in_window more)

some-samples : (base samples : ℕ) (r : DataRecord) → length (block_of base r) ≤ 2 * samples →
    1 ≤ samples
some-samples base samples r fits = omega arith

canonical-layout-is : (k : Key) (start count samples : ℕ) → start < window →
    IsCanonicalLayout (spelled_layout k (second_of start) count samples) (second_of start)
    (2 * samples)
canonical-layout-is k start count samples lt =
    record {
      start = refl;
      in_window = omega (arith, second-of-low start);
      blocks = refl;
      record_bytes = omega arith;
    }

-- what is laid out so is read again, and so is the records' file
pub canonical : (file : List ℕ) (k : Key) (r : DataRecord) (rs : List DataRecord) → IsKey k →
    MayStart k r.start → AreSoundFrom k 0 (r ∷ rs) → length (r ∷ rs) ≤ MOST_RECORDS
    → IsLaidOut file k r (r ∷ rs) → IsCanonicalFile file k (r ∷ rs)
canonical file k r rs is-key begins are count laid =
    let samples = laid.samples in
    let header = laid.header in
    let is-header = laid.is_header in
    let holds = laid.holds in
    let least = laid.least in
    let parts = laid.parts in
    let base = second_of r.start in
    let in-window : r.start < window = are.0.start in
    let base-in : second_of r.start < window = omega (arith, second-of-low r.start) in
    let few : samples ≤ MOST_CANONICAL_BLOCK_SAMPLES =
    least MOST_CANONICAL_BLOCK_SAMPLES (all-bounded k 0 base (r ∷ rs) base-in are) in
    let some : 1 ≤ samples = some-samples base samples r
    (All-head (λ x. length (block_of base x) ≤ 2 * samples) r rs holds) in
    let body = flat_map (record_text base (2 * samples)) (r ∷ rs) in
    let l = spelled_layout k (second_of r.start) (length (r ∷ rs)) samples in
    let again = canonical-header-reads header k r.start (length (r ∷ rs)) samples is-key begins
    (omega arith) (count) some (omega arith) is-header in
    let read = records-read l First base (2 * samples) (r ∷ rs)
    (are-readable l base (2 * samples) 0 r rs
    (canonical-layout-is k r.start (length (r ∷ rs)) samples in-window) are
    (second-of-low r.start, second-of-high r.start) holds) in
    let counted : (least_records (layout_of again.header).count ≡ length (r ∷ rs))
    × (most_records (layout_of again.header).count ≡ length (r ∷ rs)) = (
      ap (λ (x : Layout). least_records x.count) again.says,
      ap (λ (x : Layout). most_records x.count) again.says,
    ) in
    let spells : IsFragmentFile (header ++ body) k (r ∷ rs) = record {
      header = again.header;
      rest = body;
      next_place = read.0;
      is_header = again.reads body;
      key = ap (λ (x : Layout). x.key) (sym again.says);
      are_records = subst (λ (x : Layout). BeginWithDataRecords x First body (r ∷ rs) read.0 [])
          (sym again.says) read.1;
      least = omega (arith, counted.0);
      most = omega (arith, counted.1);
    } in
    (subst (λ (x : List ℕ). IsFragmentFile x k (r ∷ rs)) (sym parts) spells, laid)

pub one-laid-out : (a b : List ℕ) (k : Key) (first : DataRecord) (rs : List DataRecord) →
    IsLaidOut a k first rs → IsLaidOut b k first rs → a ≡ b
one-laid-out a b k first rs x y =
    let low : x.samples ≤ y.samples = x.least y.samples y.holds in
    let high : y.samples ≤ x.samples = y.least x.samples x.holds in
    let same : y.samples ≡ x.samples = omega arith in
    let other : IsCanonicalHeader y.header k first.start (length rs) x.samples =
    subst (λ (n : ℕ). IsCanonicalHeader y.header k first.start (length rs) n) same
    y.is_header in
    let headers : x.header ≡ y.header =
    one-canonical-header x.header y.header k first.start (length rs) x.samples x.is_header
    other in
    x.parts ∙ ap (λ (h : List ℕ). h
    ++ flat_map (record_text (second_of first.start) (2 * x.samples)) rs) headers
    ∙ ap (λ n. y.header ++ flat_map (record_text (second_of first.start) (2 * n)) rs) (sym same)
    ∙ sym y.parts

pub one-file : (a b : List ℕ) (k : Key) (rs : List DataRecord) → IsCanonicalFile a k rs →
    IsCanonicalFile b k rs → a ≡ b
one-file a b k [] x y = absurd x
one-file a b k (r ∷ rs) (sa, x) (sb, y) = one-laid-out a b k r (r ∷ rs) x y

-- a canonical file spells its records
pub its-own : (file : List ℕ) (k : Key) (rs : List DataRecord) → IsCanonicalFile file k rs →
    IsFragmentFile file k rs
its-own file k [] is = absurd is
its-own file k (r ∷ rs) is = is.0
