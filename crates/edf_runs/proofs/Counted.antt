-- A good file has just as many bytes as its header says.
use Rattle.std.proofs.Common.{◌≡◌, ℕ, ◌+◌, ◌*◌, ◌≤◌, List, [], ◌∷◌, ◌++◌, length, arith, refl}
use Rattle.std.proofs.Common.{sym, ap, ◌∙◌, subst, length-append, Option, Some, None}
use Rattle.std.specs.Prelude.{All, sum_by, IfSome}
use Rattle.std.proofs.lemmas.List.Elements.{All-head, All-tail}
use Rattle.std.proofs.lemmas.List.FromFn.{length-map-range_with_len}
use Rattle.std.proofs.lemmas.List.Sums.{sum_by-cons}
use Rattle.edf_header.specs.Key.{Key}
use Rattle.edf_header.specs.Header.{HeaderRecord, IsHeader, Layout, layout_of, least_records}
use Rattle.edf_header.specs.Header.{most_records}
use Rattle.edf_header.specs.declared.header.Block.{Block}
use Rattle.edf_header.proofs.Blocks.{length-blocks}
use Rattle.edf_header.proofs.Cited.{one-header}
use Rattle.edf_header.specs.Signal.{row_at}
use Rattle.edf_header.proofs.SignalKinds.{kinds-count}
use Rattle.edf_fragment.specs.Fragment.{DataRecord, IsFragmentFile, BeginWithDataRecords}
use Rattle.edf_fragment.specs.Fragment.{place_after}
use Rattle.edf_fragment.proofs.Runs.{IsHeader-more}
use Rattle.edf_runs.specs.Outline.{IsMiscounted, file_bytes}

-- each block has two bytes or more
pub two-each : (bs : List Block) → All (λ b. 2 ≤ b.bytes) bs →
    2 * length bs ≤ sum_by (λ b. b.bytes) bs
two-each [] each = omega arith
two-each (b ∷ bs) each = omega (
  arith,
  All-head (λ (b : Block). 2 ≤ b.bytes) b bs each,
  two-each bs (All-tail (λ (b : Block). 2 ≤ b.bytes) b bs each),
  sum_by-cons (λ (b : Block). b.bytes) b bs,
)

records-length : (l : Layout) (place next : _) (bytes : List ℕ) (rs : List DataRecord) →
    BeginWithDataRecords l place bytes rs next [] → length bytes ≡ length rs * l.record_bytes
records-length l place next bytes [] x = omega (arith, ap length (sym x.1))
records-length l place next bytes (r ∷ rs) (prefix, suffix, parts, one, more) = omega (
  arith,
  ap length parts,
  length-append prefix suffix,
  one.len,
  records-length l (place_after l r.start) next suffix rs more,
)

header-length : (bytes : List ℕ) (h : HeaderRecord) (rest : List ℕ) → IsHeader bytes h rest →
    length bytes ≡ 256 * (1 + (length (layout_of h).key.signals + length (layout_of h).blocks))
    + length rest
header-length bytes h rest is = omega (
  arith,
  ap length is.parts,
  length-append is.first (is.second ++ rest),
  length-append is.second rest,
  is.fixed.len,
  is.signals.len,
  ap length is.signals.each,
  length-map-range_with_len (row_at is.second h.fixed.signal_count) 0 h.fixed.signal_count,
  kinds-count h.signals,
  length-blocks 0 h.signals,
)

good-length : (file : List ℕ) (h : HeaderRecord) (rest : List ℕ) (n : ℕ) (k : Key)
    (records : List DataRecord) → IsHeader file h rest → h.fixed.count ≡ Some n →
    IsFragmentFile file k records → length file ≡ file_bytes (layout_of h) n
good-length file h rest n k records is count good =
    let one = (one-header file good.header h good.rest rest good.is_header is).0 in
    let counted : good.header.fixed.count ≡ Some n =
    ap (λ (x : HeaderRecord). x.fixed.count) one ∙ count in
    let many : length records ≡ n = omega (
      arith,
      subst (λ (c : Option ℕ). least_records c ≤ length records) counted good.least,
      subst (λ (c : Option ℕ). length records ≤ most_records c) counted good.most,
    ) in
    subst (λ (x : HeaderRecord). length file ≡ file_bytes (layout_of x) n) one (
    header-length file good.header good.rest good.is_header
    ∙ ap (λ (m : ℕ). 256 * (1 + (length (layout_of good.header).key.signals
    + length (layout_of good.header).blocks)) + m)
    (records-length (layout_of good.header) _ good.next_place good.rest records good.are_records
    ∙ ap (λ (m : ℕ). m * (layout_of good.header).record_bytes) many)
    )

-- so an input of another length is none
pub no-file : (bytes : Option ℕ) (input remaining : Option (List ℕ)) →
    IsMiscounted bytes input remaining → IfSome input (λ file. bytes ≡ Some (length file) →
    (k : Key) (records : List DataRecord) → ¬ IsFragmentFile file k records)
no-file bytes None remaining x = tt
no-file bytes (Some file) None x = absurd x.read.read
no-file bytes (Some file) (Some rest) x = λ known k records good.
    let read = x.read in
    let is : IsHeader file read.header rest = subst (λ (f : List ℕ). IsHeader f read.header rest)
    (sym read.read) (IsHeader-more read.bytes rest read.header read.is_header) in
    let counted : read.header.fixed.count ≡ Some x.count =
    ap (λ (l : Layout). l.count) (sym read.layout_is) ∙ x.is_counted in
    let size : length file ≡ x.size =
    subst (λ (b : Option ℕ). IfSome b (λ n. length file ≡ n)) x.is_known
    (subst (λ (b : Option ℕ). IfSome b (λ n. length file ≡ n)) (sym known) refl) in
    x.differs (sym size ∙ good-length file read.header rest x.count k records is counted good
    ∙ ap (λ (l : Layout). file_bytes l x.count) (sym read.layout_is))
