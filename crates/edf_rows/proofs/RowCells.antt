-- The cells of one row.
use Rattle.std.proofs.Common.{◌≡◌, ◌≢◌, ◌↔◌, ℕ, ◌*◌, ◌<◌, pos, ℤ, Option, None, Some, MatchOption}
use Rattle.std.proofs.Common.{List, [], ◌∷◌, length, ◌^◌, of_z, to_z, w64, FitsSigned, refl, sym}
use Rattle.std.proofs.Common.{ap, ap₂, subst, ◌∙◌, arith}
use Rattle.sqlite_value.specs.declared.value.Value.{Value}
use Rattle.sqlite_value.specs.declared.value.Value.TheVariants.{Int, Blob}
use Rattle.sqlite_value.specs.Order.{Row, column}
use Rattle.edf_header.specs.Key.{Key, IsKey}
use Rattle.edf_header.specs.Signal.{samples_in_all}
use Rattle.edf_tal.specs.Tal.{Annotation}
use Rattle.edf_tal.specs.Block.{BlockParsesTo, BlockHasFirstFault, BlockIsRefused}
use Rattle.edf_tal.specs.declared.place.Place.TheVariants.{Any}
use Rattle.edf_tal.specs.declared.place.TalFault.{TalFault}
use Rattle.edf_tal.specs.declared.place.TalFault.TheVariants.{Memory}
use Rattle.std.proofs.lemmas.Int.{to_z-of_z}
use Rattle.std.proofs.lemmas.List.{append-nil}
use Rattle.edf_tal.specs.Canonical.{tals_text}
use Rattle.edf_tal.proofs.Cited.{one-read, read-no-fault, read-start, read-annotations, read-any}
use Rattle.edf_fragment.specs.Fragment.{DataRecord, IsRecordWithinLimits}
use Rattle.edf_fragment.specs.Sound.{IsValidRecord, IsSoundRecord}
use Rattle.edf_rows.specs.Foreign.{IsBadRow, bad_samples, bad_block}
use Rattle.edf_rows.specs.Rows.{IsRowOf, IsRecordFrom, IsNoRecord}
use Rattle.edf_rows.specs.Inside.Shape.{IsNoBlock, OwnBlock, NoOwnBlock}

-- a block is written for nothing else than what is read of it
pub other-block : (block : List ℕ) (start : ℕ) (list : List Annotation) →
    BlockParsesTo block 0 Any start list → block ≢ tals_text 0 start list → NoOwnBlock block
other-block block start list read other s l own =
    let same = one-read block 0 Any start s list l read own.read in
    other (own.written ∙ sym (ap₂ (tals_text 0) same.start same.list))

pub refused-no_block : (block : List ℕ) (fault : TalFault) → BlockHasFirstFault block 0 Any fault →
    IsNoBlock block
refused-no_block block fault refused s l read = read-no-fault block 0 Any s l fault read refused

pub no_block-own : (block : List ℕ) → IsNoBlock block → NoOwnBlock block
no_block-own block none s l own = none s l own.read

pub refused-block : (block : List ℕ) (fault : TalFault) → BlockHasFirstFault block 0 Any fault →
    NoOwnBlock block
refused-block block fault refused = no_block-own block (refused-no_block block fault refused)

-- a row is a data record's where its block is written for its start, and its samples are as many
-- as the key says
pub row-of : (k : Key) (start : ℕ) (samples block : List ℕ) (list : List Annotation) →
    OwnBlock block start list → length samples ≡ 2 * samples_in_all k.signals
    → IsRowOf k (record { start = start; samples = samples; annotations = list })
    (Int (pos start) ∷ Blob samples ∷ Blob block ∷ [])
row-of k start samples block list own len = record {
  cells = ap (λ (b : List ℕ). Int (pos start) ∷ Blob samples ∷ Blob b ∷ []) own.written;
  sound = record {
    samples_len = len;
    start = read-start block 0 Any start list own.read;
    limits = own.read.limits;
    notes = read-annotations block 0 Any start list own.read;
  };
}

pub blob-bytes : (a b : List ℕ) → ◌≡◌ {A = Value} (Blob a) (Blob b) → a ≡ b
blob-bytes a b h = cc

pub int-number : (a b : ℤ) → ◌≡◌ {A = Value} (Int a) (Int b) → a ≡ b
int-number a b h = cc

pub bad-len : (k : Key) (start : Value) (samples : List ℕ) (block : Value) →
    ¬ (length samples ≡ 2 * samples_in_all k.signals) →
    IsBadRow k (start ∷ Blob samples ∷ block ∷ [])
bad-len k start samples block other =
    bad_samples (λ are. other (ap length (blob-bytes samples are.0 are.1) ∙ are.2))

pub bad-own : (k : Key) (start samples : Value) (block : List ℕ) → NoOwnBlock block →
    IsBadRow k (start ∷ samples ∷ Blob block ∷ [])
bad-own k start samples block none = bad_block (λ own.
    let same : block ≡ own.block = blob-bytes block own.block own.is_block in
    none own.start own.list (record {
      read =
          subst (λ b. BlockParsesTo b 0 Any own.start own.list) (sym same) own.read;
      written = same
          ∙ own.written;
    }))

pub bad-starts : (k : Key) (start : ℤ) (samples : Value) (block : List ℕ) (read : ℕ)
    (list : List Annotation) → OwnBlock block read list → ¬ (pos read ≡ start)
    → IsBadRow k (Int start ∷ samples ∷ Blob block ∷ [])
bad-starts k start samples block read list is other = bad_block (λ own.
    let same : own.block ≡ block = sym (blob-bytes block own.block own.is_block) in
    let one = one-read block 0 Any read own.start list own.list is.read
    (subst (λ b. BlockParsesTo b 0 Any own.start own.list) same own.read) in
    other (ap pos one.start ∙ sym (int-number start (pos own.start) own.starts)))

pub fault-of : (block : List ℕ) (fault : TalFault) → fault ≢ Memory →
    BlockIsRefused block 0 Any fault → BlockHasFirstFault block 0 Any fault
fault-of block Memory other refused = absurd (other refl)
fault-of block fault other refused = refused

pub same-cell : (n : ℕ) (z : ℤ) → n < 2 ^ 63 → FitsSigned w64 z → of_z w64 (pos n) ≡ of_z w64 z →
    pos n ≡ z
same-cell n z low fits same = sym (to_z-of_z w64 (pos n) (record { sfits = omega (arith, low) }))
    ∙ ap (to_z w64) same ∙ to_z-of_z w64 z fits

-- the block of a sound data record gives its start and annotations
pub own-read : (k : Key) (r : DataRecord) → IsSoundRecord k r →
    BlockParsesTo (tals_text 0 r.start r.annotations) 0 Any r.start r.annotations
own-read k r s = subst (λ (b : List ℕ). BlockParsesTo b 0 Any r.start r.annotations)
    (append-nil (tals_text 0 r.start r.annotations))
    (read-any 0 r.start 0 r.annotations (omega arith) s.start s.notes s.limits)

row-read : (k : Key) (r : DataRecord) (start : ℤ) (samples block : List ℕ) →
    IsRowOf k r (Int start ∷ Blob samples ∷ Blob block ∷ []) →
    BlockParsesTo block 0 Any r.start r.annotations
row-read k r start samples block is =
    let same : block ≡ tals_text 0 r.start r.annotations =
    blob-bytes block _ (ap (λ (row : Row). column row 2) is.cells) in
    subst (λ (b : List ℕ). BlockParsesTo b 0 Any r.start r.annotations) (sym same)
    (own-read k r is.sound)

-- the row of a sound data record gives that data record
pub row-gives : (k : Key) (r : DataRecord) (start : ℤ) (samples block : List ℕ) → IsKey k →
    IsRowOf k r (Int start ∷ Blob samples ∷ Blob block ∷ []) → IsRecordFrom samples block r
row-gives k r start samples block key is = record {
  samples_are = sym (blob-bytes samples _ (ap (λ (row : Row). column row 1) is.cells));
  read = row-read k r start samples block is;
  size = record {
    samples = omega (arith, is.sound.samples_len, key.size);
    annotations =
        is.sound.limits;
  };
}

-- ---- what samples and a block give
pub one-given : (samples block : List ℕ) (r s : DataRecord) → IsRecordFrom samples block r →
    IsRecordFrom samples block s → r ≡ s
one-given samples block r s p q =
    let one = one-read block 0 Any r.start s.start r.annotations s.annotations p.read q.read in
    let bytes : r.samples ≡ s.samples = p.samples_are ∙ sym q.samples_are in
    λ i. record { start = one.start i; samples = bytes i; annotations = one.list i }

-- the answer is the data record that they give, or `None` where they give none
abbrev pub IsGiven : List ℕ → List ℕ → Option DataRecord → Type 0
IsGiven samples block made = MatchOption made (IsNoRecord samples block)
    (IsRecordFrom samples block)

pub given-no_block : (samples block : List ℕ) → IsNoBlock block → IsGiven samples block None
given-no_block samples block none r gives = none r.start r.annotations gives.read

-- the data record that is made of the samples and of what is read
pub given-made : (samples block : List ℕ) (read : ℕ) (list : List Annotation)
    (made : Option DataRecord) → BlockParsesTo block 0 Any read list
    → (let parts : DataRecord = record { start = read; samples = samples; annotations = list } in
    MatchOption made (¬ IsRecordWithinLimits parts) (λ d. IsValidRecord d × (d ≡ parts)))
    → IsGiven samples block made
given-made samples block read list None is large = λ r gives.
    let one = one-read block 0 Any r.start read r.annotations list gives.read is in
    let same : r ≡ record { start = read; samples = samples; annotations = list } =
    λ i. record {
      start = one.start i;
      samples = gives.samples_are i;
      annotations =
          one.list i;
    } in
    large (subst IsRecordWithinLimits same gives.size)
given-made samples block read list (Some d) is kept = record {
  samples_are = ap (λ (r : DataRecord). r.samples) kept.1;
  read = subst (λ (r : DataRecord). BlockParsesTo block 0 Any r.start r.annotations)
      (sym kept.1) is;
  size = kept.0.size;
}

pub given-some : (samples block : List ℕ) (made : Option DataRecord) → IsGiven samples block made →
    (r : DataRecord) → (made ≡ Some r) ↔ IsRecordFrom samples block r
given-some samples block None none r =
    (λ same. absurd (let h : None ≡ Some r = same in cc), λ gives. absurd (none r gives))
given-some samples block (Some d) is r = (
  λ same. let e : d ≡ r = cc in subst (IsRecordFrom samples block) e is,
  λ gives. ap Some (one-given samples block d r is gives),
)

pub given-none : (samples block : List ℕ) (made : Option DataRecord) → IsGiven samples block made →
    (made ≡ None) ↔ IsNoRecord samples block
given-none samples block None none = (λ same. none, λ no. refl)
given-none samples block (Some d) is =
    (λ same. absurd (let h : Some d ≡ None = same in cc), λ no. absurd (no d is))
