-- What the layouts of headers have: blocks that lie apart in a data record of at least one byte.
use Rattle.std.proofs.Common.{◌≡◌, ℕ, ◌+◌, ◌-◌, ◌≤◌, List, [], ◌∷◌, ◌++◌, length, drop, map, arith}
use Rattle.std.proofs.Common.{refl, sym, ap, ◌∙◌, subst, length-append, length-take-le, Option}
use Rattle.std.proofs.Common.{None, Some}
use Rattle.std.specs.Prelude.{All, sum_by}
use Rattle.std.specs.List.{flat_map}
use Rattle.std.proofs.lemmas.List.{length-drop, length-map}
use Rattle.std.proofs.lemmas.List.Elements.{All-head}
use Rattle.std.proofs.lemmas.List.Sums.{sum_by-cons}
use Rattle.std.proofs.lemmas.List.Concat.{flat_map-cons}
use Rattle.edf_field.specs.Number.{field}
use Rattle.edf_header.specs.Header.{Layout, IsLayout, AreApart, block_bytes, least_records}
use Rattle.edf_header.specs.Header.{most_records}
use Rattle.edf_header.specs.declared.header.Block.{Block}
use Rattle.edf_tal.specs.Block.{split_by_sizes}
use Rattle.edf_tal.proofs.Cited.{cut-joined}
use Rattle.edf_fragment.specs.Fragment.{bytes_outside, blocks, ordinary_bytes}
use Rattle.edf_fragment.proofs.HeaderParts.{field_front}

-- the bytes of blocks, and these joined
abbrev pub pieces : List Block → List ℕ → List (List ℕ)
pieces bs bytes = map (λ b. field bytes b.at b.bytes) bs

abbrev pub joined : List (List ℕ) → List ℕ
joined parts = flat_map (λ b. b) parts

-- ---- blocks that lie apart

pub apart-within : (from : ℕ) (bs : List Block) (to : ℕ) → AreApart from bs to → from ≤ to
apart-within from [] to apart = apart
apart-within from (b ∷ bs) to (here, apart) =
    omega (arith, here, apart-within (b.at + b.bytes) bs to apart)

apart-more : (from : ℕ) (bs : List Block) (to more : ℕ) → to ≤ more → AreApart from bs to →
    AreApart from bs more
apart-more from [] to more low apart = omega (arith, low, apart)
apart-more from (b ∷ bs) to more low (here, apart) =
    (here, apart-more (b.at + b.bytes) bs to more low apart)

pub length-field : (bytes : List ℕ) (at n : ℕ) → at + n ≤ length bytes →
    length (field bytes at n) ≡ n
length-field bytes at n within =
    length-take-le n (drop at bytes) (omega (arith, length-drop at bytes))

pub length-outside : (from : ℕ) (bs : List Block) (bytes : List ℕ) →
    AreApart from bs (length bytes) →
    length (bytes_outside from bs bytes) + sum_by (λ b. b.bytes) bs + from ≡ length bytes
length-outside from [] bytes apart = omega (arith, length-drop from bytes, apart)
length-outside from (b ∷ bs) bytes (here, apart) =
    let within = apart-within (b.at + b.bytes) bs (length bytes) apart in
    omega (
      arith,
      here,
      within,
      length-outside (b.at + b.bytes) bs bytes apart,
      length-append (field bytes from (b.at - from)) (bytes_outside (b.at + b.bytes) bs bytes),
      length-field bytes from (b.at - from) (omega (arith, here, within)),
      sum_by-cons (λ (x : Block). x.bytes) b bs,
    )

pub length-pieces : (from : ℕ) (bs : List Block) (bytes : List ℕ) →
    AreApart from bs (length bytes) → map length (pieces bs bytes) ≡ map (λ b. b.bytes) bs
length-pieces from [] bytes apart = refl
length-pieces from (b ∷ bs) bytes (here, apart) =
    let first : length (field bytes b.at b.bytes) ≡ b.bytes =
    length-field bytes b.at b.bytes (apart-within (b.at + b.bytes) bs (length bytes) apart) in
    ap (λ (n : ℕ). n ∷ map length (pieces bs bytes)) first
    ∙ ap (λ (ns : List ℕ). b.bytes ∷ ns) (length-pieces (b.at + b.bytes) bs bytes apart)

pub length-joined : (from : ℕ) (bs : List Block) (bytes : List ℕ) →
    AreApart from bs (length bytes) → length (joined (pieces bs bytes)) ≡ sum_by (λ b. b.bytes) bs
length-joined from [] bytes apart = refl
length-joined from (b ∷ bs) bytes (here, apart) =
    let piece = field bytes b.at b.bytes in
    omega (
      arith,
      ap (λ (x : List ℕ). length x) (flat_map-cons (λ (x : List ℕ). x) piece (pieces bs bytes)),
      length-append piece (joined (pieces bs bytes)),
      length-field bytes b.at b.bytes (apart-within (b.at + b.bytes) bs (length bytes) apart),
      length-joined (b.at + b.bytes) bs bytes apart,
      sum_by-cons (λ (x : Block). x.bytes) b bs,
    )

-- blocks of the front
pub pieces-front : (from : ℕ) (bs : List Block) (a b : List ℕ) → AreApart from bs (length a) →
    pieces bs (a ++ b) ≡ pieces bs a
pieces-front from [] a b apart = refl
pieces-front from (x ∷ bs) a b (here, apart) =
    let first : field (a ++ b) x.at x.bytes ≡ field a x.at x.bytes =
    field_front a b x.at x.bytes (apart-within (x.at + x.bytes) bs (length a) apart) in
    ap (λ (f : List ℕ). f ∷ pieces bs (a ++ b)) first ∙ ap (λ (fs : List (List ℕ)). field a x.at
    x.bytes ∷ fs) (pieces-front (x.at + x.bytes) bs a b apart)

-- ---- layouts

-- a header asks for no more data records than there may be
pub least-most : (count : Option ℕ) → least_records count ≤ most_records count
least-most None = omega arith
least-most (Some n) = omega arith

blocks-some : (bs : List Block) → 1 ≤ length bs → All (λ b. 2 ≤ b.bytes) bs →
    2 ≤ sum_by (λ b. b.bytes) bs
blocks-some [] some each = absurd (omega (arith, some))
blocks-some (b ∷ bs) some each = omega (
  arith,
  All-head (λ (x : Block). 2 ≤ x.bytes) b bs each,
  sum_by-cons (λ (x : Block). x.bytes) b bs,
)

-- a data record has at least one byte
pub record-some : (l : Layout) → IsLayout l → 1 ≤ l.record_bytes
record-some l i = omega (arith, i.parts, blocks-some l.blocks i.blocks_some i.blocks_bytes)

-- the blocks of the data record at the front
pub blocks-front : (l : Layout) (a b : List ℕ) → IsLayout l → l.record_bytes ≤ length a →
    blocks l (a ++ b) ≡ blocks l a
blocks-front l a b i enough = pieces-front 0 l.blocks a b
    (apart-more 0 l.blocks l.record_bytes (length a) enough i.apart)

apart-in : (l : Layout) (bytes : List ℕ) → IsLayout l → length bytes ≡ l.record_bytes →
    AreApart 0 l.blocks (length bytes)
apart-in l bytes i len = subst (λ (n : ℕ). AreApart 0 l.blocks n) (sym len) i.apart

pub ordinary-len : (l : Layout) (bytes : List ℕ) → IsLayout l → length bytes ≡ l.record_bytes →
    length (ordinary_bytes l bytes) + block_bytes l ≡ l.record_bytes
ordinary-len l bytes i len = omega (
  arith,
  len,
  length-outside 0 l.blocks bytes (apart-in l bytes i len),
)

-- the joined blocks, cut by the sizes of the header's
pub cut-blocks : (l : Layout) (bytes sizes block : List ℕ) → IsLayout l →
    length bytes ≡ l.record_bytes → sizes ≡ map (λ b. b.bytes) l.blocks →
    block ≡ joined (blocks l bytes) → split_by_sizes sizes block ≡ blocks l bytes
cut-blocks l bytes sizes block i len sizes-are block-is =
    let lengths : sizes ≡ map length (blocks l bytes) = sizes-are
    ∙ sym (length-pieces 0 l.blocks bytes (apart-in l bytes i len)) in
    ap (λ (x : List ℕ). split_by_sizes x block) lengths ∙ ap (λ (x : List ℕ). split_by_sizes (map
    length (blocks l bytes)) x) block-is ∙ cut-joined (blocks l bytes)

-- a data record has at least one block
pub sizes-some : (l : Layout) (sizes : List ℕ) → IsLayout l → sizes ≡ map (λ b. b.bytes) l.blocks →
    1 ≤ length sizes
sizes-some l sizes i are = omega (
  arith,
  i.blocks_some,
  length-map l.blocks (λ (b : Block). b.bytes),
  ap (λ (x : List ℕ). length x) are,
)
