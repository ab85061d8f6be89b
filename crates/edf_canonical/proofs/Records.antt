-- The records of a canonical file are read again as they were.
use Rattle.std.proofs.Common.{◌≡◌, ℕ, ◌+◌, ◌-◌, ◌≤◌, List, [], ◌∷◌, ◌++◌, length, map, take, drop}
use Rattle.std.proofs.Common.{refl, sym, ap, ◌∙◌, subst, arith, length-append, replicate}
use Rattle.std.proofs.lemmas.List.{take_at, drop_at, take_all, drop_all, length-replicate}
use Rattle.std.proofs.lemmas.List.{append-nil}
use Rattle.std.specs.List.{flat_map}
use Rattle.edf_field.specs.Number.{field}
use Rattle.edf_header.specs.Header.{Layout}
use Rattle.edf_header.specs.declared.header.Block.{Block}
use Rattle.edf_tal.specs.Block.{BlocksParseTo, BlockParsesTo}
use Rattle.edf_tal.specs.declared.place.Place.{Place}
use Rattle.edf_fragment.specs.Fragment.{DataRecord, IsDataRecord, BeginWithDataRecords, blocks}
use Rattle.edf_fragment.specs.Fragment.{bytes_outside, ordinary_bytes, place_after}
use Rattle.edf_canonical.specs.File.{block_of, record_text}

-- the one block, of `size` bytes, that comes after `at` bytes
abbrev pub one_block : ℕ → ℕ → List Block
one_block at size = record { at = at; bytes = size } ∷ []

-- samples and then a block of the layout's size
block-after : (at size : ℕ) (s b : List ℕ) → length s ≡ at → length b ≡ size →
    field (s ++ b) at size ≡ b
block-after at size s b before is = ap (take size) (drop_at s b at before)
    ∙ take_all size b (omega arith)

blocks-after : (l : Layout) (at size : ℕ) (s b : List ℕ) → l.blocks ≡ one_block at size →
    length s ≡ at → length b ≡ size → blocks l (s ++ b) ≡ b ∷ []
blocks-after l at size s b one before is =
    ap (map (λ x. field (s ++ b) x.at x.bytes)) one
    ∙ ap (λ x. x ∷ []) (block-after at size s b before is)

ordinary-before : (l : Layout) (at size : ℕ) (s b : List ℕ) → l.blocks ≡ one_block at size →
    length s ≡ at → length b ≡ size → ordinary_bytes l (s ++ b) ≡ s
ordinary-before l at size s b one before is =
    let none : drop (at + size) (s ++ b) ≡ [] =
    drop_all (at + size) (s ++ b) (omega (arith, length-append s b)) in
    let whole : at - 0 ≡ at = omega arith in
    ap (λ (bs : List Block). bytes_outside 0 bs (s ++ b)) one
    ∙ ap (λ (n : ℕ). field (s ++ b) 0 n ++ drop (at + size) (s ++ b)) whole
    ∙ ap (λ (x : List ℕ). x ++ drop (at + size) (s ++ b)) (take_at s b at before)
    ∙ ap (λ (x : List ℕ). s ++ x) none ∙ append-nil s

pub length-filled : (b : List ℕ) (size : ℕ) → length b ≤ size →
    length (b ++ replicate (size - length b) 0) ≡ size
length-filled b size fits = omega (
  arith,
  length-append b (replicate (size - length b) 0),
  length-replicate {A = ℕ} (size - length b) 0,
)

pub record-read : (l : Layout) (place : Place) (base at size : ℕ) (r : DataRecord)
    → length r.samples ≡ at → l.blocks ≡ one_block at size → l.record_bytes ≡ at + size →
    length (block_of base r) ≤ size
    → BlockParsesTo (block_of base r ++ replicate (size - length (block_of base r)) 0) l.start place
    r.start r.annotations
    → IsDataRecord l place (record_text base size r) r
record-read l place base at size r before one whole fits read =
    let b = block_of base r ++ replicate (size - length (block_of base r)) 0 in
    let len : length b ≡ size = length-filled (block_of base r) size fits in
    record {
      len = omega (arith, length-append r.samples b, len);
      read = subst (λ (x : List (List ℕ)). BlocksParseTo x l.start place r.start r.annotations)
          (sym (blocks-after l at size r.samples b one before len)) read;
      samples_are = sym (ordinary-before l at size r.samples b one before len);
    }

-- each record, at its place, is read from its text
abbrev pub AreReadable : Layout → Place → ℕ → ℕ → List DataRecord → Type 0
AreReadable l place base size [] = Unit {0}
AreReadable l place base size (r ∷ rs) = IsDataRecord l place (record_text base size r) r
    × AreReadable l (place_after l r.start) base size rs

pub records-read : (l : Layout) (place : Place) (base size : ℕ) (rs : List DataRecord) →
    AreReadable l place base size rs
    → (last : Place) × BeginWithDataRecords l place (flat_map (record_text base size) rs) rs last []
records-read l place base size [] each = (place, (refl, refl))
records-read l place base size (r ∷ rs) each =
    let rest = records-read l (place_after l r.start) base size rs each.1 in
    (rest.0, (record_text base size r, flat_map (record_text base size) rs, refl, each.0, rest.1))
