-- A data record, block by block.
use Rattle.std.proofs.Common.{◌≡◌, ℕ, ◌≤◌, List, [], ◌∷◌, ◌++◌, length, map, drop, get_or, suc, ◌+◌}
use Rattle.std.proofs.Common.{refl, sym, ap, ◌∙◌, subst, arith, append-nil, append_assoc, sum, ◌-◌}
use Rattle.std.proofs.Common.{length-append, ◌<◌}
use Rattle.std.specs.List.{flat_map}
use Rattle.std.proofs.lemmas.List.{drop_all, drop_more, map-append, length-map}
use Rattle.std.proofs.lemmas.List.Sums.{sum-map}
use Rattle.std.proofs.lemmas.List.Concat.{length-flat_map}
use Rattle.std.proofs.lemmas.Grind.{common_steps, flat_map-append}
use Rattle.edf_field.specs.Number.{field}
use Rattle.edf_header.specs.declared.header.Block.{Block}
use Rattle.edf_header.specs.Header.{Layout, IsLayout, AreApart}
use Rattle.edf_tal.specs.Block.{split_by_sizes, BlocksParseTo}
use Rattle.edf_tal.specs.Tal.{Annotation}
use Rattle.edf_tal.specs.declared.place.Place.{Place}
use Rattle.edf_tal.proofs.Cuts.{cut-joined}
use Rattle.edf_fragment.specs.Fragment.{DataRecord, bytes_outside, blocks, ordinary_bytes}
use Rattle.edf_fragment.proofs.Layouts.{pieces, apart-within}
use Rattle.edf_mend.specs.Changes.{FieldChange}
use Rattle.edf_mend.specs.Body.{BlockReadsAs, BlocksReadAs, TimedRecordReadsAs}
use Rattle.edf_mend.specs.Inside.{IsGoodRecord}
use Rattle.edf_mend.specs.declared.record.GoodRecord.{GoodRecord}

blocks-push : (nth : ℕ) (bs : List Block) (olds news : List (List ℕ)) (changes : List FieldChange)
    (b : Block) (old new : List ℕ) (one : List FieldChange) →
    BlocksReadAs nth bs olds news changes → BlockReadsAs nth b.at old new one →
    BlocksReadAs nth (bs ++ b ∷ []) (olds ++ old ∷ []) (news ++ new ∷ []) (changes ++ one)
blocks-push nth [] [] [] changes b old new one none is =
    (one, [], is, refl, ap (λ (l : List FieldChange). l ++ one) none ∙ sym (append-nil one))
blocks-push nth (d ∷ bs) (o ∷ olds) (n ∷ news) changes b old new one are is = (
  are.0,
  are.1 ++ one,
  are.2,
  blocks-push nth bs olds news are.1 b old new one are.3 is,
  ap (λ (l : List FieldChange). l ++ one) are.4 ∙ append_assoc are.0 are.1 one,
)
blocks-push nth bs olds news changes b old new one are is = absurd are

blocks-long : (nth : ℕ) (bs : List Block) (olds news : List (List ℕ)) (changes : List FieldChange) →
    BlocksReadAs nth bs olds news changes → length news ≡ length bs
blocks-long nth [] [] [] changes are = refl
blocks-long nth (b ∷ bs) (o ∷ olds) (n ∷ news) changes are =
    ap suc (blocks-long nth bs olds news are.1 are.3)
blocks-long nth bs olds news changes are = absurd are

abbrev pub no_block : Block
no_block = record { at = 0; bytes = 0 }

-- so many bytes are done, and these blocks are left
pub record RecordSoFar (nth : ℕ) (all rest : List Block) (whole : List ℕ) (done : ℕ)
    (samples joined sizes : List ℕ) (changes : List FieldChange) : Type 0 where
  pub front : List Block
  pub read : List (List ℕ)
  pub split : all ≡ front ++ rest
  pub apart : AreApart done rest (length whole)
  pub samples_are : samples ++ bytes_outside done rest whole ≡ bytes_outside 0 all whole
  pub each : BlocksReadAs nth front (pieces front whole) read changes
  pub joined_is : joined ≡ flat_map (λ b. b) read
  pub sizes_are : sizes ≡ map length read

pub none-read : (nth : ℕ) (l : Layout) (all : List Block) (whole samples joined sizes : List ℕ)
    (changes : List FieldChange) → IsLayout l → all ≡ l.blocks → length whole ≡ l.record_bytes →
    samples ≡ [] → joined ≡ [] → sizes ≡ [] → changes ≡ [] →
    RecordSoFar nth all all whole 0 samples joined sizes changes
none-read nth l all whole samples joined sizes changes layout is len a b c d = record {
  front = [];
  read = [];
  split = refl;
  apart = rw (is, len) layout.apart;
  samples_are = ap (λ (x : List ℕ). x ++ bytes_outside 0 all whole) a;
  each = d;
  joined_is = b;
  sizes_are = c;
}

pub next-block : (nth : ℕ) (all given : List Block) (i : ℕ) (whole : List ℕ) (done : ℕ)
    (samples joined sizes : List ℕ) (changes : List FieldChange) → i < length given →
    RecordSoFar nth all (drop i given) whole done samples joined sizes changes →
    RecordSoFar nth all (get_or given i no_block ∷ drop (i + 1) given) whole done samples joined
    sizes changes
next-block nth all given i whole done samples joined sizes changes lt so =
    subst (λ (bs : List Block). RecordSoFar nth all bs whole done samples joined sizes changes)
    (drop_more given i no_block lt) so

pub next-within : (nth : ℕ) (all given : List Block) (i : ℕ) (whole : List ℕ) (done : ℕ)
    (samples joined sizes : List ℕ) (changes : List FieldChange) → i < length given →
    RecordSoFar nth all (drop i given) whole done samples joined sizes changes →
    (done ≤ (get_or given i no_block).at)
    × ((get_or given i no_block).at + (get_or given i no_block).bytes ≤ length whole)
next-within nth all given i whole done samples joined sizes changes lt so =
    let next = next-block nth all given i whole done samples joined sizes changes lt so in
    (next.apart.0, apart-within _ (drop (i + 1) given) (length whole) next.apart.1)

pub one-more : (nth : ℕ) (all rest : List Block) (b : Block) (whole : List ℕ) (done : ℕ)
    (samples joined sizes samples' joined' sizes' old new : List ℕ)
    (changes one changes' : List FieldChange) →
    RecordSoFar nth all (b ∷ rest) whole done samples joined sizes changes →
    samples' ≡ samples ++ field whole done (b.at - done) → old ≡ field whole b.at b.bytes →
    BlockReadsAs nth b.at old new one → joined' ≡ joined ++ new → changes' ≡ changes ++ one →
    sizes' ≡ sizes ++ (length joined' - length joined) ∷ [] →
    RecordSoFar nth all rest whole (b.at + b.bytes) samples' joined' sizes' changes'
one-more nth all rest b whole done samples joined sizes samples' joined' sizes' old new changes one
    changes' so put old-is is added told counted =
    let next = b.at + b.bytes in
    record {
      front = so.front ++ b ∷ [];
      read = so.read ++ new ∷ [];
      split = so.split ∙ sym (append_assoc so.front (b ∷ []) rest);
      apart = so.apart.1;
      samples_are = ap (λ (x : List ℕ). x ++ bytes_outside next rest whole) put
          ∙ append_assoc samples (field whole done (b.at - done)) (bytes_outside next rest whole)
          ∙ so.samples_are;
      each = rw (told, map-append (λ (x : Block). field whole x.at x.bytes) so.front (b ∷ []))
          (blocks-push nth so.front (pieces so.front whole) so.read changes b
          (field whole b.at b.bytes) new one so.each
          (subst (λ (l : List ℕ). BlockReadsAs nth b.at l new one) old-is is));
      joined_is = added ∙ ap (λ (l : List ℕ). l ++ new) so.joined_is
          ∙ (let e = flat_map-append (λ (x : List ℕ). x) so.read (new ∷ []) in
          rw e (grind (arith, common_steps)));
      sizes_are = counted
          ∙ ap (λ n. sizes ++ n ∷ []) (omega (
            arith,
            ap (λ (l : List ℕ). length l) added,
            length-append joined new,
          ))
          ∙ ap (λ (l : List ℕ). l ++ length new ∷ []) so.sizes_are
          ∙ sym (map-append length so.read (new ∷ []));
    }

pub all-read : (nth : ℕ) (l : Layout) (all : List Block) (i : ℕ) (whole : List ℕ) (done : ℕ)
    (samples joined sizes samples' : List ℕ) (changes : List FieldChange) → all ≡ l.blocks →
    RecordSoFar nth all (drop i all) whole done samples joined sizes changes → length all ≤ i →
    samples' ≡ samples ++ drop done whole → (samples' ≡ ordinary_bytes l whole)
    × (read : List (List ℕ)) × BlocksReadAs nth l.blocks (blocks l whole) read changes
    × (joined ≡ flat_map (λ b. b) read) × (sizes ≡ map length read)
all-read nth l all i whole done samples joined sizes samples' changes same so past put =
    let last = subst (λ (bs : List Block). RecordSoFar nth all bs whole done samples joined sizes
    changes) (drop_all i all past) so in
    let front : last.front ≡ l.blocks = sym (last.split ∙ append-nil last.front) ∙ same in (
      put ∙ last.samples_are ∙ ap (λ (bs : List Block). bytes_outside 0 bs whole) same,
      last.read,
      subst (λ (bs : List Block). BlocksReadAs nth bs (pieces bs whole) last.read changes) front
          last.each,
      last.joined_is,
      last.sizes_are,
    )

-- ---- what a strict reading gets of it

module _ (nth : ℕ) (l : Layout) (layout : IsLayout l) (bytes joined sizes : List ℕ)
    (good : GoodRecord) (len : length bytes ≡ l.record_bytes) (are : IsGoodRecord l nth bytes good)
    (joined-is : joined ≡ good.joined.items) (sizes-are : sizes ≡ good.sizes.items) where
  pub some-sizes : 1 ≤ length sizes
  some-sizes = omega (
    arith,
    blocks-long nth l.blocks (blocks l bytes) are.read good.changes.items are.each,
    ap (λ (x : List ℕ). length x) (sizes-are ∙ are.sizes),
    length-map are.read length,
    layout.blocks_some,
  )

  pub sizes-sum : sum sizes ≡ length joined
  sizes-sum = ap sum (sizes-are ∙ are.sizes) ∙ sum-map length are.read
      ∙ sym (length-flat_map (λ (b : List ℕ). b) are.read)
      ∙ sym (ap (λ (x : List ℕ). length x) (joined-is ∙ are.joined))

  pub record-read : (place : Place) (start : ℕ) (list : List Annotation) (r : DataRecord) →
      BlocksParseTo (split_by_sizes sizes joined) l.start place start list →
      r ≡ record { start = start; samples = good.samples.items; annotations = list } →
      TimedRecordReadsAs l place nth bytes r good.changes.items
  record-read place start list r read is =
      let cuts : split_by_sizes sizes joined ≡ are.read =
      ap (λ (x : List ℕ). split_by_sizes x joined) (sizes-are ∙ are.sizes)
      ∙ ap (split_by_sizes (map length are.read)) (joined-is ∙ are.joined) ∙ cut-joined are.read in
      subst (λ (x : DataRecord). TimedRecordReadsAs l place nth bytes x good.changes.items)
      (sym is) (record {
        samples = are.samples;
        read = are.read;
        each = are.each;
        parsed = subst (λ (x : List (List ℕ)). BlocksParseTo x l.start place start list) cuts read;
      })
