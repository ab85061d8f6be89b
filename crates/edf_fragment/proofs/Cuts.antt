-- Data records that are cut: block by block, the bytes before it go to the samples and its own to
-- the other blocks.
use Rattle.std.proofs.Common.{◌≡◌, ℕ, ◌+◌, ◌-◌, ◌≤◌, List, [], ◌∷◌, ◌++◌, length, take, drop, arith}
use Rattle.std.proofs.Common.{refl, sym, ap, ◌∙◌, subst, length-append, append_assoc, append-nil}
use Rattle.std.proofs.Common.{length-take-le}
use Rattle.std.specs.Prelude.{sum_by}
use Rattle.std.proofs.lemmas.List.{take_all}
use Rattle.std.proofs.lemmas.List.Concat.{flat_map-cons}
use Rattle.std.proofs.lemmas.Slice.{take-put_mid}
use borrow.Rule.Slice.PartMut.{put_mid}
use Rattle.edf_field.specs.Number.{field}
use Rattle.edf_header.specs.Header.{AreApart}
use Rattle.edf_header.specs.declared.header.Block.{Block}
use Rattle.edf_fragment.specs.Fragment.{bytes_outside}
use Rattle.edf_fragment.proofs.Layouts.{pieces, joined, apart-within, length-field}
use Rattle.edf_fragment.proofs.Layouts.{length-joined}

-- the blocks before these are cut off: the ordinary bytes before them are the samples so far, and
-- `copied` bytes of the blocks are joined
pub record IsCutTo (all rest : List Block) (whole samples blocks : List ℕ)
    (copied : ℕ) : Type 0 where
  pub blocks_len : length blocks ≡ length (joined (pieces all whole))
  pub apart : AreApart (length samples + copied) rest (length whole)
  pub copied_within : copied ≤ length blocks
  pub samples_are : samples
      ++ bytes_outside (length samples + copied) rest whole ≡ bytes_outside 0 all whole
  pub blocks_are : take copied blocks ++ joined (pieces rest whole) ≡ joined (pieces all whole)

-- the next block is after what is done and within the data record, it fits the blocks, and the
-- ordinary bytes before it fit the samples
pub record HasRoom (b : Block) (ordinary copied samples blocks whole : ℕ) : Type 0 where
  pub after_done : ordinary + copied ≤ b.at
  pub within : b.at + b.bytes ≤ whole
  pub ordinary_fits : ordinary + (b.at - (ordinary + copied)) ≤ samples
  pub copied_fits : copied + b.bytes ≤ blocks

pub room-left : (all rest : List Block) (b : Block) (whole samples blocks : List ℕ) (n : ℕ) →
    IsCutTo all (b ∷ rest) whole samples blocks n
    → HasRoom b (length samples) n (length (bytes_outside 0 all whole)) (length blocks)
    (length whole)
room-left all rest b whole samples blocks n c =
    let within = apart-within (b.at + b.bytes) rest (length whole) c.apart.1 in
    let from = length samples + n in
    let before = b.at - from in
    let piece = field whole b.at b.bytes in
    let later = bytes_outside (b.at + b.bytes) rest whole in
    record {
      after_done = c.apart.0;
      within = within;
      ordinary_fits = omega (
        arith,
        ap (λ (x : List ℕ). length x) c.samples_are,
        length-append samples (field whole from before ++ later),
        length-append (field whole from before) later,
        length-field whole from before (omega (arith, c.apart.0, within)),
      );
      copied_fits = omega (
        arith,
        c.blocks_len,
        ap (λ (x : List ℕ). length x) c.blocks_are,
        length-append (take n blocks) (joined (piece ∷ pieces rest whole)),
        ap (λ (x : List ℕ). length x) (flat_map-cons (λ (x : List ℕ). x) piece (pieces rest whole)),
        length-append piece (joined (pieces rest whole)),
        length-take-le n blocks c.copied_within,
        length-field whole b.at b.bytes within,
      );
    }

-- nothing is cut off yet
pub cut-none : (all : List Block) (whole samples blocks : List ℕ) → samples ≡ [] →
    AreApart 0 all (length whole) → length blocks ≡ sum_by (λ b. b.bytes) all
    → IsCutTo all all whole samples blocks 0
cut-none all whole samples blocks none apart room =
    let sizes : length (joined (pieces all whole)) ≡ sum_by (λ b. b.bytes) all =
    length-joined 0 all whole apart in
    subst (λ (x : List ℕ). IsCutTo all all whole x blocks 0) (sym none) (record {
      blocks_len = room ∙ sym sizes;
      apart = apart;
      copied_within = omega arith;
      samples_are = refl;
      blocks_are = refl;
    })

-- one more block is cut off
pub cut-step : (all rest : List Block) (b : Block) (whole samples blocks after new piece : List ℕ)
    (n j : ℕ) → IsCutTo all (b ∷ rest) whole samples blocks n → after ≡ samples ++ new →
    new ≡ field whole (length samples + n) (b.at - (length samples + n)) →
    piece ≡ field whole b.at b.bytes → length (put_mid n j blocks piece) ≡ length blocks →
    IsCutTo all rest whole after (put_mid n j blocks piece) (n + b.bytes)
cut-step all rest b whole samples blocks after new piece n j c after-is new-is piece-is len =
    let within = apart-within (b.at + b.bytes) rest (length whole) c.apart.1 in
    let m = length samples in
    let before = b.at - (m + n) in
    let room = room-left all rest b whole samples blocks n c in
    let size : length new ≡ before = ap (λ (x : List ℕ). length x) new-is
    ∙ length-field whole (m + n) before (omega (arith, c.apart.0, within)) in
    let size2 : length piece ≡ b.bytes = ap (λ (x : List ℕ). length x) piece-is
    ∙ length-field whole b.at b.bytes within in
    let longer : length after ≡ m + length new =
    ap (λ (x : List ℕ). length x) after-is ∙ length-append samples new in
    let next : b.at + b.bytes ≡ length after + (n + b.bytes) =
    omega (arith, c.apart.0, longer, size) in
    let later = bytes_outside (b.at + b.bytes) rest whole in
    let taken : take (n + b.bytes) (put_mid n j blocks piece) ≡ take n blocks ++ piece =
    take-put_mid n j blocks piece (n + b.bytes) (omega (arith, size2)) c.copied_within in
    record {
      blocks_len = len ∙ c.blocks_len;
      apart = subst (λ (x : ℕ). AreApart x rest (length whole)) next c.apart.1;
      copied_within = omega (arith, room.copied_fits, len);
      samples_are = ap (λ (x : ℕ). after ++ bytes_outside x rest whole) (sym next)
          ∙ ap (λ (x : List ℕ). x ++ later) after-is ∙ append_assoc samples new later
          ∙ ap (λ (x : List ℕ). samples ++ (x ++ later)) new-is ∙ c.samples_are;
      blocks_are =
          ap (λ (x : List ℕ). x ++ joined (pieces rest whole)) taken ∙ append_assoc (take n blocks)
          piece (joined (pieces rest whole)) ∙ ap (λ (x : List ℕ). take n blocks ++ (x ++ joined
          (pieces rest whole))) piece-is ∙ ap (λ (x : List ℕ). take n blocks ++ x) (sym
          (flat_map-cons (λ (x : List ℕ). x) (field whole b.at b.bytes) (pieces rest whole))) ∙
          c.blocks_are;
    }

-- all blocks are cut off
pub record IsCutUp (all : List Block) (whole samples blocks : List ℕ) : Type 0 where
  pub samples_are : samples ≡ bytes_outside 0 all whole
  pub blocks_are : blocks ≡ joined (pieces all whole)

pub cut-last : (all : List Block) (whole samples blocks after new : List ℕ) (n : ℕ) →
    IsCutTo all [] whole samples blocks n → after ≡ samples ++ new →
    new ≡ drop (length samples + n) whole → IsCutUp all whole after blocks
cut-last all whole samples blocks after new n c after-is new-is =
    let copied : length (take n blocks) ≡ length blocks =
    ap (λ (x : List ℕ). length x) (sym (append-nil (take n blocks)) ∙ c.blocks_are)
    ∙ sym c.blocks_len in
    let whole-blocks : take n blocks ≡ blocks =
    take_all n blocks (omega (arith, copied, length-take-le n blocks c.copied_within)) in
    record {
      samples_are = after-is ∙ ap (λ (x : List ℕ). samples ++ x) new-is ∙ c.samples_are;
      blocks_are = sym whole-blocks ∙ sym (append-nil (take n blocks)) ∙ c.blocks_are;
    }
