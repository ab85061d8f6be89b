-- The header that checked rows and a fixed part make, its key and its layout.
use Rattle.std.proofs.Common.{◌≡◌, ℕ, ◌+◌, ◌*◌, ◌<◌, List, [], ◌∷◌, ◌++◌, length, drop, Bool, true}
use Rattle.std.proofs.Common.{false, not, arith, sym, ap, ◌∙◌, subst, Option}
use Rattle.std.proofs.lemmas.List.Elements.{All-nil, All-cons, All-append, All-take, All-drop}
use Rattle.std.proofs.lemmas.List.Elements.{All-tail, All-head, All-replicate, All-filter}
use Rattle.std.proofs.lemmas.List.FromFn.{length-map-range_with_len, get_or-map-range_with_len}
use Rattle.std.specs.Prelude.{All, sum_by}
use Rattle.std.specs.List.{flat_map}
use Rattle.edf_field.specs.Number.{field}
use Rattle.edf_field.specs.Text.{IsPrintable, spaces}
use Rattle.edf_header.specs.Fields.{fields}
use Rattle.edf_header.specs.Signal.{HasSamples, has_label, ordinary, row_at, row_by, samples_in_all}
use Rattle.edf_header.specs.Signal.{signals_of}
use Rattle.edf_header.specs.Key.{IsKey, Key, dated_bytes, key_bytes}
use Rattle.edf_header.specs.Header.{AreApart, AreSignals, HeaderRecord}
use Rattle.edf_header.specs.Fixed.{FixedPart, IsFixed}
use Rattle.edf_header.specs.Header.{block_bytes, blocks_from, key_of, layout_of, IsLayout}
use Rattle.edf_header.specs.Inside.Rows.{ArePartBytes, AreSoundRows, header_of}
use Rattle.edf_header.specs.declared.header.Block.{Block}
use Rattle.edf_header.specs.declared.header_signals.PartBytes.{PartBytes}
use Rattle.edf_header.proofs.Blocks.{blocks-apart, blocks-bytes, each-block, length-blocks}
use Rattle.edf_header.proofs.SignalKinds.{are-ordinary, kinds-count, kinds-samples}
use Rattle.edf_header.proofs.RowSteps.{length-signals, sized-signals}

-- printable bytes have printable rows
row-printable : (fs : List (ℕ × ℕ)) (b : List ℕ) (n i : ℕ) → All IsPrintable b →
    All IsPrintable (row_by fs b n i)
row-printable [] b n i all = All-nil IsPrintable
row-printable (f ∷ fs) b n i all =
    All-append IsPrintable (field b (n * f.0 + i * f.1) f.1) (row_by fs b n i)
    (All-take IsPrintable f.1 (drop (n * f.0 + i * f.1) b)
    (All-drop IsPrintable (n * f.0 + i * f.1) b all)) (row-printable fs b n i all)

rows-printable : (b : List ℕ) (n : ℕ) → All IsPrintable b →
    All (λ s. All IsPrintable s) (signals_of b n)
rows-printable b n all k d lt =
    let inside : k < n = omega (arith, length-map-range_with_len (row_at b n) 0 n) in
    subst (λ (s : List ℕ). All IsPrintable s)
    (sym (get_or-map-range_with_len (row_at b n) 0 n k k d inside (omega arith)))
    (row-printable fields b n k all)

joined-printable : (ss : List (List ℕ)) → All (λ s. All IsPrintable s) ss →
    All IsPrintable (flat_map (λ s. s) ss)
joined-printable [] all = All-nil IsPrintable
joined-printable (s ∷ ss) all =
    All-append IsPrintable s (flat_map (λ (s : List ℕ). s) ss)
    (All-head (λ (s : List ℕ). All IsPrintable s) s ss all)
    (joined-printable ss (All-tail (λ (s : List ℕ). All IsPrintable s) s ss all))

mark-printable : (dated : Bool) (a : List ℕ) → All IsPrintable a →
    All IsPrintable (dated_bytes dated a)
mark-printable true a all =
    All-cons IsPrintable 68 (a ++ spaces 10) (record { from = omega arith; to = omega arith })
    (All-append IsPrintable a (spaces 10) all
    (All-replicate IsPrintable 10 32 (record { from = omega arith; to = omega arith })))
mark-printable false a all = All-cons IsPrintable 88 a
    (record { from = omega arith; to = omega arith }) all

key-printable : (k : Key) → All IsPrintable k.patient → All IsPrintable k.after →
    All IsPrintable k.duration → All (λ s. All IsPrintable s) k.signals →
    All IsPrintable (key_bytes k)
key-printable k p a d ss =
    let tail : List ℕ = flat_map (λ (s : List ℕ). s) k.signals in
    All-append IsPrintable k.patient (dated_bytes k.dated k.after ++ (k.duration ++ tail)) p
    (All-append IsPrintable (dated_bytes k.dated k.after) (k.duration
    ++ tail) (mark-printable k.dated k.after a)
    (All-append IsPrintable k.duration tail d (joined-printable k.signals ss)))

signals-count : (b : List ℕ) (h : HeaderRecord) → AreSignals b h →
    length h.signals ≡ h.fixed.signal_count
signals-count b h s = sym (ap length s.each) ∙ length-signals b h.fixed.signal_count

-- what all signals have
of-ordinary : (P : List ℕ → Type 0) (ss : List (List ℕ)) → All P ss → All P (ordinary ss)
of-ordinary P ss all = All-filter (λ s. not (has_label s)) P ss all

-- the key that a header names is a key
pub header-key : (b : List ℕ) (h : HeaderRecord) → IsFixed h.fixed → AreSignals b h →
    IsKey (key_of h)
header-key b h f s =
    let count = kinds-count h.signals in
    let sizes = subst (All (λ (s : List ℕ). length s ≡ 256)) s.each
    (sized-signals b h.fixed.signal_count s.len) in
    let prints = subst (All (λ (s : List ℕ). All IsPrintable s)) s.each
    (rows-printable b h.fixed.signal_count s.printable) in
    record {
      sized = record {
        patient = f.patient_len;
        after = f.after_len;
        duration = f.duration_len;
        signals = of-ordinary (λ (s : List ℕ). length s ≡ 256) h.signals sizes;
      };
      printable = key-printable (key_of h) f.patient_printable f.after_printable
          f.duration_printable (of-ordinary (λ (s : List ℕ). All IsPrintable s) h.signals prints);
      patient = f.is_patient;
      after = f.is_after;
      duration = f.is_duration;
      signals_from = s.ordinary_some;
      signals_to = omega (arith, count, signals-count b h s, s.annotations_some, f.signals_to);
      signals = s.are_ordinary;
      each_samples = of-ordinary HasSamples h.signals s.each_samples;
      size = s.ordinary_size;
    }

pub header-layout : (b : List ℕ) (h : HeaderRecord) → IsFixed h.fixed → AreSignals b h →
    IsLayout (layout_of h)
header-layout b h f s =
    let parts : 2 * samples_in_all h.signals ≡ 2 * samples_in_all (ordinary h.signals) + block_bytes
    (layout_of h) =
    omega (arith, kinds-samples h.signals, blocks-bytes 0 h.signals) in
    record {
      key = header-key b h f s;
      may_start = f.may_start;
      whole_second = f.whole_second;
      count = f.count;
      blocks_some = omega (arith, length-blocks 0 h.signals, s.annotations_some);
      blocks_bytes = each-block 0 h.signals s.each_samples;
      apart = let start : 0 + 2 * samples_in_all h.signals ≡ 2 * samples_in_all h.signals =
          omega arith in subst (AreApart 0 (blocks_from 0 h.signals)) start
          (blocks-apart 0 0 h.signals (omega arith));
      parts = parts;
      ordinary_size = s.ordinary_size;
      block_size = omega (arith, blocks-bytes 0 h.signals, s.block_size);
      record_size = omega (arith, kinds-samples h.signals, s.ordinary_size, s.block_size);
    }

pub are-signals : (b : List ℕ) (f : FixedPart) (ss : List (List ℕ)) →
    signals_of b f.signal_count ≡ ss → length b ≡ 256 * f.signal_count →
    All IsPrintable b → AreSoundRows ss → AreSignals b (header_of f ss)
are-signals b f ss each len printable s = record {
  len = len;
  printable = printable;
  each = each;
  annotations_some = s.annotations.annotations_some;
  are_annotations = s.annotations.annotations;
  ordinary_some = s.annotations.ordinary_some;
  are_ordinary = are-ordinary ss s.physical s.digital;
  each_samples = s.each_samples;
  ordinary_size = s.ordinary_size;
  block_size = s.block_size;
}

pub checked : (b : List ℕ) (f : FixedPart) (ss : List (List ℕ)) (n : ℕ) → ss ≡ signals_of b n →
    n ≡ f.signal_count → length b ≡ 256 * f.signal_count → All IsPrintable b → AreSoundRows ss →
    AreSignals b (header_of f ss)
checked b f ss n each is len printable sound =
    are-signals b f ss (sym (each ∙ ap (signals_of b) is)) len printable sound

-- the layout that is read
pub layout-made : (f : FixedPart) (ss : List (List ℕ)) (k : Key) (start : ℕ) (count : Option ℕ)
    (blocks : List Block) (parts : PartBytes) → k ≡ key_of (header_of f ss) → start ≡ f.start →
    count ≡ f.count
    → blocks ≡ blocks_from 0 ss → ArePartBytes ss parts
    → record {
      key = k;
      start = start;
      count = count;
      blocks = blocks;
      record_bytes =
          parts.ordinary + parts.annotations;
    } ≡ layout_of (header_of f ss)
layout-made f ss k start count blocks parts key start-is count-is blocks-are are =
    let all : parts.ordinary + parts.annotations ≡ 2 * samples_in_all ss =
    omega (arith, are.ordinary, are.annotations, kinds-samples ss) in
    λ i. record {
      key = key i;
      start = start-is i;
      count = count-is i;
      blocks = blocks-are i;
      record_bytes = all i;
    }

pub annotations-made : (ss : List (List ℕ)) (blocks : List Block) (parts : PartBytes) →
    blocks ≡ blocks_from 0 ss → ArePartBytes ss parts →
    parts.annotations ≡ sum_by (λ b. b.bytes) blocks
annotations-made ss blocks parts blocks-are are = are.annotations ∙ sym (blocks-bytes 0 ss)
    ∙ ap (sum_by (λ (b : Block). b.bytes)) (sym blocks-are)
