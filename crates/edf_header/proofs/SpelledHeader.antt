-- A header that is spelled from its fields is read as what they say.
use Rattle.std.proofs.Common.{◌≡◌, ℕ, ◌+◌, ◌*◌, ◌^◌, ◌≤◌, List, [], ◌∷◌, ◌++◌, length, take, Bool}
use Rattle.std.proofs.Common.{true, false, cond, Some, refl, sym, ap, ◌∙◌, subst, arith}
use Rattle.std.proofs.Common.{append_assoc, pos}
use Rattle.std.specs.Prelude.{All, codes}
use Rattle.std.specs.List.{flat_map}
use Rattle.std.proofs.lemmas.List.{length-append, take_at, drop_at, take_all}
use Rattle.std.proofs.lemmas.List.Elements.{All-nil, All-cons, All-append, All-push, All-tail}
use Rattle.std.proofs.lemmas.List.Sums.{sum_by_push, sum_by-cons}
use Rattle.edf_time.specs.Civil.{AreStartdates, IsTimeText, IsIdDate}
use Rattle.edf_field.specs.Number.{field, IsNumber}
use Rattle.edf_field.specs.Text.{IsPrintable, IsRecording, FollowsStartdate, spaces}
use Rattle.edf_header.specs.Signal.{columns, labelled, ordinary, samples, samples_in_all}
use Rattle.edf_header.specs.Signal.{signals_of, IsAnnotationsSignal, IsLabelled, IsOrdinary}
use Rattle.edf_header.specs.Signal.{HasSamples, Passes}
use Rattle.edf_header.specs.Key.{Key, IsSized, IsKey, key_bytes, dated_bytes}
use Rattle.edf_header.specs.Header.{HeaderRecord, AreSignals}
use Rattle.edf_header.specs.Fixed.{FixedPart, IsFixedHeader, IsPlus}
use Rattle.edf_header.specs.Header.{blocks_from, layout_of}
use Rattle.edf_header.specs.Fixed.{is_dated}
use Rattle.edf_header.specs.Spelled.{Texts, IsSpelledBy, IsSpelledHeader, IsReadAs, spelled_bytes}
use Rattle.edf_header.specs.Spelled.{startdate_text, startdate_day, spelled_layout}
use Rattle.edf_header.specs.declared.signal_checks.Check.TheVariants.{Label}
use Rattle.edf_header.specs.declared.limits.TheConstants.{MOST_BLOCK_BYTES}
use Rattle.edf_header.proofs.Blocks.{block-last, block_of}
use Rattle.edf_header.proofs.SignalKinds.{labelled-last, ordinary-front}
use Rattle.edf_header.proofs.Strides.{signals-back}
use Rattle.edf_header.proofs.SpelledTexts.{startdate-printed, time-printed, id_date-printed}
use Rattle.edf_header.proofs.SpelledTexts.{printable-by}
use Rattle.edf_header.proofs.SpelledParts.{all-left, all-right, parts-all, all-columns}
use Rattle.edf_header.proofs.SpelledParts.{length-columns, IsPartAt, part-here}

abbrev pub spelled_fixed : Key → ℕ → ℕ → ℕ → FixedPart
spelled_fixed k days seconds count = record {
  patient = k.patient;
  startdate = startdate_day k.dated days;
  after = k.after;
  start = (days * 86_400 + seconds) * 10 ^ 9;
  count = Some count;
  duration = k.duration;
  signal_count = length k.signals + 1;
}

abbrev rows : Key → List ℕ → List (List ℕ)
rows k row = k.signals ++ row ∷ []

abbrev pub spelled_header : Key → ℕ → ℕ → ℕ → List ℕ → HeaderRecord
spelled_header k days seconds count row =
    record { fixed = spelled_fixed k days seconds count; signals = rows k row }

-- the fixed part's bytes
abbrev pub fixed_bytes : Key → Texts → List ℕ
fixed_bytes k t =
    codes "0       " ++ (k.patient ++ (codes "Startdate "
    ++ (startdate_text k.dated t.id_date ++ (k.after ++ (t.date ++ (t.time
    ++ (t.header_bytes ++ (t.reserved ++ (t.count ++ (k.duration ++ t.signal_count))))))))))

-- the recording field
abbrev recording : Bool → List ℕ → List ℕ → List ℕ
recording dated id_date after = codes "Startdate " ++ (startdate_text dated id_date ++ after)

length-recording : (dated : Bool) (id_date after : List ℕ) → length id_date ≡ 11 →
    length after ≡ cond dated 59 69 → length (recording dated id_date after) ≡ 80
length-recording true id_date after li la = omega (arith, length-append id_date after)
length-recording false id_date after li la = omega arith

is-recording : (dated : Bool) (id_date after : List ℕ) (days : ℕ) → length id_date ≡ 11 →
    IsIdDate id_date (pos days) → FollowsStartdate after
    → IsRecording (recording dated id_date after) (startdate_day dated days) after
is-recording true id_date after days li is follows = record {
  is_startdate = (
    refl,
    subst (λ (t : List ℕ). IsIdDate t (pos days)) (sym (take_at id_date after 11 li))
        is,
    sym (drop_at id_date after 11 li),
  );
  rest = follows;
}
is-recording false id_date after days li is follows =
    record { is_startdate = (refl, refl); rest = follows }

dated-back : (dated : Bool) (days : ℕ) → is_dated (startdate_day dated days) ≡ dated
dated-back true days = refl
dated-back false days = refl

-- the parts of the fixed part, each at its offset
record FieldsInPlace (k : Key) (t : Texts) (bytes : List ℕ) : Type 0 where
  len : length bytes ≡ 256
  version : field bytes 0 8 ≡ codes "0       "
  patient : field bytes 8 80 ≡ k.patient
  recording : field bytes 88 80 ≡ recording k.dated t.id_date k.after
  date : field bytes 168 8 ≡ t.date
  time : field bytes 176 8 ≡ t.time
  header_bytes : field bytes 184 8 ≡ t.header_bytes
  reserved : field bytes 192 44 ≡ t.reserved
  count : field bytes 236 8 ≡ t.count
  duration : field bytes 244 8 ≡ k.duration
  signals : field bytes 252 4 ≡ t.signal_count

-- the three texts of the recording field as one
as-recording : (dated : Bool) (id_date after rest : List ℕ) → codes "Startdate "
    ++ (startdate_text dated id_date ++ (after ++ rest)) ≡ recording dated id_date after ++ rest
as-recording dated id_date after rest =
    ap (λ (l : List ℕ). codes "Startdate " ++ l)
    (sym (append_assoc (startdate_text dated id_date) after rest))

fields-in-place : (k : Key) (t : Texts) → IsSized k → length t.id_date ≡ 11 → length t.date ≡ 8 →
    length t.time ≡ 8 → length t.header_bytes ≡ 8 → length t.reserved ≡ 44
    → length t.count ≡ 8 → length t.signal_count ≡ 4 → FieldsInPlace k t (fixed_bytes k t)
fields-in-place k t s id date time header_bytes reserved count signals =
    let b : List ℕ = fixed_bytes k t in
    let l9 : List ℕ = k.duration ++ t.signal_count in
    let l8 : List ℕ = t.count ++ l9 in
    let l7 : List ℕ = t.reserved ++ l8 in
    let l6 : List ℕ = t.header_bytes ++ l7 in
    let l5 : List ℕ = t.time ++ l6 in
    let l4 : List ℕ = t.date ++ l5 in
    let rec : List ℕ = recording k.dated t.id_date k.after in
    let rec-len : length rec ≡ 80 = length-recording k.dated t.id_date k.after id s.after in
    let p1 : IsPartAt b (codes "0       ") (k.patient
    ++ (codes "Startdate " ++ (startdate_text k.dated t.id_date ++ (k.after ++ l4)))) 0 8 =
    part-here b (codes "0       ") (k.patient
    ++ (codes "Startdate " ++ (startdate_text k.dated t.id_date ++ (k.after ++ l4)))) 0 8 refl
    refl in
    let p2 : IsPartAt b k.patient (rec ++ l4) 8 80 =
    part-here b k.patient (rec ++ l4) 8 80 (p1.rest
    ∙ ap (λ (l : List ℕ). k.patient ++ l) (as-recording k.dated t.id_date k.after l4))
    s.patient in
    let p3 : IsPartAt b rec l4 88 80 = part-here b rec l4 88 80 p2.rest rec-len in
    let p4 : IsPartAt b t.date l5 168 8 = part-here b t.date l5 168 8 p3.rest date in
    let p5 : IsPartAt b t.time l6 176 8 = part-here b t.time l6 176 8 p4.rest time in
    let p6 : IsPartAt b t.header_bytes l7 184 8 =
    part-here b t.header_bytes l7 184 8 p5.rest header_bytes in
    let p7 : IsPartAt b t.reserved l8 192 44 =
    part-here b t.reserved l8 192 44 p6.rest reserved in
    let p8 : IsPartAt b t.count l9 236 8 = part-here b t.count l9 236 8 p7.rest count in
    let p9 : IsPartAt b k.duration t.signal_count 244 8 =
    part-here b k.duration t.signal_count 244 8 p8.rest s.duration in
    let whole : b ≡ codes "0       " ++ (k.patient ++ (rec ++ l4)) =
    ap (λ (l : List ℕ). codes "0       " ++ (k.patient ++ l))
    (as-recording k.dated t.id_date k.after l4) in
    record {
      len = ap length whole
          ∙ omega (
            arith,
            length-append (codes "0       ") (k.patient ++ (rec ++ l4)),
            length-append k.patient (rec ++ l4),
            length-append rec l4,
            length-append t.date l5,
            length-append t.time l6,
            length-append t.header_bytes l7,
            length-append t.reserved l8,
            length-append t.count l9,
            length-append k.duration t.signal_count,
            s.patient,
            s.duration,
          );
      version = p1.here;
      patient = p2.here;
      recording = p3.here;
      date = p4.here;
      time = p5.here;
      header_bytes = p6.here;
      reserved = p7.here;
      count = p8.here;
      duration = p9.here;
      signals = ap (take 4) p9.rest ∙ take_all 4 t.signal_count (omega arith);
    }

-- the bytes of a key are printable, part by part
after-printable : (dated : Bool) (after rest : List ℕ) →
    All IsPrintable (dated_bytes dated after ++ rest) → All IsPrintable after × All IsPrintable rest
after-printable true after rest all =
    let both : List ℕ = after ++ spaces 10 in
    let tail = All-tail IsPrintable 68 (both ++ rest) all in (
      all-left IsPrintable after (spaces 10) (all-left IsPrintable both rest tail),
      all-right IsPrintable both rest tail,
    )
after-printable false after rest all =
    let tail = All-tail IsPrintable 88 (after ++ rest) all in
    (all-left IsPrintable after rest tail, all-right IsPrintable after rest tail)

record IsPrintableKey (k : Key) : Type 0 where
  patient : All IsPrintable k.patient
  after : All IsPrintable k.after
  duration : All IsPrintable k.duration
  signals : All (All IsPrintable) k.signals

printable-key : (k : Key) → All IsPrintable (key_bytes k) → IsPrintableKey k
printable-key k all =
    let tail : List ℕ = flat_map (λ (s : List ℕ). s) k.signals in
    let others = all-right IsPrintable k.patient (dated_bytes k.dated k.after
    ++ (k.duration ++ tail)) all in
    let both = after-printable k.dated k.after (k.duration ++ tail) others in
    record {
      patient = all-left IsPrintable k.patient (dated_bytes k.dated k.after
          ++ (k.duration ++ tail)) all;
      after = both.0;
      duration = all-left IsPrintable k.duration tail both.1;
      signals = parts-all IsPrintable (λ (s : List ℕ). s) k.signals
          (all-right IsPrintable k.duration tail both.1);
    }

startdate-printable : (dated : Bool) (id_date : List ℕ) → All IsPrintable id_date →
    All IsPrintable (startdate_text dated id_date)
startdate-printable true id_date all = all
startdate-printable false id_date all = printable-by (codes "X") refl

fixed-printable : (k : Key) (t : Texts) → IsPrintableKey k → All IsPrintable t.id_date →
    All IsPrintable t.date → All IsPrintable t.time → All IsPrintable t.header_bytes
    → All IsPrintable t.reserved → All IsPrintable t.count → All IsPrintable t.signal_count →
    All IsPrintable (fixed_bytes k t)
fixed-printable k t p id date time header_bytes reserved count signals =
    let l9 : List ℕ = k.duration ++ t.signal_count in
    let l8 : List ℕ = t.count ++ l9 in
    let l7 : List ℕ = t.reserved ++ l8 in
    let l6 : List ℕ = t.header_bytes ++ l7 in
    let l5 : List ℕ = t.time ++ l6 in
    let l4 : List ℕ = t.date ++ l5 in
    let l3 : List ℕ = k.after ++ l4 in
    let l2 : List ℕ = startdate_text k.dated t.id_date ++ l3 in
    let l1 : List ℕ = codes "Startdate " ++ l2 in
    let join : (a b : List ℕ) → All IsPrintable a → All IsPrintable b → All IsPrintable (a ++ b) =
    All-append IsPrintable in
    join (codes "0       ") (k.patient ++ l1) (printable-by (codes "0       ") refl)
    (join k.patient l1 p.patient (join (codes "Startdate ") l2
    (printable-by (codes "Startdate ") refl)
    (join (startdate_text k.dated t.id_date) l3 (startdate-printable k.dated t.id_date id)
    (join k.after l4 p.after (join t.date l5 date (join t.time l6 time
    (join t.header_bytes l7 header_bytes
    (join t.reserved l8 reserved (join t.count l9 count
    (join k.duration t.signal_count p.duration signals))))))))))

is-fixed : (k : Key) (days seconds count : ℕ) (t : Texts) (row : List ℕ) → IsKey k →
    IsSpelledBy k days seconds count t row
    → IsFixedHeader (fixed_bytes k t) (spelled_fixed k days seconds count)
is-fixed k days seconds count t row key s =
    let date = startdate-printed t.date (startdate_day k.dated days) days s.date in
    let time = time-printed t.time seconds s.time in
    let id = id_date-printed t.id_date (pos days) s.id_date in
    let p = fields-in-place k t key.sized id.len date.len time.len s.header_bytes_printed.len
    s.reserved_printed.len s.count_printed.len s.signals_printed.len in
    let b : List ℕ = fixed_bytes k t in
    record {
      len = p.len;
      printable = fixed-printable k t (printable-key k key.printable) id.printable date.printable
          time.printable s.header_bytes_printed.printable
          s.reserved_printed.printable s.count_printed.printable s.signals_printed.printable;
      version = p.version;
      patient = sym p.patient;
      is_patient = key.patient;
      recording = subst (λ (l : List ℕ). IsRecording l (startdate_day k.dated days) k.after)
          (sym p.recording) (is-recording k.dated t.id_date k.after days id.len s.id_date
          key.after);
      start = (
        days,
        seconds,
        subst (λ (l : List ℕ).
            AreStartdates l (startdate_day k.dated days) days) (sym p.date) s.date,
        subst (λ (l : List ℕ). IsTimeText l seconds) (sym p.time) s.time,
        refl,
      );
      header_bytes = subst (λ (l : List ℕ). IsNumber l (256 + 256 * (length k.signals + 1)))
          (sym p.header_bytes) s.header_bytes;
      reserved = subst IsPlus (sym p.reserved) s.reserved;
      count = (subst (λ (l : List ℕ). IsNumber l count) (sym p.count) s.count, s.count_some);
      duration = sym p.duration;
      is_duration = key.duration;
      signals = subst (λ (l : List ℕ). IsNumber l (length k.signals + 1)) (sym p.signals) s.signals;
      signals_from = omega (arith, key.signals_from);
      signals_to = omega (arith, key.signals_to);
    }

all-rows : (P : List ℕ → Type 0) (k : Key) (row : List ℕ) → All P k.signals → P row →
    All P (rows k row)
all-rows P k row each last = All-push P k.signals row each last

-- the key's signals have no label of an annotations signal
unlabelled : (k : Key) → IsKey k → All (Passes Label) k.signals
unlabelled k key = λ i d lt. (key.signals i d lt).label

are-signals : (k : Key) (days seconds count : ℕ) (t : Texts) (row : List ℕ) → IsKey k →
    IsSpelledBy k days seconds count t row
    → AreSignals (columns (rows k row)) (spelled_header k days seconds count row)
are-signals k days seconds count t row key s =
    let sized = all-rows (λ (s : List ℕ). length s ≡ 256) k row key.sized.signals
    s.row_printed.len in
    let n : length (rows k row) ≡ length k.signals + 1 = length-append k.signals (row ∷ []) in
    let ordinary-is : ordinary (rows k row) ≡ k.signals =
    ordinary-front k.signals row (unlabelled k key) s.annotations.label in
    let labelled-is : labelled (rows k row) ≡ row ∷ [] =
    labelled-last k.signals row (unlabelled k key) s.annotations.label in
    record {
      len = omega (arith, length-columns (rows k row) sized, n);
      printable = all-columns IsPrintable (rows k row)
          (all-rows (All IsPrintable) k row (printable-key k key.printable).signals
          s.row_printed.printable);
      each = ap (signals_of (columns (rows k row))) (sym n) ∙ signals-back (rows k row) sized;
      annotations_some = omega (arith, ap length labelled-is);
      are_annotations = subst (All IsAnnotationsSignal) (sym labelled-is)
          (All-cons IsAnnotationsSignal row [] s.annotations (All-nil IsAnnotationsSignal));
      ordinary_some = omega (arith, ap length ordinary-is, key.signals_from);
      are_ordinary = subst (All IsOrdinary) (sym ordinary-is) key.signals;
      each_samples = all-rows HasSamples k row key.each_samples s.row_samples;
      ordinary_size = subst (λ (l : List (List ℕ)). 2 * samples_in_all l ≤ MOST_BLOCK_BYTES)
          (sym ordinary-is) key.size;
      block_size = let one : samples_in_all (row ∷ []) ≡ samples row =
          omega (arith, sum_by-cons samples row []) in
          omega (arith, ap samples_in_all labelled-is, one, s.block_size);
    }

spelled-parts : (k : Key) (t : Texts) (row : List ℕ) → spelled_bytes k t row ≡ fixed_bytes k t
    ++ columns (rows k row)
spelled-parts k t row = sym (simp append_assoc)

spelled-says : (k : Key) (days seconds count : ℕ) (row : List ℕ) → IsKey k → IsLabelled row
    → layout_of (spelled_header k days seconds count row) ≡ spelled_layout k
    ((days * 86_400 + seconds) * 10 ^ 9) count (samples row)
spelled-says k days seconds count row key label =
    let dated = dated-back k.dated days in
    let same : ordinary (rows k row) ≡ k.signals =
    ordinary-front k.signals row (unlabelled k key) label in
    let blocks : blocks_from 0 (rows k row) ≡ block_of (2 * samples_in_all k.signals) row ∷ [] =
    block-last k.signals row (unlabelled k key) label in
    let all : samples_in_all (rows k row) ≡ samples_in_all k.signals + samples row =
    sum_by_push samples k.signals row in
    λ i. record {
      key = record {
        patient = k.patient;
        dated = dated i;
        after = k.after;
        duration = k.duration;
        signals = same i;
      };
      start = (days * 86_400 + seconds) * 10 ^ 9;
      count = Some count;
      blocks = blocks i;
      record_bytes = 2 * all i;
    }

-- bytes that spell a header of a key are read as it
pub spelled-reads : (bytes : List ℕ) (k : Key) (days seconds count : ℕ) (row : List ℕ) → IsKey k →
    IsSpelledHeader bytes k days seconds count row
    → IsReadAs bytes (spelled_layout k ((days * 86_400 + seconds) * 10 ^ 9) count (samples row))
spelled-reads bytes k days seconds count row key s =
    let t : Texts = s.texts in
    let fixed = is-fixed k days seconds count t row key s.says in
    let signals = are-signals k days seconds count t row key s.says in
    let first : List ℕ = fixed_bytes k t in
    let second : List ℕ = columns (rows k row) in
    let is : bytes ≡ first ++ second = s.parts ∙ spelled-parts k t row in
    record {
      header = spelled_header k days seconds count row;
      reads = λ rest. record {
        first = first;
        second = second;
        parts = ap (λ (l : List ℕ). l ++ rest) is ∙ append_assoc first second rest;
        fixed = fixed;
        signals = signals;
      };
      says = spelled-says k days seconds count row key s.says.annotations.label;
      len = omega (arith, ap length is, length-append first second, fixed.len, signals.len);
    }
