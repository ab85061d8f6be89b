-- A canonical header is read as what it was made from.
use Rattle.std.proofs.Common.{◌≡◌, ℕ, ◌+◌, ◌*◌, ◌/◌, ◌^◌, ◌≤◌, Bool, true, false, List, [], ◌∷◌}
use Rattle.std.proofs.Common.{length, refl, subst, arith, inr, None}
use Rattle.std.specs.Prelude.{codes}
use Rattle.std.specs.Fmt.{decimal}
use Rattle.std.proofs.lemmas.List.{length-append}
use Rattle.edf_time.specs.Civil.{AreStartdates, IsDateField, IsDateText, IsTimeText, day_of}
use Rattle.edf_time.specs.Civil.{second_of_day}
use Rattle.edf_time.proofs.Cited.{start-of-undated, start-parts}
use Rattle.edf_field.specs.Text.{padded_to}
use Rattle.edf_field.specs.Number.{IsNumber}
use Rattle.edf_header.specs.Signal.{samples}
use Rattle.edf_header.specs.Key.{Key, IsKey, MayStart, MayStartBy}
use Rattle.edf_header.specs.Canonical.{annotations_signal, canonical_signals, IsCanonicalHeader}
use Rattle.edf_header.specs.Spelled.{Texts, IsSpelledBy, IsReadAs, spelled_layout, startdate_day}
use Rattle.edf_header.specs.declared.limits.TheConstants.{MOST_BLOCK_SAMPLES, MOST_RECORDS}
use Rattle.edf_header.proofs.SpelledTexts.{printable-by}
use Rattle.edf_header.proofs.SpelledNumbers.{number-field}
use Rattle.edf_header.proofs.SpelledHeader.{spelled-reads}
use Rattle.edf_header.proofs.CanonicalSignal.{canonical-row}

-- the start to the second
whole-second : (start : ℕ) → (day_of start * 86_400 + second_of_day start) * 10 ^ 9 ≡ start / 10 ^ 9
    * 10 ^ 9
whole-second start = omega arith

abbrev texts : (b : List ℕ) (k : Key) (start count n : ℕ) → IsCanonicalHeader b k start count n →
    Texts
texts b k start count n e = record {
  date = e.date;
  time = e.time;
  id_date = e.id_date;
  header_bytes = padded_to 8 (decimal (256 + 256 * length (canonical_signals k n)));
  reserved = padded_to 44 (codes "EDF+D");
  count = padded_to 8 (decimal count);
  signal_count = padded_to 4 (decimal (length (canonical_signals k n)));
}

-- the startdate beside the Startdate subfield: before 2085 its digits alone name the day
startdates : (dated : Bool) (date time : List ℕ) (start : ℕ) → MayStartBy dated start →
    IsDateField date (day_of start) → IsTimeText time (second_of_day start)
    → AreStartdates date (startdate_day dated (day_of start)) (day_of start)
startdates true date time start may d t = (refl, d)
startdates false date time start may d t =
    let parts = start-parts date time None (start / 10 ^ 9 * 10 ^ 9)
    (start-of-undated date time start (may refl) d t) in
    let same : day_of (start / 10 ^ 9 * 10 ^ 9) ≡ day_of start = omega arith in
    subst (IsDateText date) same parts.is_date

says : (b : List ℕ) (k : Key) (start count n : ℕ) → IsKey k → MayStart k start → 1 ≤ count →
    count ≤ MOST_RECORDS → 1 ≤ n → n ≤ MOST_BLOCK_SAMPLES →
    (e : IsCanonicalHeader b k start count n)
    → IsSpelledBy k (day_of start) (second_of_day start) count (texts b k start count n e)
    (annotations_signal n)
says b k start count n key may some few samples-some samples-few e =
    let len : length (canonical_signals k n) ≡ length k.signals + 1 =
    length-append k.signals (annotations_signal n ∷ []) in
    let h = number-field 8 (256 + 256 * length (canonical_signals k n)) (omega arith)
    (omega (arith, key.signals_to)) (omega (arith, key.signals_to)) in
    let c = number-field 8 count (omega arith) (omega arith) (omega arith) in
    let s = number-field 4 (length (canonical_signals k n)) (omega arith)
    (omega (arith, key.signals_to)) (omega (arith, key.signals_to)) in
    let row = canonical-row n samples-some samples-few in
    record {
      date = startdates k.dated e.date e.time start may e.is_date e.is_time;
      time = e.is_time;
      id_date = e.is_id_date;
      header_bytes_printed = h.printed;
      header_bytes =
          subst (λ (m : ℕ).
          IsNumber (padded_to 8 (decimal (256 + 256 * length (canonical_signals k n))))
          (256 + 256 * m)) len h.number;
      reserved_printed = record {
        len = refl;
        printable =
            printable-by (padded_to 44 (codes "EDF+D")) refl;
      };
      reserved = inr refl;
      count_printed = c.printed;
      count = c.number;
      count_some = some;
      signals_printed = s.printed;
      signals = subst (IsNumber (padded_to 4 (decimal (length (canonical_signals k n))))) len
          s.number;
      row_printed = row.printed;
      annotations = row.annotations;
      row_samples = row.samples_are;
      block_size = omega (arith, row.samples_is);
    }

pub canonical-header-reads : (b : List ℕ) (k : Key) (start count n : ℕ) → IsKey k →
    MayStart k start → 1 ≤ count → count ≤ MOST_RECORDS → 1 ≤ n → n ≤ MOST_BLOCK_SAMPLES →
    IsCanonicalHeader b k start count n
    → IsReadAs b (spelled_layout k (start / 10 ^ 9 * 10 ^ 9) count n)
canonical-header-reads b k start count n key may some few samples-some samples-few e =
    let row = canonical-row n samples-some samples-few in
    let read : IsReadAs b (spelled_layout k ((day_of start * 86_400 + second_of_day start) * 10 ^ 9)
    count (samples (annotations_signal n))) =
    spelled-reads b k (day_of start) (second_of_day start) count (annotations_signal n) key
    (record {
      texts = texts b k start count n e;
      says =
          says b k start count n key may some few samples-some samples-few e;
      parts = e.parts;
    }) in
    subst (λ (s : ℕ). IsReadAs b (spelled_layout k (start / 10 ^ 9 * 10 ^ 9) count s))
    row.samples_is
    (subst (λ (s : ℕ). IsReadAs b (spelled_layout k s count (samples (annotations_signal n))))
    (whole-second start) read)
