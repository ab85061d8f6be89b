-- What is written one part after another is a canonical header.
use Rattle.std.proofs.Common.{◌≡◌, ℕ, ◌+◌, ◌*◌, ◌≤◌, List, [], ◌∷◌, ◌++◌, length, append_assoc, sym}
use Rattle.std.proofs.Common.{ap, ◌∙◌, pos}
use Rattle.std.specs.Prelude.{codes}
use Rattle.std.specs.Fmt.{decimal}
use Rattle.std.proofs.lemmas.List.{length-append}
use Rattle.edf_time.specs.Civil.{IsDateField, IsTimeText, IsIdDate, day_of, second_of_day}
use Rattle.edf_field.specs.Text.{padded_to}
use Rattle.edf_header.specs.Signal.{columns}
use Rattle.edf_header.specs.Key.{Key}
use Rattle.edf_header.specs.Canonical.{annotations_signal, canonical_signals, IsCanonicalHeader}
use Rattle.edf_header.specs.Spelled.{startdate_text}
use Rattle.edf_header.specs.declared.limits.TheConstants.{MOST_BLOCK_SAMPLES}
use Rattle.edf_header.proofs.CanonicalSignal.{canonical-row}

pub row-length : (n : ℕ) (row : List ℕ) → 1 ≤ n → n ≤ MOST_BLOCK_SAMPLES →
    row ≡ annotations_signal n →
    length row ≡ 256
row-length n row some few is = ap length is ∙ (canonical-row n some few).printed.len

-- the identifications
abbrev pub names : Key → List ℕ → List ℕ
names k id_date = codes "0       "
    ++ (k.patient ++ (codes "Startdate " ++ (startdate_text k.dated id_date ++ k.after)))

-- the fields from the number of header bytes to the number of signals
abbrev pub numbers : Key → ℕ → ℕ → List ℕ
numbers k count signals =
    padded_to 8 (decimal (256 + 256 * signals))
    ++ (padded_to 44 (codes "EDF+D")
    ++ (padded_to 8 (decimal count) ++ (k.duration ++ padded_to 4 (decimal signals))))

joined : (k : Key) (id_date date time c : List ℕ) (count m : ℕ)
    → (((names k id_date ++ date) ++ time) ++ numbers k count m) ++ c
    ≡ codes "0       " ++ (k.patient
    ++ (codes "Startdate " ++ (startdate_text k.dated id_date ++ (k.after ++ (date ++ (time
    ++ (padded_to 8 (decimal (256 + 256 * m))
    ++ (padded_to 44 (codes "EDF+D")
    ++ (padded_to 8 (decimal count) ++ (k.duration ++ (padded_to 4 (decimal m) ++ c)))))))))))
joined k id_date date time c count m = simp append_assoc

pub written : (k : Key) (start count n signals : ℕ) (date time id_date o1 o2 o3 o4 o5 : List ℕ)
    (ss : List (List ℕ))
    → IsDateField date (day_of start) → IsTimeText time (second_of_day start) →
    IsIdDate id_date (pos (day_of start))
    → o1 ≡ names k id_date → o2 ≡ o1 ++ date → o3 ≡ o2 ++ time → o4 ≡ o3
    ++ numbers k count signals → o5 ≡ o4 ++ columns (ss ++ annotations_signal n ∷ [])
    → signals ≡ length k.signals + 1 → ss ≡ k.signals → IsCanonicalHeader o5 k start count n
written k start count n signals date time id_date o1 o2 o3 o4 o5 ss is-date is-time is-id e1 e2 e3
    e4 e5 signals-are rows-are =
    let m-is : signals ≡ length (canonical_signals k n) = signals-are
    ∙ sym (length-append k.signals (annotations_signal n ∷ [])) in
    let row : List ℕ = annotations_signal n in
    let c-is : columns (ss ++ row ∷ []) ≡ columns (canonical_signals k n) =
    ap (λ (l : List (List ℕ)). columns (l ++ row ∷ [])) rows-are in
    let first : o4 ≡ ((names k id_date ++ date) ++ time) ++ numbers k count signals =
    e4 ∙ ap (λ (l : List ℕ). l ++ numbers k count signals) (e3
    ∙ ap (λ (l : List ℕ). l ++ time) (e2 ∙ ap (λ (l : List ℕ). l ++ date) e1)) in
    record {
      date = date;
      time = time;
      id_date = id_date;
      is_date = is-date;
      is_time = is-time;
      is_id_date = is-id;
      parts = e5 ∙ ap (λ (l : List ℕ). l ++ columns (ss ++ row ∷ [])) first
          ∙ ap (λ (l : List ℕ). (((names k id_date ++ date) ++ time) ++ numbers k count signals)
          ++ l) c-is
          ∙ ap (λ (m : ℕ). (((names k id_date ++ date) ++ time) ++ numbers k count m)
          ++ columns (canonical_signals k n)) m-is
          ∙ joined k id_date date time (columns (canonical_signals k n)) count
          (length (canonical_signals k n));
    }
