-- A header is written field by field, its annotations signal last.
use Rattle.std.specs.Prelude.{◌≡◌, ℕ, ◌+◌, ◌*◌, ◌≤◌, Bool, List, ℤ, Option, Some, None, [], ◌∷◌}
use Rattle.std.specs.Prelude.{◌++◌, length, All, codes, if◌then◌else◌, pos}
use Rattle.edf_time.specs.Civil.{AreStartdates, IsTimeText, IsIdDate}
use Rattle.edf_field.specs.Text.{IsPrintable}
use Rattle.edf_field.specs.Number.{IsNumber}
use Rattle.edf_header.specs.Signal.{columns, samples, samples_in_all, IsAnnotationsSignal}
use Rattle.edf_header.specs.Signal.{HasSamples}
use Rattle.edf_header.specs.Key.{Key}
use Rattle.edf_header.specs.Header.{HeaderRecord, Layout, IsHeader, layout_of}
use Rattle.edf_header.specs.Fixed.{IsPlus}
use Rattle.edf_header.specs.declared.limits.TheConstants.{MOST_BLOCK_BYTES}

-- The text is printable and has a field's width.
pub record IsPrinted (width : ℕ) (text : List ℕ) : Type 0 where
  pub len : length text ≡ width
  pub printable : All IsPrintable text

-- The Startdate subfield has this text.
abbrev pub startdate_text : Bool → List ℕ → List ℕ
startdate_text dated id_date = if dated then id_date else codes "X"

-- It is read as this day, or none for X.
abbrev pub startdate_day : Bool → ℕ → Option ℤ
startdate_day dated days = if dated then Some (pos days) else None

-- No key has these texts: the start's three, and those of numbers and of the reserved field.
pub record Texts : Type 0 where
  pub date : List ℕ
  pub time : List ℕ
  pub id_date : List ℕ
  pub header_bytes : List ℕ
  pub reserved : List ℕ
  pub count : List ℕ
  pub signal_count : List ℕ

-- The header has these bytes, field by field.
abbrev pub spelled_bytes : Key → Texts → List ℕ → List ℕ
spelled_bytes k t row =
    codes "0       " ++ (k.patient ++ (codes "Startdate "
    ++ (startdate_text k.dated t.id_date ++ (k.after ++ (t.date ++ (t.time
    ++ (t.header_bytes ++ (t.reserved
    ++ (t.count ++ (k.duration ++ (t.signal_count ++ columns (k.signals ++ row ∷ []))))))))))))

-- The texts say this, and the row is an annotations signal.
pub record IsSpelledBy (k : Key) (days seconds records : ℕ) (t : Texts) (row : List ℕ) : Type 0
  where
    pub date : AreStartdates t.date (startdate_day k.dated days) days
    pub time : IsTimeText t.time seconds
    pub id_date : IsIdDate t.id_date (pos days)
    pub header_bytes_printed : IsPrinted 8 t.header_bytes
    pub header_bytes : IsNumber t.header_bytes (256 + 256 * (length k.signals + 1))
    pub reserved_printed : IsPrinted 44 t.reserved
    pub reserved : IsPlus t.reserved
    pub count_printed : IsPrinted 8 t.count
    pub count : IsNumber t.count records
    pub count_some : 1 ≤ records
    pub signals_printed : IsPrinted 4 t.signal_count
    pub signals : IsNumber t.signal_count (length k.signals + 1)
    pub row_printed : IsPrinted 256 row
    pub annotations : IsAnnotationsSignal row
    pub row_samples : HasSamples row
    pub block_size : 2 * samples row ≤ MOST_BLOCK_BYTES

-- The bytes are such a header, with these texts.
pub record IsSpelledHeader (bytes : List ℕ) (k : Key) (days seconds records : ℕ)
    (row : List ℕ) : Type 0 where
  pub texts : Texts
  pub says : IsSpelledBy k days seconds records texts row
  pub parts : bytes ≡ spelled_bytes k texts row

-- The bytes are read as a header of this layout, whatever follows them.
pub record IsReadAs (bytes : List ℕ) (layout : Layout) : Type 0 where
  pub header : HeaderRecord
  pub reads : (rest : List ℕ) → IsHeader (bytes ++ rest) header rest
  pub says : layout_of header ≡ layout
  pub len : length bytes ≡ 512 + 256 * length layout.key.signals

-- In this layout the annotations block of `block` samples is last in each data record.
abbrev pub spelled_layout : Key → ℕ → ℕ → ℕ → Layout
spelled_layout k start count block = record {
  key = k;
  start = start;
  count = Some count;
  blocks = record { at = 2 * samples_in_all k.signals; bytes = 2 * block } ∷ [];
  record_bytes = 2 * (samples_in_all k.signals + block);
}
