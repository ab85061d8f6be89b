-- Each field of a header begins at its byte and has its number of bytes.
use Rattle.std.specs.Prelude.{ℕ, ◌-◌, ◌/◌, List, [], ◌∷◌, length, drop, slice_index}
use Rattle.edf_field.specs.Number.{field}

-- The fixed part, a header's first 256 bytes, has these fields.
abbrev pub version_field : List ℕ → List ℕ
version_field bytes = field bytes 0 8

abbrev pub patient_field : List ℕ → List ℕ
patient_field bytes = field bytes 8 80

abbrev pub recording_field : List ℕ → List ℕ
recording_field bytes = field bytes 88 80

abbrev pub startdate_field : List ℕ → List ℕ
startdate_field bytes = field bytes 168 8

abbrev pub starttime_field : List ℕ → List ℕ
starttime_field bytes = field bytes 176 8

abbrev pub header_bytes_field : List ℕ → List ℕ
header_bytes_field bytes = field bytes 184 8

abbrev pub reserved_field : List ℕ → List ℕ
reserved_field bytes = field bytes 192 44

abbrev pub count_field : List ℕ → List ℕ
count_field bytes = field bytes 236 8

abbrev pub duration_field : List ℕ → List ℕ
duration_field bytes = field bytes 244 8

abbrev pub signals_field : List ℕ → List ℕ
signals_field bytes = field bytes 252 4

-- A signal's row has label, transducer type, physical dimension, physical minimum and maximum,
-- digital minimum and maximum, prefiltering, samples per data record, reserved.
abbrev pub fields : List (ℕ × ℕ)
fields = (0, 16) ∷ (16, 80) ∷ (96, 8) ∷ (104, 8) ∷ (112, 8) ∷ (120, 8) ∷ (128, 8) ∷ (
  136,
  80,
) ∷ (216, 8) ∷ (224, 32) ∷ []

abbrev pub label_field : List ℕ → List ℕ
label_field row = field row 0 16

abbrev pub physical_minimum_field : List ℕ → List ℕ
physical_minimum_field row = field row 104 8

abbrev pub physical_maximum_field : List ℕ → List ℕ
physical_maximum_field row = field row 112 8

abbrev pub digital_minimum_field : List ℕ → List ℕ
digital_minimum_field row = field row 120 8

abbrev pub digital_maximum_field : List ℕ → List ℕ
digital_maximum_field row = field row 128 8

abbrev pub samples_field : List ℕ → List ℕ
samples_field row = field row 216 8

-- The bytes of an identity have the patient field; D where the Startdate subfield is a date, X
-- where it is X; what follows that subfield; the spaces that follow where it is a date; the
-- duration field; the rows of the signals.
abbrev pub key_patient_field : List ℕ → List ℕ
key_patient_field bytes = field bytes 0 80

abbrev pub key_mark : List ℕ → ℕ
key_mark bytes = slice_index bytes 80

abbrev pub key_after_field : List ℕ → ℕ → List ℕ
key_after_field bytes width = field bytes 81 width

abbrev pub key_fill_field : List ℕ → List ℕ
key_fill_field bytes = field bytes 140 10

abbrev pub key_duration_field : List ℕ → List ℕ
key_duration_field bytes = field bytes 150 8

abbrev pub key_size_before_signals : ℕ
key_size_before_signals = 158

abbrev pub key_signals_part : List ℕ → List ℕ
key_signals_part bytes = drop key_size_before_signals bytes

abbrev pub key_signals_count : List ℕ → ℕ
key_signals_count bytes = (length bytes - key_size_before_signals) / 256
