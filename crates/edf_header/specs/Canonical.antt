-- A canonical file has this one header.
use Rattle.std.specs.Prelude.{◌≡◌, ℕ, ◌+◌, ◌*◌, List, [], ◌∷◌, ◌++◌, length, codes, if◌then◌else◌}
use Rattle.std.specs.Prelude.{pos}
use Rattle.std.specs.Fmt.{decimal}
use Rattle.edf_time.specs.Civil.{IsIdDate, IsDateField, IsTimeText, day_of, second_of_day}
use Rattle.edf_field.specs.Text.{spaces, padded_to}
use Rattle.edf_header.specs.Signal.{columns}
use Rattle.edf_header.specs.Key.{Key}

-- A canonical file has this annotations signal.
abbrev pub annotations_signal : ℕ → List ℕ
annotations_signal samples =
    codes "EDF Annotations " ++ (spaces 80
    ++ (spaces 8 ++ (padded_to 8 (codes "-1") ++ (padded_to 8 (codes "1")
    ++ (padded_to 8 (codes "-32768") ++ (padded_to 8 (codes "32767")
    ++ (spaces 80 ++ (padded_to 8 (decimal samples) ++ spaces 32))))))))

-- Its signals are the ordinary ones in order, then the annotations signal.
abbrev pub canonical_signals : Key → ℕ → List (List ℕ)
canonical_signals k samples = k.signals ++ annotations_signal samples ∷ []

-- The bytes are the header of a canonical file of `count` records, the first of which starts at
-- `start`. The start is named to the second, and numbers have no leading zeros.
pub record IsCanonicalHeader (bytes : List ℕ) (k : Key) (start count samples : ℕ) : Type 0 where
  pub date : List ℕ
  pub time : List ℕ
  pub id_date : List ℕ
  pub is_date : IsDateField date (day_of start)
  pub is_time : IsTimeText time (second_of_day start)
  pub is_id_date : IsIdDate id_date (pos (day_of start))
  pub parts : bytes ≡ codes "0       " ++ (k.patient
      ++ (codes "Startdate " ++ ((if k.dated then id_date else codes "X") ++ (k.after
      ++ (date ++ (time ++ (padded_to 8 (decimal (256 + 256 * length (canonical_signals k samples)))
      ++ (padded_to 44 (codes "EDF+D") ++ (padded_to 8 (decimal count) ++ (k.duration
      ++ (padded_to 4 (decimal (length (canonical_signals k samples)))
      ++ columns (canonical_signals k samples))))))))))))
