-- A canonical file has one header.
use Rattle.std.proofs.Common.{◌≡◌, ℕ, ◌+◌, ◌*◌, List, ◌++◌, length, sym, ap, ◌∙◌, pos}
use Rattle.std.specs.Prelude.{codes}
use Rattle.std.specs.Fmt.{decimal}
use Rattle.edf_time.specs.Civil.{day_of, second_of_day}
use Rattle.edf_time.proofs.Cited.{one-date_text, one-time_text, one-id_text}
use Rattle.edf_field.specs.Text.{padded_to}
use Rattle.edf_header.specs.Signal.{columns}
use Rattle.edf_header.specs.Key.{Key}
use Rattle.edf_header.specs.Canonical.{canonical_signals, IsCanonicalHeader}
use Rattle.edf_header.specs.Spelled.{startdate_text}

-- the header with its three texts of the start
abbrev whole : Key → ℕ → ℕ → List ℕ → List ℕ → List ℕ → List ℕ
whole k count samples date time id_date =
    codes "0       " ++ (k.patient ++ (codes "Startdate "
    ++ (startdate_text k.dated id_date ++ (k.after
    ++ (date ++ (time ++ (padded_to 8 (decimal (256 + 256 * length (canonical_signals k samples)))
    ++ (padded_to 44 (codes "EDF+D") ++ (padded_to 8 (decimal count) ++ (k.duration
    ++ (padded_to 4 (decimal (length (canonical_signals k samples)))
    ++ columns (canonical_signals k samples))))))))))))

pub one-canonical-header : (b other : List ℕ) (k : Key) (start count samples : ℕ) →
    IsCanonicalHeader b k start count samples → IsCanonicalHeader other k start count samples →
    b ≡ other
one-canonical-header b other k start count samples e f =
    let date = one-date_text e.date f.date (day_of start) e.is_date f.is_date in
    let time = one-time_text e.time f.time (second_of_day start) e.is_time f.is_time in
    let id = one-id_text e.id_date f.id_date (pos (day_of start)) e.is_id_date f.is_id_date in
    e.parts ∙ ap (λ (d : List ℕ). whole k count samples d e.time e.id_date) date
    ∙ ap (λ (t : List ℕ). whole k count samples f.date t e.id_date) time
    ∙ ap (λ (i : List ℕ). whole k count samples f.date f.time i) id ∙ sym f.parts
