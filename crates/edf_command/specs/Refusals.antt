-- The texts of refusals: `E`, the number, the name and the details, each after a space. Numbers are
-- decimal.
use Rattle.std.specs.Prelude.{ℕ, List, [], ◌++◌, codes, decimal}
use Rattle.edf_intake.specs.Refusal.{refusal_number, refusal_name}
use Rattle.edf_intake.specs.declared.answer.Refusal.{Refusal}
use Rattle.edf_intake.specs.declared.answer.Refusal.TheVariants as refusal
use Rattle.edf_cli.specs.Text.{fault_text, fragment_details}

-- the values that a refusal names; one of form names those of its fault
abbrev pub details : (ℕ → List ℕ) → Refusal → List ℕ
details spell (refusal.Form fault) = fragment_details fault
details spell (refusal.Overlap start stored) = codes " start="
    ++ (spell start ++ (codes " stored=" ++ spell stored))
details spell (refusal.Differs start) = codes " start=" ++ spell start
details spell (refusal.Full held new cap) = codes " held="
    ++ (decimal held ++ (codes " new=" ++ (decimal new ++ (codes " cap=" ++ decimal cap))))
details spell refused = []

abbrev pub refusal_text : (ℕ → List ℕ) → Refusal → List ℕ
refusal_text spell refused = fault_text (refusal_number refused) (refusal_name refused)
    (details spell refused)
