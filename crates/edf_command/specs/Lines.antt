-- The lines that the program writes, and its statuses: functions of names, answers and holdings. A
-- line ends with byte 10.
use Rattle.std.specs.Prelude.{ℕ, ◌+◌, List, [], ◌∷◌, ◌++◌, length, take, codes, decimal, fold, Ok}
use Rattle.std.specs.Prelude.{Err}
use Rattle.std.specs.List.{flat_map, zip}
use Rattle.edf_header.specs.Key.{Key, patient_code, investigation_code}
use Rattle.edf_fragment.specs.Fragment.{DataRecord}
use Rattle.edf_holdings.specs.Holdings.{Holdings}
use Rattle.edf_store.specs.Fault.{number, store_fault_name}
use Rattle.edf_store.specs.declared.fault.StoreFault.{StoreFault}
use Rattle.edf_intake.specs.Refusal.{Answer, refusal_number}
use Rattle.edf_intake.specs.declared.answer.Refusal.{Refusal}
use Rattle.edf_export.specs.Export.{export_fault_number, export_fault_name}
use Rattle.edf_export.specs.declared.fault.ExportFault.{ExportFault}
use Rattle.edf_command.specs.Refusals.{refusal_text}
use Rattle.edf_cli.specs.Text.{fault_text, refused_line, memory_line}
use Rattle.edf_cli.specs.Status.{status_of_number, worse}
use Rattle.edf_cli.specs.declared.status.Status.{Status}
use Rattle.edf_cli.specs.declared.status.Status.TheVariants.{Done}

-- ---- take

-- `FILE accepted new=N known=K`
abbrev pub accepted_line : List ℕ → ℕ → ℕ → List ℕ
accepted_line name new known = name ++ (codes " accepted new="
    ++ (decimal new ++ (codes " known=" ++ (decimal known ++ (10 ∷ [])))))

-- `FILE refused T`, also of `convert`
abbrev pub refused_file_line : (ℕ → List ℕ) → List ℕ → Refusal → List ℕ
refused_file_line spell name refusal = name
    ++ (codes " refused " ++ (refusal_text spell refusal ++ (10 ∷ [])))

abbrev pub take_line : (ℕ → List ℕ) → List ℕ → Answer → List ℕ
take_line spell name (Ok receipt) = accepted_line name receipt.new receipt.known
take_line spell name (Err refusal) = refused_file_line spell name refusal

-- a line a file, in the order of the words
abbrev pub take_lines : (ℕ → List ℕ) → List (List ℕ) → List Answer → List ℕ
take_lines spell names answers = flat_map (λ p. take_line spell p.0 p.1) (zip names answers)

-- the lines of the first n answers
abbrev pub first_take_lines : (ℕ → List ℕ) → List (List ℕ) → List Answer → ℕ → List ℕ
first_take_lines spell names answers n = take_lines spell names (take n answers)

abbrev pub answer_status : Answer → Status
answer_status (Ok receipt) = Done
answer_status (Err refusal) = status_of_number (refusal_number refusal)

-- the worst status of the answers
abbrev pub take_status : List Answer → Status
take_status answers = fold (λ status answer. worse status (answer_status answer)) Done answers

-- there is no memory for the readers or the answers
abbrev pub take_memory_line : List ℕ
take_memory_line = memory_line (codes "take")

-- ---- list

abbrev pub first_start : List DataRecord → ℕ
first_start [] = 0
first_start (r ∷ rs) = r.start

-- `P records=N first=I patient=C investigation=V`
abbrev pub list_line : (ℕ → List ℕ) → ℕ → Key → List DataRecord → List ℕ
list_line spell place k records = decimal place ++ (codes " records=" ++ (decimal (length records)
    ++ (codes " first=" ++ (spell (first_start records)
    ++ (codes " patient=" ++ (patient_code k
    ++ (codes " investigation=" ++ (investigation_code k ++ (10 ∷ [])))))))))

-- a line a recording, whose places count on from this one
abbrev pub list_lines : (ℕ → List ℕ) → Holdings → ℕ → List Key → List ℕ
list_lines spell h place [] = []
list_lines spell h place (k ∷ ks) = list_line spell place k (h k)
    ++ list_lines spell h (place + 1) ks

-- the lines of the first n recordings
abbrev pub first_list_lines : (ℕ → List ℕ) → Holdings → List Key → ℕ → List ℕ
first_list_lines spell h keys n = list_lines spell h 1 (take n keys)

abbrev pub list_refused_line : StoreFault → List ℕ
list_refused_line fault = refused_line (codes "list") (number fault) (store_fault_name fault)

-- ---- export

abbrev pub no_recording_line : ℕ → List ℕ
no_recording_line place = codes "no recording at place " ++ (decimal place ++ (10 ∷ []))

abbrev pub export_refused_line : ExportFault → List ℕ
export_refused_line fault = refused_line (codes "export") (export_fault_number fault)
    (export_fault_name fault)

abbrev pub export_status : ExportFault → Status
export_status fault = status_of_number (export_fault_number fault)

-- ---- before a command is run

-- the store can't be opened
abbrev pub store_refused_line : StoreFault → List ℕ
store_refused_line fault = refused_line (codes "store") (number fault) (store_fault_name fault)

-- ---- after it was run

-- the database file could not be given all that is held
abbrev pub store_not_closed_line : StoreFault → List ℕ
store_not_closed_line fault = codes "store not closed "
    ++ fault_text (number fault) (store_fault_name fault) (10 ∷ [])
