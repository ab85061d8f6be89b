-- The lines that the program writes: functions of names, runs and faults. A line ends with byte 10.
use Rattle.std.specs.Prelude.{ℕ, ◌+◌, ◌-◌, List, [], ◌∷◌, ◌++◌, codes, decimal, slice_get}
use Rattle.std.specs.Prelude.{Option, Some, None}
use Rattle.edf_time.specs.Decimal.{short}
use Rattle.edf_field.specs.Number.{duration_of}
use Rattle.edf_header.specs.Key.{Key, patient_code, investigation_code}
use Rattle.edf_fragment.specs.Fault.{fragment_fault_number, fragment_fault_name}
use Rattle.edf_fragment.specs.declared.fault.FragmentFault.{FragmentFault}
use Rattle.edf_fragment.specs.declared.fault.FragmentFault.TheVariants as fragment
use Rattle.edf_cli.specs.Status.{status_of_number}
use Rattle.edf_cli.specs.Text.{fault_text, fragment_details, refused_line, memory_line}
use Rattle.edf_cli.specs.declared.status.Status.{Status}
use Rattle.edf_runs.specs.declared.run.Run.{Run}
use Rattle.edf_runs.specs.declared.fault.WriteFault.{WriteFault}
use Rattle.edf_runs.specs.declared.fault.WriteFault.TheVariants as run
pub use Rattle.edf_cli.specs.Text.{IsInstantFormat}

-- ---- lines of the runs of a file of key k, whose data records last d nanoseconds

-- where the last data record of a run ends
abbrev pub end_of : ℕ → Run → ℕ
end_of d r = r.last + d

-- ` gap=S`: how much is missing before the next run, where there is one
abbrev pub gap_text : ℕ → Run → Option Run → List ℕ
gap_text d r None = []
gap_text d r (Some next) = codes " gap=" ++ short (next.first - end_of d r)

-- `N records=K first=I seconds=S gap=S`: how the line of a run begins
abbrev pub run_front : (ℕ → List ℕ) → ℕ → ℕ → Run → Option Run → List ℕ
run_front spell d number r next = decimal number ++ (codes " records="
    ++ (decimal r.records ++ (codes " first=" ++ (spell r.first
    ++ (codes " seconds=" ++ (short (end_of d r - r.first) ++ gap_text d r next))))))

-- ` patient=P investigation=N`: how it ends, by the codes of the file
abbrev pub line_end : Key → List ℕ
line_end k = codes " patient=" ++ (patient_code k
    ++ (codes " investigation=" ++ (investigation_code k ++ (10 ∷ []))))

-- a line for each run, in time order, each after the label; the numbers count on from this one
abbrev pub run_lines : (ℕ → List ℕ) → Key → List ℕ → ℕ → List Run → List ℕ
run_lines spell k label number [] = []
run_lines spell k label number (r ∷ rs) = label
    ++ (run_front spell (duration_of k.duration) number r (slice_get rs 0)
    ++ (line_end k ++ run_lines spell k label (number + 1) rs))

-- those of a file alone
abbrev pub each_line : (ℕ → List ℕ) → Key → List Run → List ℕ
each_line spell k runs = run_lines spell k [] 1 runs

-- ---- why something is not done

-- `FILE refused T`: why a file is not read
abbrev pub file_refused_line : List ℕ → FragmentFault → List ℕ
file_refused_line name fault = name ++ (codes " refused " ++ fault_text
    (fragment_fault_number fault) (fragment_fault_name fault)
    (fragment_details fault ++ (10 ∷ [])))

abbrev pub file_refused_status : FragmentFault → Status
file_refused_status fault = status_of_number (fragment_fault_number fault)

-- what is numbered is a run
abbrev pub undated_line : ℕ → List ℕ
undated_line number = codes "run " ++ (decimal number
    ++ codes " starts after 2084, which a file without a date can't tell\n")

abbrev pub crowded_line : ℕ → List ℕ
crowded_line number = codes "run " ++ (decimal number
    ++ codes " would have too many annotations in a data record\n")

abbrev pub unread_line : List ℕ → List ℕ
unread_line name = refused_line name (fragment_fault_number fragment.Read)
    (fragment_fault_name fragment.Read)

abbrev pub changed_line : List ℕ → List ℕ
changed_line name = name ++ codes " changed between its readings\n"

-- of an output: its name is that of a file, or this one
abbrev pub unwritten_line : List ℕ → List ℕ
unwritten_line output = refused_line output 43 (codes "Write")

abbrev pub standard_output : List ℕ
standard_output = codes "standard output"

-- why the second reading of a file stopped
abbrev pub reread_line : List ℕ → WriteFault → List ℕ
reread_line name run.Changed = changed_line name
reread_line name run.Memory = memory_line name
reread_line name why = unread_line name

-- why a canonical file is not written to standard output
abbrev pub canonical_refused_line : List ℕ → WriteFault → List ℕ
canonical_refused_line name run.Write = unwritten_line standard_output
canonical_refused_line name why = reread_line name why

-- `FILE outside=N`: of how many annotations no data record has the onset
abbrev pub outside_line : List ℕ → ℕ → List ℕ
outside_line name count = name ++ (codes " outside=" ++ (decimal count ++ (10 ∷ [])))
