-- What `picture` does: a picture of the whole file goes out, or a front of one, or nothing. Its
-- title
-- has the codes of the file's recording, and the line below that its times. Nothing here says that
-- it shows the file's gaps, annotations and samples.
use Rattle.std.specs.Prelude.{◌≡◌, ◌≢◌, ◌⊎◌, ℕ, Bool, List, [], Option, Some, None, IfSome, map}
use Rattle.std.specs.Prelude.{string_bytes, if◌then◌else◌}
use Rattle.std.specs.List.{AllZip}
use Rattle.edf_field.specs.Number.{duration_of}
use Rattle.edf_fragment.specs.Fragment.{DataRecord}
use Rattle.edf_fragment.specs.Whole.{ReadsFragment}
use Rattle.edf_header.specs.Header.{Layout}
use Rattle.edf_header.specs.Key.{Key, patient_code, investigation_code}
use Rattle.edf_picture.specs.Picture.{IsPicture, Named}
use Rattle.edf_cli.specs.Output.{OutputChange, Explains, Gets, GetsPrefix, IsWritten}
use Rattle.edf_cli.specs.declared.status.Status.{Status}
use Rattle.edf_cli.specs.declared.status.Status.TheVariants.{Done, Trouble}
use Rattle.edf_runs.specs.ByOnset.{annotations_of}
use Rattle.edf_runs.specs.declared.fault.WriteFault.{WriteFault}
use Rattle.edf_runs.specs.declared.fault.WriteFault.TheVariants.{Undated, Changed, Read, Memory}
use Rattle.edf_runs.specs.declared.fault.WriteFault.TheVariants.{Write}
use Rattle.edf_runs.specs.declared.run.Run.{Run}
use Rattle.edf_runs.specs.declared.run_list.Listing.{Listing}
use Rattle.edf_picture.specs.declared.extent.Extent.{Extent}
use Rattle.edf_picture.specs.declared.extent.Note.{Note}
use Rattle.edf_tal.specs.Tal.{Annotation}
use Rattle.edfruns_command.specs.Lines.{end_of, reread_line, unwritten_line, standard_output}
use Rattle.edfruns_command.specs.Listing.{HasRuns, RefusesFile, LacksMemory}

-- a note has what an annotation has
pub record IsNoted (a : Annotation) (n : Note) : Type 0 where
  pub onset : n.onset ≡ a.onset
  pub duration : n.duration ≡ a.duration
  pub text : string_bytes n.text ≡ a.text

-- one note for each annotation, in their order
abbrev pub AreNoted : List Annotation → List Note → Type 0
AreNoted annotations notes = AllZip IsNoted annotations notes

-- the time of a run whose data records last so many nanoseconds
abbrev pub run_time : ℕ → Run → Extent
run_time duration run = record { from = run.first; to = end_of duration run }

-- the codes of a recording, or that of the investigation alone
abbrev pub named_of : Key → Bool → Named
named_of key has_code = record {
  patient = if has_code then Some (patient_code key) else None;
  investigation = investigation_code key;
}

-- a picture of this recording, with the patient code or without it, that has these runs
abbrev pub IsPictureOf : Key → Bool → List Run → List ℕ → Type 0
IsPictureOf key has_code runs picture = IsPicture (named_of key has_code)
    (map (run_time (duration_of key.duration)) runs) picture

-- the whole input was read, and these are the annotations of what it spells, in their order
pub record ReadsNotes (input rest : Option (List ℕ)) (notes : List Note) : Type 0 where
  pub layout : Layout
  pub records : List DataRecord
  pub read : ReadsFragment input rest layout records
  pub noted : AreNoted (annotations_of records) notes

-- the faults of a reading
abbrev pub IsOfReading : WriteFault → Type 0
IsOfReading Undated = ⊥
IsOfReading Changed = Unit {0}
IsOfReading Read = Unit {0}
IsOfReading Memory = Unit {0}
IsOfReading Write = ⊥

-- the second reading stopped: a read failed, memory ran out, or the file changed; known bytes of
-- which
-- the first had these runs do not change
pub record StopsAgain (bytes : Option (List ℕ)) (listing : Listing) (why : WriteFault) : Type 0
  where
    pub of_reading : IsOfReading why
    pub unchanged : HasRuns bytes listing → IfSome bytes (λ _. why ≢ Changed)

module _ (out err : OutputChange) where
  -- it went out whole; or a front of it did, and this line says that a write failed
  abbrev pub SendsPicture : List ℕ → List ℕ → Status → Type 0
  SendsPicture picture unwritten status = (Gets out picture × Gets err [] × (status ≡ Done))
      ⊎ (GetsPrefix out picture × IsWritten err unwritten Trouble status)

module _ (out err : OutputChange) (bytes : Option (List ℕ)) (name : List ℕ) (has_code : Bool)
    (status : Status) where
  -- the file was read to its end, and a picture was sent
  pub record SendsOne : Type 0 where
    pub listing : Listing
    pub has : HasRuns bytes listing
    pub picture : List ℕ
    pub is_picture : IsPictureOf listing.identity has_code listing.runs.items picture
    pub sent : SendsPicture out err picture (unwritten_line standard_output) status

  -- the file was read to its end, but not again: a read failed, memory ran out, or it changed
  pub record FailsAgain : Type 0 where
    pub listing : Listing
    pub has : HasRuns bytes listing
    pub why : WriteFault
    pub stops : StopsAgain bytes listing why
    pub said : Explains out err (reread_line name why) Trouble status

  abbrev pub IsPictured : Type 0
  IsPictured = SendsOne ⊎ (FailsAgain
      ⊎ (RefusesFile out err bytes name status ⊎ LacksMemory out err bytes name status))
