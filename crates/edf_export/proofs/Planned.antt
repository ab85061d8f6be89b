-- What is written as planned is the recording's canonical file.
use Rattle.std.proofs.Common.{◌≡◌, ◌∙◌, ℕ, ◌+◌, ◌*◌, List, [], ◌∷◌, length, subst, Option}
use Rattle.std.specs.Io.KnownBytes.{Appends}
use Rattle.edf_header.specs.Key.{Key}
use Rattle.edf_header.specs.Signal.{samples_in_all}
use Rattle.edf_header.specs.Canonical.{IsCanonicalHeader}
use Rattle.edf_fragment.specs.Fragment.{DataRecord}
use Rattle.edf_canonical.specs.File.{IsCanonicalFile}
use Rattle.edf_canonical.specs.Measure.{planned_text}
use Rattle.edf_canonical.specs.Output.{WritesPrefix}
use Rattle.edf_canonical.specs.declared.measure.Measure.{Measure}
use Rattle.edf_canonical.proofs.Files.{one-file}
use Rattle.edf_canonical.proofs.MeasuredFiles.{file_of, length_of}
use Rattle.edf_export.specs.Export.{IsExported, WritesPrefixIfFile, IsNotExported}
use Rattle.edf_export.specs.Inside.Walks.{IsPlanOf, IsWritingFault}
use Rattle.edf_export.specs.declared.fault.ExportFault.{ExportFault}
use Rattle.edf_export.specs.declared.fault.ExportFault.TheVariants.{NoRecording, Store, Memory}
use Rattle.edf_export.specs.declared.fault.ExportFault.TheVariants.{Write}
use Rattle.edf_export.proofs.Walks.{may_start}

pub planned_file : (k : Key) (records : List DataRecord) (plan : Measure) (header : List ℕ) →
    IsPlanOf k records plan
    → IsCanonicalHeader header k plan.first plan.records plan.block_samples →
    IsCanonicalFile (planned_text header plan records) k records
planned_file k records plan header p is = file_of k records plan header p.recording.key
    p.recording.sound p.measured (may_start k records plan p.measured p.recording.begins) is

pub exported : (before after : Option (List ℕ)) (k : Key) (records : List DataRecord)
    (plan : Measure) (header : List ℕ) (len : ℕ) → IsPlanOf k records plan
    → IsCanonicalHeader header k plan.first plan.records plan.block_samples →
    Appends before after (planned_text header plan records)
    → len ≡ length header + plan.records
    * (2 * samples_in_all k.signals + 2 * plan.block_samples) →
    IsExported before after k records len
exported before after k records plan header len p is wrote len-is =
    let file = planned_text header plan records in
    let c = planned_file k records plan header p is in
    record {
      file = file;
      canonical = c;
      only = λ other o. one-file other file k records o c;
      wrote = wrote;
      len_is = len-is ∙ length_of k records plan header p.recording.sound p.measured;
    }

-- a front of the file goes no further than each canonical file
stays_in : (before after : Option (List ℕ)) (k : Key) (records : List DataRecord) (file : List ℕ) →
    IsCanonicalFile file k records → WritesPrefix before after file
    → WritesPrefixIfFile before after k records
stays_in before after k [] file c w = absurd c
stays_in before after k (r ∷ rs) file c w =
    λ other o. subst (WritesPrefix before after) (one-file file other k (r ∷ rs) c o) w

pub stopped : (before after : Option (List ℕ)) (k : Key) (records : List DataRecord)
    (plan : Measure) (header : List ℕ) (fault : ExportFault) → IsPlanOf k records plan
    → IsCanonicalHeader header k plan.first plan.records plan.block_samples →
    WritesPrefix before after (planned_text header plan records) → IsWritingFault fault
    → IsNotExported before after k records fault
stopped before after k records plan header NoRecording p is w met = absurd met
stopped before after k records plan header (Store fault) p is w met = (
  stays_in before after k records (planned_text header plan records)
      (planned_file k records plan header p is) w,
  met,
)
stopped before after k records plan header Memory p is w met =
    stays_in before after k records (planned_text header plan records)
    (planned_file k records plan header p is) w
stopped before after k records plan header Write p is w met =
    record {
      file = planned_text header plan records;
      canonical =
          planned_file k records plan header p is;
      wrote = w;
    }
