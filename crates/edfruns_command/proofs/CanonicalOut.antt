-- What `canonical` answers.
use Rattle.std.proofs.Common.{◌≡◌, ◌≢◌, ℕ, List, [], Bool, inl, inr, refl, subst, Option}
use Rattle.edf_header.specs.Key.{Key}
use Rattle.edf_fragment.specs.Fragment.{DataRecord}
use Rattle.edf_cli.proofs.Undone.{refused-undone, trouble-undone}
use Rattle.edf_cli.specs.Output.{OutputChange, Gets}
use Rattle.edf_cli.specs.Text.{memory_line}
use Rattle.edf_cli.specs.declared.status.Status.{Status}
use Rattle.edf_cli.specs.declared.status.Status.TheVariants.{Done}
use Rattle.edf_runs.specs.Canonical.{IsCanonicalWritten, IsCanonicalUnwritten}
use Rattle.edf_runs.specs.Outline.{ReadsOutline}
use Rattle.edf_runs.specs.declared.crowded_fault.CrowdedFault.{CrowdedFault}
use Rattle.edf_runs.specs.declared.crowded_fault.CrowdedFault.TheVariants as fault
use Rattle.edf_runs.specs.declared.fault.WriteFault.{WriteFault}
use Rattle.edf_runs.specs.declared.outline.Outline.{Outline}
use Rattle.edfruns_command.specs.Canonical.{HasRecords, IsCanonicalOut, CountsWrite}
use Rattle.edfruns_command.specs.Canonical.{WritesFile, StopsAgain}
use Rattle.edfruns_command.specs.Inside.{IsCrowdedSaid, IsTooCrowded}
use Rattle.edfruns_command.specs.Lines.{crowded_line}

pub has-records : (bytes rest : Option (List ℕ)) (outline : Outline) →
    (one : ReadsOutline bytes rest outline) → HasRecords bytes one.layout.key one.records
has-records bytes rest outline one =
    record { rest = rest; layout = one.layout; same = refl; read = one.read }

module _ (out : OutputChange) (bytes left : Option (List ℕ)) (same : left ≡ bytes) (k : Key)
    (ones : List DataRecord) where
  pub wrote-file : (rest : Option (List ℕ)) (len : ℕ) →
      IsCanonicalWritten left rest out.before out.after k ones len →
      out.failed_after ≡ out.failed_before → WritesFile out bytes k ones
  wrote-file rest len written counted = record {
    rest = rest;
    len = len;
    written = subst (λ (b : Option (List ℕ)). IsCanonicalWritten b rest out.before out.after k ones
        len) same written;
    counted = counted;
  }

  pub stops-file : (why : WriteFault) →
      IsCanonicalUnwritten left out.before out.after k ones why → CountsWrite out why →
      StopsAgain out bytes k ones why
  stops-file why unwritten counted = inl (record {
    unwritten = subst (λ (b : Option (List ℕ)). IsCanonicalUnwritten b out.before out.after k ones
        why) same unwritten;
    counted = counted;
  })

pub crowded-undone : (err : OutputChange) (name : List ℕ) (why : CrowdedFault) (status : Status) →
    IsCrowdedSaid err name why status → status ≢ Done
crowded-undone err name (fault.Crowded number) status said done =
    refused-undone err (crowded_line number) status said done
crowded-undone err name fault.Memory status said done =
    trouble-undone err (memory_line name) status said done

pub too-crowded : (out err : OutputChange) (bytes : Option (List ℕ)) (name : List ℕ)
    (by_onset : Bool) (status : Status) (k : Key) (records : List DataRecord) →
    HasRecords bytes k records → Gets out [] → (why : CrowdedFault) →
    IsTooCrowded by_onset k records why → IsCrowdedSaid err name why status →
    IsCanonicalOut out err bytes name by_onset status
too-crowded out err bytes name by_onset status k records has nothing (fault.Crowded number) crowded
    said =
    inr (inr (inl (record {
      key = k;
      records = records;
      has = has;
      number = number;
      crowded = crowded;
      said = (nothing, said);
    })))
too-crowded out err bytes name by_onset status k records has nothing fault.Memory crowded said =
    inr (inr (inr (inr (nothing, said))))
