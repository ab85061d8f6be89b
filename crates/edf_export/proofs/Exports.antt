-- What an export answers, from what was written.
use Rattle.std.proofs.Common.{ℕ, List, [], ◌∷◌, refl}
use Rattle.std.specs.Prelude.{Option, None, Some}
use Rattle.std.specs.Io.KnownBytes.{Keeps}
use Rattle.std.proofs.KnownBytes.{Appends-nil}
use Rattle.edf_header.specs.Key.{Key}
use Rattle.edf_fragment.specs.Fragment.{DataRecord}
use Rattle.edf_export.specs.Export.{WritesPrefixIfFile}

pub keeps_same : (known : Option (List ℕ)) → Keeps known known
keeps_same None = tt
keeps_same (Some xs) = refl

-- nothing went out
pub none_out : (known : Option (List ℕ)) (k : Key) (records : List DataRecord) →
    WritesPrefixIfFile known known k records
none_out known k [] = keeps_same known
none_out known k (r ∷ rs) = λ file is. record {
  prefix = [];
  remaining = file;
  parts = refl;
  wrote =
      Appends-nil known;
}
