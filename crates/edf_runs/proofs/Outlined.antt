-- An outline of a file that was read.
use Rattle.std.proofs.Common.{◌≡◌, ℕ, List, Option}
use Rattle.edf_header.specs.Header.{Layout}
use Rattle.edf_fragment.specs.Fragment.{DataRecord}
use Rattle.edf_fragment.specs.Reading.{ReadsHeader}
use Rattle.edf_fragment.specs.Inside.Steps.{ReadsRecords}
use Rattle.edf_fragment.proofs.Fragments.{fragment_read}
use Rattle.edf_fragment.proofs.Sound.{spelled-sound, spelled-some, spelled-few, spelled-begins}
use Rattle.edf_runs.specs.Outline.{AreSpans, ReadsOutline}
use Rattle.edf_runs.specs.declared.outline.Outline.{Outline}

pub outlined : (left mid rest : Option (List ℕ)) (l : Layout) (records : List DataRecord)
    (outline : Outline) → ReadsHeader left mid l → ReadsRecords l mid rest records →
    outline.identity ≡ l.key → AreSpans records outline.spans → ReadsOutline left rest outline
outlined left mid rest l records outline header follow identity spans =
    let read = fragment_read left mid rest l records header follow in
    record {
      layout = l;
      records = records;
      read = read;
      is_outline = record {
        sound = spelled-sound read.bytes l.key records read.is_file;
        some = spelled-some read.bytes l.key records read.is_file;
        few = spelled-few read.bytes l.key records read.is_file;
        begins = spelled-begins read.bytes l.key records read.is_file;
        identity = identity;
        spans = spans;
      };
    }
