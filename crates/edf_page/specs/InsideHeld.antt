-- What a store in memory gives of files that it took.
use Rattle.std.specs.Prelude.{ℕ, List, map}
use Rattle.std.specs.List.{AllZip}
use Rattle.edf_header.specs.Key.{Key}
use Rattle.edf_fragment.specs.Parsed.{Parsed, ParsesTo}
use Rattle.edf_holdings.specs.Holdings.{Holdings}
use Rattle.edf_export.specs.Headline.{IsOnlyCanonicalFile}
use Rattle.edf_page.specs.Night.{AreTaken, held_after, IsRecording}
use Rattle.edf_page.specs.Inside.{ListsHeld, ExportsHeld}
use Rattle.edf_page.specs.declared.night.Held.{Held}
use Rattle.edf_page.specs.declared.night.Recording.{Recording}

-- of files of these names, which have these bytes: the lines, and the recordings' files
pub record IsHeldOf (names files : List (List ℕ)) (held : Held) : Type 0 where
  pub submissions : List Parsed
  pub parsed : AllZip ParsesTo files submissions
  pub taken : AreTaken names submissions (map (λ line. line.items) held.taken.items)
  pub listed : ListsHeld (held_after submissions) held.listed.items
  pub exported : ExportsHeld (held_after submissions) (map (λ file. file.items) held.files.items)

-- where this is the one file of what is held under a key, that is its recording
abbrev pub IsOfFile : List ℕ → Recording → Type 0
IsOfFile file r = (h : Holdings) (k : Key) → IsOnlyCanonicalFile file k (h k) → IsRecording h k r
