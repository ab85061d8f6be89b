-- The end of the last run.
use Rattle.std.proofs.Common.{◌≡◌, List, [], ◌∷◌, length, get_or, refl}
use Rattle.edf_picture.specs.Picture.{last_end}
use Rattle.edf_picture.specs.declared.extent.Extent.{Extent}

pub last_end-is : (run : Extent) (runs : List Extent) (d : Extent) →
    (get_or (run ∷ runs) (length runs) d).to ≡ last_end run runs
last_end-is run [] d = refl
last_end-is run (next ∷ runs) d = last_end-is next runs d
