-- A file has a format by its first bytes.
use Rattle.std.specs.Prelude.{◌≡◌, ◌≢◌, ℕ, List, [], ◌∷◌, ◌++◌, take, codes}
use Rattle.edf_header.specs.declared.format.Format.{Format}
use Rattle.edf_header.specs.declared.format.Format.TheVariants.{Edf, Bdf, Zip, Sqlite, Other}

abbrev pub edf_mark : List ℕ
edf_mark = codes "0       "

abbrev pub bdf_mark : List ℕ
bdf_mark = 255 ∷ codes "BIOSEMI"

abbrev pub zip_mark : List ℕ
zip_mark = codes "PK" ++ (3 ∷ 4 ∷ [])

abbrev pub sqlite_mark : List ℕ
sqlite_mark = codes "SQLite format 3"

abbrev pub IsFormat : List ℕ → Format → Type 0
IsFormat bytes Edf = take 8 bytes ≡ edf_mark
IsFormat bytes Bdf = take 8 bytes ≡ bdf_mark
IsFormat bytes Zip = take 4 bytes ≡ zip_mark
IsFormat bytes Sqlite = take 15 bytes ≡ sqlite_mark
IsFormat bytes Other = (take 8 bytes ≢ edf_mark) × (take 8 bytes ≢ bdf_mark)
    × (take 4 bytes ≢ zip_mark) × (take 15 bytes ≢ sqlite_mark)
