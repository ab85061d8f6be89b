-- The size of the page cache of an open store.
use Rattle.std.specs.Prelude.{◌≤◌, ◌*◌, ℕ}

-- so many pages take up 512 MiB at most, and a quarter of the free memory at most
abbrev pub IsCacheSize : ℕ → ℕ → Type 0
IsCacheSize pages memory = (pages ≤ 131072) × (pages * 16384 ≤ memory)
