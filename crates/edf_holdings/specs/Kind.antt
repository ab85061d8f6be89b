-- A clash is of one of two kinds, by the starts of its data records.
use Rattle.std.specs.Prelude.{◌≡◌, ◌≢◌, ℕ}
use Rattle.edf_fragment.specs.Fragment.{DataRecord}
use Rattle.edf_holdings.specs.Clash.{Clash}
use Rattle.edf_holdings.specs.declared.kind.Clash.{Clash as ClashKind}
use Rattle.edf_holdings.specs.declared.kind.Clash.TheVariants.{Overlap, Differs}

-- the records clash, and their starts differ or are the same
abbrev pub IsClashOfKind : ℕ → DataRecord → DataRecord → ClashKind → Type 0
IsClashOfKind d r s Overlap = Clash d r s × (r.start ≢ s.start)
IsClashOfKind d r s Differs = Clash d r s × (r.start ≡ s.start)
