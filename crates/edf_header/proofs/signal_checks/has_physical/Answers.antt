use Rattle.edf_header.proofs.signal_checks.has_physical.Goals as goal

pub returns : goal.returns
returns c = (
  λ told. let p = c.physical_values_differ.ensures.0 told in
      record { minimum = p.0; maximum = p.1; differ = p.2 },
  λ h. c.physical_values_differ.ensures.1 (h.minimum, h.maximum, h.differ),
)
