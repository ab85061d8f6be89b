-- Bytes spell one header's signals at most, and then have no fault.
use Rattle.std.proofs.Common.{◌≡◌, ℕ, List, sym, ap, ◌∙◌, subst}
use Rattle.edf_header.specs.Signal.{signals_of}
use Rattle.edf_header.specs.Header.{AreSignals, HeaderRecord, IsHeader, key_of}
use Rattle.edf_header.specs.Fixed.{FixedPart}
use Rattle.edf_header.specs.Header.{layout_of, IsLayout}
use Rattle.edf_header.specs.Key.{IsKey}
use Rattle.edf_header.specs.Fault.{IsClean, SignalsFail}
use Rattle.edf_header.specs.Inside.Rows.{AreSoundRows}
use Rattle.edf_header.proofs.SignalKinds.{digital-pass, physical-pass}
use Rattle.edf_header.proofs.HeaderFaults.{clean-21, clean-signals}
use Rattle.edf_header.proofs.Headers.{header-key, header-layout}
use Rattle.edf_header.proofs.FixedLaws.{is-fixed}

pub one-signals : (b : List ℕ) (h g : HeaderRecord) → AreSignals b h → AreSignals b g →
    h.fixed ≡ g.fixed → h ≡ g
one-signals b h g s t e =
    let signals : h.signals ≡ g.signals = sym s.each
    ∙ ap (λ (f : FixedPart). signals_of b f.signal_count) e ∙ t.each in
    λ i. record { fixed = e i; signals = signals i }

sound : (b : List ℕ) (h : HeaderRecord) → AreSignals b h → AreSoundRows h.signals
sound b h s = record {
  annotations = record {
    annotations_some = s.annotations_some;
    annotations = s.are_annotations;
    ordinary_some = s.ordinary_some;
  };
  physical = physical-pass h.signals s.are_ordinary;
  digital = digital-pass h.signals s.are_ordinary;
  each_samples = s.each_samples;
  ordinary_size = s.ordinary_size;
  block_size = s.block_size;
}

pub signals-clean : (b : List ℕ) (h : HeaderRecord) → AreSignals b h →
    IsClean (SignalsFail b h.fixed.signal_count) 21
signals-clean b h s =
    clean-signals b h.fixed.signal_count 21 s.len s.printable
    (clean-21 (signals_of b h.fixed.signal_count)
    (subst AreSoundRows (sym s.each) (sound b h s)))

pub header-has-key : (b : List ℕ) (h : HeaderRecord) (rest : List ℕ) → IsHeader b h rest →
    IsKey (key_of h)
header-has-key b h rest i = header-key i.second h (is-fixed i.first h.fixed i.fixed) i.signals

pub header-has-layout : (b : List ℕ) (h : HeaderRecord) (rest : List ℕ) → IsHeader b h rest →
    IsLayout (layout_of h)
header-has-layout b h rest i = header-layout i.second h (is-fixed i.first h.fixed i.fixed) i.signals
