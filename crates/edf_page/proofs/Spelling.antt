-- Each instant of the window has a text, so instants have a spelling.
use Rattle.std.proofs.Common.{ℕ, ◌<◌, List, []}
use native.Mathlib.Decide.{dec_lt}
use Rattle.edf_time.specs.Civil.{window, IsInstantText}
use Rattle.edf_time.proofs.SomeText.{instant-text}
use Rattle.edf_cli.specs.Text.{IsInstantFormat}

pub some_text : (instant : ℕ) → (text : List ℕ) × (instant < window → IsInstantText text instant)
some_text instant = elim (dec_lt instant window) [
  | yes lt ↦ let text = instant-text instant lt in (text.0, λ _. text.1)
  | no not ↦ ([], λ lt. absurd (not lt))
]

abbrev pub one_spelling : ℕ → List ℕ
one_spelling instant = (some_text instant).0

pub one_spelling-is : IsInstantFormat one_spelling
one_spelling-is instant lt = (some_text instant).1 lt
