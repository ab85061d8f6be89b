-- The bytes that writers get, and what an answer says of them.
use Rattle.std.specs.Prelude.{◌≡◌, ◌⊎◌, ℕ, ◌<◌, Bool, List, [], Option}
use Rattle.std.specs.Bool.{MatchBool}
use Rattle.std.specs.Io.KnownBytes.{Appends}
use Rattle.edf_fragment.specs.Failures.{saturating_increment}
use Rattle.edf_fragment.specs.declared.streams.Output.{Ghosts}
use Rattle.edf_canonical.specs.Output.{WritesPrefix}
use Rattle.edf_cli.specs.declared.status.Status.{Status}
use Rattle.edf_cli.specs.declared.status.Status.TheVariants.{Trouble}

-- a writer's bytes before and after, where known, and how many of its writes failed or took none
pub record OutputChange : Type 0 where
  pub before : Option (List ℕ)
  pub failed_before : ℕ
  pub after : Option (List ℕ)
  pub failed_after : ℕ

abbrev pub output_change : {W : Type 0} → Ghosts W → W → W → OutputChange
output_change g old new = record {
  before = g.contents old;
  failed_before = g.failures old;
  after = g.contents new;
  failed_after = g.failures new;
}

-- it got just these bytes, and no write failed
abbrev pub Gets : OutputChange → List ℕ → Type 0
Gets w bytes = Appends w.before w.after bytes × (w.failed_after ≡ w.failed_before)

-- it got a prefix of them, and then a write failed or took nothing
abbrev pub GetsPrefix : OutputChange → List ℕ → Type 0
GetsPrefix w bytes = WritesPrefix w.before w.after bytes
    × (w.failed_after ≡ saturating_increment w.failed_before)

-- memory for the text of a line was refused: of `count` lines, of which the first n are `lines n`,
-- those before it were written
pub record RunsOutOfMemoryForLine (w : OutputChange) (lines : ℕ → List ℕ) (count : ℕ) : Type 0 where
  pub written : ℕ
  pub fewer : written < count
  pub wrote : Gets w (lines written)

-- ---- what is answered by `true`, and by `false`

-- the bytes were written; or a write failed
abbrev pub IsPut : OutputChange → List ℕ → Bool → Type 0
IsPut w bytes written = MatchBool written (Gets w bytes) (GetsPrefix w bytes)

-- a line was written; or a write failed, or memory for its text was refused
abbrev pub IsLineWritten : OutputChange → List ℕ → Bool → Type 0
IsLineWritten w text written = MatchBool written (Gets w text) (GetsPrefix w text ⊎ Gets w [])

-- `count` lines were written; or a write failed, or memory for the text of one was refused
abbrev pub AreLinesWritten : OutputChange → (ℕ → List ℕ) → ℕ → Bool → Type 0
AreLinesWritten w lines count written =
    MatchBool written (Gets w (lines count)) (GetsPrefix w (lines count)
    ⊎ RunsOutOfMemoryForLine w lines count)

-- ---- what is answered by a status: the intended one, or trouble

abbrev pub IsWritten : OutputChange → List ℕ → Status → Status → Type 0
IsWritten w bytes intended status = (Gets w bytes × (status ≡ intended))
    ⊎ (GetsPrefix w bytes × (status ≡ Trouble))

-- a line was written; or a write failed, or memory for its text was refused
abbrev pub IsLinePrinted : OutputChange → List ℕ → Status → Status → Type 0
IsLinePrinted w text intended status = IsWritten w text intended status
    ⊎ (Gets w [] × (status ≡ Trouble))

abbrev pub AreLinesPrinted : OutputChange → (ℕ → List ℕ) → ℕ → Status → Status → Type 0
AreLinesPrinted w lines count intended status = IsWritten w (lines count) intended status
    ⊎ (RunsOutOfMemoryForLine w lines count × (status ≡ Trouble))

-- nothing was written to `out`, and a line to `err`
abbrev pub Explains : OutputChange → OutputChange → List ℕ → Status → Status → Type 0
Explains out err text intended status = Gets out [] × IsWritten err text intended status
