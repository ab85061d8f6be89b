-- Writing bytes through a buffer: at each answer, the writer's bytes grew by a prefix of those that
-- were put.
use Rattle.std.specs.Prelude.{◌≡◌, ℕ, List, [], ◌++◌, Option, Result, MatchResult}
use Rattle.std.specs.Io.KnownBytes.{Appends}
use Rattle.edf_fragment.specs.Failures.{saturating_increment}
use Rattle.edf_fragment.specs.declared.streams.Output.{Ghosts}
use Rattle.edf_canonical.specs.declared.fault.OutputFault.{OutputFault}
use Rattle.edf_canonical.specs.declared.fault.OutputFault.TheVariants.{Write, Memory}

-- a writer with its buffer: its bytes, how many of its writes failed, and the bytes held back
pub record Buffered : Type 0 where
  pub contents : Option (List ℕ)
  pub failures : ℕ
  pub held : List ℕ

abbrev pub buffered : {W : Type 0} → Ghosts W → W → List ℕ → Buffered
buffered g out held = record { contents = g.contents out; failures = g.failures out; held = held }

-- of the held bytes and the bytes after them, a prefix was written, and `rest` was not
pub record Writes (before after : Buffered) (bytes rest : List ℕ) : Type 0 where
  pub prefix : List ℕ
  pub wrote : Appends before.contents after.contents prefix
  pub parts : before.held ++ bytes ≡ prefix ++ rest

-- one more write failed where a failed write is the fault, and none where memory ran out
abbrev pub CountsOutputFault : ℕ → ℕ → OutputFault → Type 0
CountsOutputFault old new Write = new ≡ saturating_increment old
CountsOutputFault old new Memory = new ≡ old

-- the bytes were put: written, or held back; or a prefix was written before the fault
abbrev pub IsWrittenOrBuffered : Buffered → Buffered → List ℕ → Result Unit OutputFault → Type 0
IsWrittenOrBuffered before after bytes result =
    MatchResult result
    (λ _. Writes before after bytes after.held × (after.failures ≡ before.failures))
    (λ fault. ((rest : List ℕ) × Writes before after bytes rest)
    × CountsOutputFault before.failures after.failures fault)

-- all that was held back is written; or a prefix of it
abbrev pub IsFlushed : Buffered → Buffered → Result Unit OutputFault → Type 0
IsFlushed before after result =
    MatchResult result
    (λ _. Writes before after [] [] × (after.held ≡ []) × (after.failures ≡ before.failures))
    (λ fault. ((rest : List ℕ) × Writes before after [] rest) × (fault ≡ Write)
    × (after.failures ≡ saturating_increment before.failures))

-- a prefix of some bytes was written
pub record WritesPrefix (before after : Option (List ℕ)) (bytes : List ℕ) : Type 0 where
  pub prefix : List ℕ
  pub remaining : List ℕ
  pub parts : bytes ≡ prefix ++ remaining
  pub wrote : Appends before after prefix
