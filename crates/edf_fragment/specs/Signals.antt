-- A data record as the standard describes it: the samples of each signal in turn.
use Rattle.std.specs.Prelude.{ℕ, ◌*◌, not, List, [], ◌∷◌, take, drop, map, filter}
use Rattle.std.specs.List.{flat_map}
use Rattle.edf_header.specs.Signal.{has_label, samples}

-- each signal with its bytes, two for each of its samples
abbrev pub split_by_signal : List (List ℕ) → List ℕ → List (List ℕ × List ℕ)
split_by_signal [] bytes = []
split_by_signal (row ∷ rows) bytes = (row, take (2 * samples row) bytes) ∷ split_by_signal rows
    (drop (2 * samples row) bytes)

-- the bytes of each annotations signal
abbrev pub blocks_by_signal : List (List ℕ) → List ℕ → List (List ℕ)
blocks_by_signal signals bytes =
    map (λ p. p.1) (filter (λ p. has_label p.0) (split_by_signal signals bytes))

-- the bytes of the ordinary signals, joined
abbrev pub ordinary_bytes_by_signal : List (List ℕ) → List ℕ → List ℕ
ordinary_bytes_by_signal signals bytes =
    flat_map (λ p. p.1) (filter (λ p. not (has_label p.0)) (split_by_signal signals bytes))
