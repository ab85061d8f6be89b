-- The rows of signals, one after another.
use Rattle.std.proofs.Common.{◌≡◌, ℕ, ◌+◌, ◌-◌, ◌*◌, ◌/◌, ◌<◌, ◌≤◌, List, [], ◌∷◌, ◌++◌, length}
use Rattle.std.proofs.Common.{map, take, drop, get_or, sym, ap, ◌∙◌, arith}
use Rattle.std.proofs.lemmas.List.{take_more, take_all, map-append}
use Rattle.edf_header.specs.Signal.{rows_of, samples}
use Rattle.edf_header.proofs.RowSteps.{length-rows, row-is, range-field}

-- a row as it is sliced
pub sliced-row : (bytes row : List ℕ) (i : ℕ) → i < length bytes / 256 →
    row ≡ take (256 * i + 256 - 256 * i) (drop (256 * i) bytes) → row ≡ get_or (rows_of bytes) i []
sliced-row bytes row i lt is =
    is ∙ range-field bytes (256 * i) (256 * i + 256) 256 (omega arith)
    ∙ sym (row-is (length bytes / 256) bytes i lt)

pub within-rows : (bytes : List ℕ) (i : ℕ) → i < length bytes / 256 → i < length (rows_of bytes)
within-rows bytes i lt = omega (arith, lt, length-rows (length bytes / 256) bytes)

pub one-size : (bytes row sizes new : List ℕ) (i size : ℕ) → i < length bytes / 256 →
    row ≡ get_or (rows_of bytes) i [] → size ≡ samples row →
    sizes ≡ map samples (take i (rows_of bytes)) → new ≡ sizes ++ size ∷ [] →
    new ≡ map samples (take (i + 1) (rows_of bytes))
one-size bytes row sizes new i size lt is value was now =
    now
    ∙ ap (λ (x : List ℕ). x ++ size ∷ []) was
    ∙ ap (λ (n : ℕ). map samples (take i (rows_of bytes)) ++ n ∷ []) (value ∙ ap samples is)
    ∙ sym (map-append samples (take i (rows_of bytes)) (get_or (rows_of bytes) i [] ∷ []))
    ∙ ap (map samples) (sym (take_more (rows_of bytes) i [] (within-rows bytes i lt)))

pub all-sizes : (bytes sizes : List ℕ) (i : ℕ) (signals : List (List ℕ)) →
    rows_of bytes ≡ signals → length bytes / 256 ≤ i → sizes ≡ map samples (take i (rows_of bytes))
    →
    sizes ≡ map samples signals
all-sizes bytes sizes i signals are end is =
    is ∙ ap (map samples) (take_all i (rows_of bytes)
    (omega (arith, end, length-rows (length bytes / 256) bytes)) ∙ are)
