-- A data record's blocks and ordinary bytes are those of its signals in turn.
use Rattle.std.proofs.Common.{◌≡◌, ℕ, ◌+◌, ◌-◌, ◌*◌, ◌≤◌, List, [], ◌∷◌, ◌++◌, length, map, take}
use Rattle.std.proofs.Common.{drop, cond, not, true, false, arith, refl, sym, ap, ◌∙◌, append-nil}
use Rattle.std.proofs.Common.{append_assoc, length-drop}
use Rattle.std.proofs.lemmas.List.{drop-drop, take_all}
use Rattle.std.proofs.lemmas.List.Sums.{sum_by-cons}
use Rattle.std.proofs.Math.Seq.{take-add}
use Rattle.std.specs.Prelude.{filter}
use Rattle.std.specs.List.{flat_map}
use Rattle.edf_field.specs.Number.{field}
use Rattle.edf_header.specs.Signal.{has_label, samples, samples_in_all}
use Rattle.edf_header.specs.Header.{HeaderRecord, layout_of, blocks_from}
use Rattle.edf_header.specs.declared.header.Block.{Block}
use Rattle.edf_fragment.specs.Fragment.{blocks, bytes_outside, ordinary_bytes}
use Rattle.edf_fragment.specs.Signals.{split_by_signal, blocks_by_signal, ordinary_bytes_by_signal}

blocks-from : (at : ℕ) (rows : List (List ℕ)) (bytes : List ℕ) →
    map (λ (b : Block). field bytes b.at b.bytes) (blocks_from at rows) ≡ blocks_by_signal rows
    (drop at bytes)
blocks-from at [] bytes = refl
blocks-from at (row ∷ rows) bytes =
    let size : ℕ = 2 * samples row in
    let next : ℕ = at + size in
    let after : drop next bytes ≡ drop size (drop at bytes) = sym (drop-drop size at bytes) in
    let more : map (λ (b : Block). field bytes b.at b.bytes)
    (blocks_from next rows) ≡ blocks_by_signal rows (drop size (drop at bytes)) =
    blocks-from next rows bytes ∙ ap (blocks_by_signal rows) after in
    let rest = filter (λ (p : List ℕ × List ℕ). has_label p.0)
    (split_by_signal rows (drop size (drop at bytes))) in
    elim (has_label row) as (λ b. map (λ (b : Block). field bytes b.at b.bytes)
    (cond b (record { at = at; bytes = size } ∷ blocks_from next rows) (blocks_from next rows))
    ≡ map (λ (p : List ℕ × List ℕ). p.1) (cond b ((row, take size (drop at bytes)) ∷ rest) rest)) [
      | true ↦ ap (λ (l : List (List ℕ)). take size (drop at bytes) ∷ l) more
      | false ↦ more
    ]

outside-of : (from at : ℕ) (rows : List (List ℕ)) (bytes : List ℕ) → from ≤ at →
    at + 2 * samples_in_all rows ≡ length bytes → bytes_outside from (blocks_from at rows) bytes ≡
    field bytes from (at - from) ++ ordinary_bytes_by_signal rows (drop at bytes)
outside-of from at [] bytes le all =
    let short : length (drop from bytes) ≤ at - from = omega (arith, all, length-drop from bytes) in
    sym (take_all (at - from) (drop from bytes) short)
    ∙ sym (append-nil (take (at - from) (drop from bytes)))
outside-of from at (row ∷ rows) bytes le all =
    let size : ℕ = 2 * samples row in
    let next : ℕ = at + size in
    let end : next + 2 * samples_in_all rows ≡ length bytes =
    omega (arith, all, sum_by-cons samples row rows) in
    let after : drop next bytes ≡ drop size (drop at bytes) = sym (drop-drop size at bytes) in
    let rest = filter (λ (p : List ℕ × List ℕ). not (has_label p.0))
    (split_by_signal rows (drop size (drop at bytes))) in
    let others : List ℕ = flat_map (λ (p : List ℕ × List ℕ). p.1) rest in
    let later : ordinary_bytes_by_signal rows (drop next bytes) ≡ others =
    ap (ordinary_bytes_by_signal rows) after in
    let none : next - next ≡ 0 = omega arith in
    let closed : bytes_outside next (blocks_from next rows) bytes ≡ others =
    outside-of next next rows bytes (omega arith) end ∙ ap (λ (n : ℕ). field bytes next n ++
    ordinary_bytes_by_signal rows (drop next bytes)) none ∙ later in
    let sum : next - from ≡ (at - from) + size = omega arith in
    let place : from + (at - from) ≡ at = omega arith in
    let here : drop (at - from) (drop from bytes) ≡ drop at bytes = drop-drop (at - from) from bytes
    ∙ ap (λ (n : ℕ). drop n bytes) place in
    let both : field bytes from (next - from) ≡ field bytes from (at - from)
    ++ take size (drop at bytes) =
    ap (λ (n : ℕ). field bytes from n) sum ∙ take-add (at - from) size (drop from bytes)
    ∙ ap (λ (l : List ℕ). field bytes from (at - from) ++ take size l) here in
    let apart : bytes_outside from (blocks_from next rows) bytes ≡ field bytes from (at - from)
    ++ (take size (drop at bytes) ++ others) =
    outside-of from next rows bytes (omega arith) end
    ∙ ap (λ (l : List ℕ). l ++ ordinary_bytes_by_signal rows (drop next bytes)) both
    ∙ ap (λ (l : List ℕ). (field bytes from (at - from) ++ take size (drop at bytes)) ++ l) later
    ∙ append_assoc (field bytes from (at - from)) (take size (drop at bytes)) others in
    elim (has_label row) as (λ b. bytes_outside from
    (cond b (record { at = at; bytes = size } ∷ blocks_from next rows) (blocks_from next rows))
    bytes ≡ field bytes from (at - from) ++ flat_map (λ (p : List ℕ × List ℕ). p.1)
    (cond (not b) ((row, take size (drop at bytes)) ∷ rest) rest)) [
      | true ↦ ap (λ (l : List ℕ). field bytes from (at - from) ++ l) closed
      | false ↦ apart
    ]

pub blocks-in-turn : (h : HeaderRecord) (bytes : List ℕ) →
    blocks (layout_of h) bytes ≡ blocks_by_signal h.signals bytes
blocks-in-turn h bytes = blocks-from 0 h.signals bytes

pub ordinary-in-turn : (h : HeaderRecord) (bytes : List ℕ) →
    length bytes ≡ (layout_of h).record_bytes
    → ordinary_bytes (layout_of h) bytes ≡ ordinary_bytes_by_signal h.signals bytes
ordinary-in-turn h bytes len = outside-of 0 0 h.signals bytes (omega arith) (omega (arith, len))
