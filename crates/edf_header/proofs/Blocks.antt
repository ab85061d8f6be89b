-- The annotations blocks that signals have in a data record.
use Rattle.std.proofs.Common.{◌≡◌, ℕ, suc, ◌+◌, ◌*◌, ◌≤◌, ◌<◌, List, [], ◌∷◌, ◌++◌, length, get_or}
use Rattle.std.proofs.Common.{take, cond, Bool, true, false, arith, refl, sym, ap, ◌∙◌, subst}
use Rattle.std.proofs.lemmas.List.{take_more, append-nil}
use Rattle.std.proofs.lemmas.List.Elements.{All-nil, All-cons, All-head, All-tail}
use Rattle.std.proofs.lemmas.List.Sums.{sum_by-cons, sum_by_push}
use Rattle.std.specs.Prelude.{All, sum_by}
use Rattle.edf_header.specs.Signal.{HasSamples, IsLabelled, Passes, has_label, labelled, samples}
use Rattle.edf_header.specs.Signal.{samples_in_all}
use Rattle.edf_header.specs.Header.{AreApart, blocks_from}
use Rattle.edf_header.specs.declared.header.Block.{Block}
use Rattle.edf_header.specs.declared.signal_checks.Check.TheVariants.{Label}
use Rattle.edf_header.proofs.SignalKinds.{has-label, no-label}

abbrev pub block_of : ℕ → List ℕ → Block
block_of at row = record { at = at; bytes = 2 * samples row }

pub length-blocks : (at : ℕ) (ss : List (List ℕ)) →
    length (blocks_from at ss) ≡ length (labelled ss)
length-blocks at [] = refl
length-blocks at (s ∷ ss) =
    let next : ℕ = at + 2 * samples s in
    elim (has_label s) as (λ b.
    length (cond b (block_of at s ∷ blocks_from next ss) (blocks_from next ss)) ≡ length
    (cond b (s ∷ labelled ss) (labelled ss))) [
      | true ↦ ap suc (length-blocks next ss)
      | false ↦ length-blocks next ss
    ]

pub blocks-bytes : (at : ℕ) (ss : List (List ℕ)) →
    sum_by (λ b. b.bytes) (blocks_from at ss) ≡ 2 * samples_in_all (labelled ss)
blocks-bytes at [] = refl
blocks-bytes at (s ∷ ss) =
    let next : ℕ = at + 2 * samples s in
    let more = blocks-bytes next ss in
    elim (has_label s) as (λ b. sum_by (λ b. b.bytes)
    (cond b (block_of at s ∷ blocks_from next ss) (blocks_from next ss)) ≡ 2 * samples_in_all
    (cond b (s ∷ labelled ss) (labelled ss))) [
      | true ↦ omega (
        arith,
        more,
        sum_by-cons samples s (labelled ss),
        sum_by-cons (λ (b : Block). b.bytes) (block_of at s) (blocks_from next ss),
      )
      | false ↦ more
    ]

pub each-block : (at : ℕ) (ss : List (List ℕ)) → All HasSamples ss →
    All (λ b. 2 ≤ b.bytes) (blocks_from at ss)
each-block at [] each = All-nil (λ (b : Block). 2 ≤ b.bytes)
each-block at (s ∷ ss) each =
    let next : ℕ = at + 2 * samples s in
    let more = each-block next ss (All-tail HasSamples s ss each) in
    elim (has_label s) as (λ b. All (λ (b : Block). 2 ≤ b.bytes)
    (cond b (block_of at s ∷ blocks_from next ss) (blocks_from next ss))) [
      | true ↦ All-cons (λ (b : Block). 2 ≤ b.bytes) (block_of at s) (blocks_from next ss)
          (omega (arith, (All-head HasSamples s ss each).some)) more
      | false ↦ more
    ]

pub blocks-apart : (from at : ℕ) (ss : List (List ℕ)) → from ≤ at →
    AreApart from (blocks_from at ss) (at + 2 * samples_in_all ss)
blocks-apart from at [] le = omega arith
blocks-apart from at (s ∷ ss) le =
    let next : ℕ = at + 2 * samples s in
    let end : next + 2 * samples_in_all ss ≡ at + 2 * samples_in_all (s ∷ ss) =
    omega (arith, sum_by-cons samples s ss) in
    elim (has_label s) as (λ b. AreApart from
    (cond b (block_of at s ∷ blocks_from next ss) (blocks_from next ss))
    (at + 2 * samples_in_all (s ∷ ss))) [
      | true ↦ (
        le,
        subst (AreApart next (blocks_from next ss)) end
            (blocks-apart next next ss (omega arith)),
      )
      | false ↦ subst (AreApart from (blocks_from next ss)) end
          (blocks-apart from next ss (omega arith))
    ]

-- one signal more at the end
abbrev last_block : ℕ → List ℕ → List Block
last_block at row = cond (has_label row) (block_of at row ∷ []) []

pub blocks-push : (at : ℕ) (ss : List (List ℕ)) (row : List ℕ) →
    blocks_from at (ss ++ row ∷ []) ≡ blocks_from at ss
    ++ last_block (at + 2 * samples_in_all ss) row
blocks-push at [] row = let here : at + 2 * samples_in_all [] ≡ at = omega arith in
    ap (λ (k : ℕ). last_block k row) (sym here)
blocks-push at (s ∷ ss) row =
    let next : ℕ = at + 2 * samples s in
    let end : next + 2 * samples_in_all ss ≡ at + 2 * samples_in_all (s ∷ ss) =
    omega (arith, sum_by-cons samples s ss) in
    let more : blocks_from next (ss ++ row ∷ []) ≡ blocks_from next ss
    ++ last_block (at + 2 * samples_in_all (s ∷ ss)) row =
    blocks-push next ss row ∙ ap (λ (k : ℕ). blocks_from next ss ++ last_block k row) end in
    elim (has_label s) as (λ b. cond b (block_of at s ∷ blocks_from next (ss ++ row ∷ []))
    (blocks_from next (ss ++ row ∷ []))
    ≡ cond b (block_of at s ∷ blocks_from next ss) (blocks_from next ss)
    ++ last_block (at + 2 * samples_in_all (s ∷ ss)) row) [
      | true ↦ ap (λ (l : List Block). block_of at s ∷ l) more
      | false ↦ more
    ]

no-blocks : (at : ℕ) (ss : List (List ℕ)) → All (Passes Label) ss → blocks_from at ss ≡ []
no-blocks at [] all = refl
no-blocks at (s ∷ ss) all = rw (no-label s (All-head (Passes Label) s ss all))
    (no-blocks (at + 2 * samples s) ss (All-tail (Passes Label) s ss all))

-- ordinary signals, and after them an annotations signal
pub block-last : (ss : List (List ℕ)) (row : List ℕ) → All (Passes Label) ss → IsLabelled row →
    blocks_from 0 (ss ++ row ∷ []) ≡ block_of (2 * samples_in_all ss) row ∷ []
block-last ss row all is =
    let start : 0 + 2 * samples_in_all ss ≡ 2 * samples_in_all ss = omega arith in
    blocks-push 0 ss row ∙ ap (λ (l : List Block). l ++ last_block (0 + 2 * samples_in_all ss) row)
    (no-blocks 0 ss all)
    ∙ ap (λ (b : Bool). cond b (block_of (0 + 2 * samples_in_all ss) row ∷ []) [])
    (has-label row is) ∙ ap (λ (k : ℕ). block_of k row ∷ []) start

-- the loop that lists the blocks: one signal more
blocks-more : (ss : List (List ℕ)) (i : ℕ) (r : List ℕ) (at : ℕ) (b : Bool) → i < length ss →
    r ≡ get_or ss i [] → at ≡ 2 * samples_in_all (take i ss) → b ≡ has_label r
    → blocks_from 0 (take (i + 1) ss) ≡ blocks_from 0 (take i ss) ++ cond b (block_of at r ∷ []) []
blocks-more ss i r at b lt is place label =
    let start : 0 + 2 * samples_in_all (take i ss) ≡ at = omega arith in
    ap (λ (l : List (List ℕ)). blocks_from 0 l) (take_more ss i [] lt
    ∙ ap (λ (x : List ℕ). take i ss ++ x ∷ []) (sym is))
    ∙ blocks-push 0 (take i ss) r ∙ ap (λ (k : ℕ). blocks_from 0 (take i ss)
    ++ last_block k r) start
    ∙ ap (λ (b : Bool). blocks_from 0 (take i ss) ++ cond b (block_of at r ∷ []) []) (sym label)

pub block-pushed : (ss : List (List ℕ)) (i : ℕ) (r : List ℕ) (at n : ℕ) (b : Bool)
    (old new : List Block) → i < length ss → r ≡ get_or ss i [] →
    at ≡ 2 * samples_in_all (take i ss)
    → b ≡ has_label r → b ≡ true → n ≡ samples r → old ≡ blocks_from 0 (take i ss) → new ≡ old
    ++ record { at = at; bytes = 2 * n } ∷ [] → new ≡ blocks_from 0 (take (i + 1) ss)
block-pushed ss i r at n b old new lt is place label on size was step =
    let one : Block = record { at = at; bytes = 2 * n } in
    let same : one ≡ block_of at r = λ j. record { at = at; bytes = 2 * size j } in
    step ∙ ap (λ (l : List Block). l ++ one ∷ []) was
    ∙ ap (λ (x : Block). blocks_from 0 (take i ss) ++ x ∷ []) same
    ∙ sym (blocks-more ss i r at b lt is place label
    ∙ ap (λ (b : Bool). blocks_from 0 (take i ss) ++ cond b (block_of at r ∷ []) []) on)

pub block-left : (ss : List (List ℕ)) (i : ℕ) (r : List ℕ) (at : ℕ) (b : Bool) (old : List Block) →
    i < length ss → r ≡ get_or ss i [] → at ≡ 2 * samples_in_all (take i ss)
    → b ≡ has_label r → b ≡ false → old ≡ blocks_from 0 (take i ss) →
    old ≡ blocks_from 0 (take (i + 1) ss)
block-left ss i r at b old lt is place label off was =
    was ∙ sym (blocks-more ss i r at b lt is place label
    ∙ ap (λ (b : Bool). blocks_from 0 (take i ss) ++ cond b (block_of at r ∷ []) []) off
    ∙ append-nil (blocks_from 0 (take i ss)))

pub place-more : (ss : List (List ℕ)) (i : ℕ) (r : List ℕ) (at n : ℕ) → i < length ss →
    r ≡ get_or ss i [] → at ≡ 2 * samples_in_all (take i ss) → n ≡ samples r
    → at + 2 * n ≡ 2 * samples_in_all (take (i + 1) ss)
place-more ss i r at n lt is place size =
    omega (
      arith,
      ap samples_in_all (take_more ss i [] lt),
      sum_by_push samples (take i ss) (get_or ss i []),
      ap samples is,
    )
