-- A filled file has another key than its recording.
use Rattle.std.proofs.Common.{◌≡◌, ℕ, ◌-◌, List, [], ◌∷◌, ◌++◌, length, drop}
use Rattle.std.proofs.Common.{All, arith, refl, sym, ap, ◌∙◌, subst, append_assoc}
use Rattle.std.proofs.lemmas.List.Elements.{All-head, All-tail, All-replicate}
use Rattle.std.specs.Prelude.{codes}
use Rattle.edf_field.specs.Text.{spaces}
use Rattle.edf_header.specs.Key.{Key}
use Rattle.edf_runs.specs.Filled.{IsMarked}
use Rattle.edf_runs.specs.FilledLaws.{IsOtherRecording}

-- what stands behind one text is one
after-same : (text xs ys : List ℕ) → text ++ xs ≡ text ++ ys → xs ≡ ys
after-same [] xs ys same = same
after-same (t ∷ ts) xs ys same = after-same ts xs ys (ap (drop 1) same)

no-mark : (n : ℕ) (rest : List ℕ) → spaces n ≡ codes " filled" ++ rest → ⊥
no-mark n rest same =
    let all : All (λ b. b ≡ 32) (codes " filled" ++ rest) = subst (All (λ b. b ≡ 32)) same
    (All-replicate (λ b. b ≡ 32) n 32 refl) in
    let e : 102 ≡ 32 = All-head (λ b. b ≡ 32) 102 (codes "illed" ++ rest)
    (All-tail (λ b. b ≡ 32) 32 (codes "filled" ++ rest) all) in
    absurd (omega (arith, e))

-- no field is marked and not
not-marked : (old : List ℕ) → IsMarked old old → ⊥
not-marked old is =
    let text = is.0 in
    let n = length old - length text in
    let m = length old - length (text ++ codes " filled") in
    let same : text ++ spaces n ≡ text ++ (codes " filled" ++ spaces m) =
    sym is.2 ∙ is.3 ∙ append_assoc text (codes " filled") (spaces m) in
    no-mark n (spaces m) (after-same text (spaces n) (codes " filled" ++ spaces m) same)

pub other-recording : IsOtherRecording
other-recording k key r rs g u others gap filled same =
    not-marked k.after (subst (λ (x : Key). IsMarked k.after x.after) same
    (filled.divided gap).1.marked)
