-- What goes out, and what comes after it.
use Rattle.std.proofs.Common.{◌≡◌, ℕ, List, [], ◌∷◌, ◌++◌, refl, sym, codes}
use Rattle.std.proofs.Common.{◌∙◌, ap, subst, inl, inr, append_assoc}
use Rattle.std.specs.Prelude.{decimal}
use Rattle.edf_command.specs.Lines.{accepted_line}
use Rattle.edf_cli.specs.Output.{OutputChange, Gets, GetsPrefix, IsWritten}
use Rattle.edf_cli.specs.Text.{refused_line}
use Rattle.edf_cli.specs.declared.status.Status.{Status}
use Rattle.edf_cli.specs.declared.status.Status.TheVariants.{Trouble}
use Rattle.edf_serve.specs.Lines.{whole_lines}
use Rattle.edf_serve.proofs.Whole.{EndsFed, fed-behind, is-whole}

-- the line of an accepted file is a whole one
pub accepted-whole : (name : List ℕ) (new known : ℕ) →
    accepted_line name new known ≡ whole_lines (accepted_line name new known)
accepted-whole name new known =
    let counted : EndsFed (decimal known ++ (10 ∷ [])) = (decimal known, refl) in
    let known-told = fed-behind (codes " known=") (decimal known ++ (10 ∷ [])) counted in
    let new-told = fed-behind (decimal new) _ known-told in
    let told = fed-behind name _ (fed-behind (codes " accepted new=") _ new-told) in
    is-whole (accepted_line name new known) told

-- two texts and the line of the status, as they are sent and as they are told
pub sent : (out why a b line : List ℕ) → out ≡ a → why ≡ b → out ++ (why ++ line) ≡ (a ++ b) ++ line
sent out why a b line is_out is_why =
    let same : out ++ (why ++ line) ≡ a ++ (b ++ line) = cc in
    same ∙ sym (append_assoc a b line)

-- the line of a refusal, after which the status is trouble
pub as-trouble : (out : OutputChange) (name : List ℕ) (n m : ℕ) (text told : List ℕ)
    (status : Status) →
    n ≡ m → text ≡ told → IsWritten out (refused_line name n text) Trouble status →
    IsWritten out (refused_line name m told) Trouble Trouble
as-trouble out name n m text told status a b (inl w) =
    inl (
      subst (Gets out) (ap (λ (k : ℕ). refused_line name k text) a
          ∙ ap (refused_line name m) b) w.0,
      refl,
    )
as-trouble out name n m text told status a b (inr w) =
    inr (
      subst (GetsPrefix out) (ap (λ (k : ℕ). refused_line name k text) a
          ∙ ap (refused_line name m) b) w.0,
      refl,
    )
