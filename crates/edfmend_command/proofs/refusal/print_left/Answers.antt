use Rattle.std.proofs.Common.{◌≡◌, List, [], ◌∷◌, ◌++◌, ℕ, Bool, true, false, codes, sym, ap, subst}
use Rattle.std.proofs.Common.{◌∙◌, inl, inr, arith, append_assoc, append-nil, length-append}
use Rattle.std.proofs.lemmas.Bool.{false≢true}
use Rattle.edf_cli.specs.Output.{output_change, IsWritten}
use Rattle.edf_cli.specs.declared.status.Status.{Status}
use Rattle.edf_cli.specs.declared.status.Status.TheVariants.{Trouble}
use Rattle.edf_cli.proofs.Undone.{trouble-told}
use Rattle.edfmend_command.specs.Run.{SaysWhy, left_line}
use Rattle.edfmend_command.proofs.refusal.print_left.Goals as goal

-- the parts of two lines
two-lines : (front back name is end : List ℕ) → name ≡ is →
    end ≡ codes ".part could not be removed\n" →
    front ++ (back ++ (10 ∷ (name ++ (end ++ [])))) ≡ (front ++ back) ++ (10 ∷ left_line true is)
two-lines front back name is end named ended =
    ap (λ (l : List ℕ). front ++ (back ++ (10 ∷ (name ++ l)))) (append-nil end ∙ ended)
    ∙ ap (λ (l : List ℕ). front ++ (back ++ (10 ∷ (l ++ codes ".part could not be removed\n"))))
    named
    ∙ sym (append_assoc front back (10 ∷ left_line true is))

pub returns-then-is_left : goal.returns-then-is_left
returns-then-is_left g c =
    let w = output_change g.F.Output c.args.err.now c.print_why.new.err in
    let front = c.args.front.now in
    let back = c.args.back.now in
    let name = c.args.names.new.now in
    let status = c.print_why.result in
    let said : SaysWhy w name c.args.fault.now true status = (
      front ++ back,
      omega (arith, length-append front back, c.requires),
      inr (subst (λ (t : List ℕ). IsWritten w t Trouble status) (two-lines front back
          c.as_bytes.result.now name c.as_slice-end.result.now c.as_bytes.ensures.value
          c.as_slice-end.ensures) c.print_why.ensures),
      λ _. trouble-told w _ status c.print_why.ensures,
    ) in
    subst (λ (b : Bool). SaysWhy w name c.args.fault.now b status) (sym c.if-is_left.true) said

pub returns : goal.returns
returns g c =
    let w = output_change g.F.Output c.args.err.now c.print_why-2.new.err in
    let front = c.args.front.now in
    let back = c.args.back.now in
    let status = c.print_why-2.result in
    let said : SaysWhy w c.args.names.new.now c.args.fault.now false status = (
      front ++ back,
      omega (arith, length-append front back, c.requires),
      inl (subst (λ (s : Status). IsWritten w ((front ++ back) ++ (10 ∷ [])) s status)
          c.why_status.ensures (subst (λ (t : List ℕ). IsWritten w t c.why_status.result status)
          (sym (append_assoc front back (10 ∷ []))) c.print_why-2.ensures)),
      λ left. absurd (false≢true left),
    ) in
    subst (λ (b : Bool). SaysWhy w c.args.names.new.now c.args.fault.now b status)
    (sym c.if-is_left.false) said
