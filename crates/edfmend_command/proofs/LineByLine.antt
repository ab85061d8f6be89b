-- Lines, one by one.
use Rattle.std.proofs.Common.{◌≡◌, ◌≢◌, ℕ, ◌+◌, List, [], ◌∷◌, ◌++◌, length, arith, ap, ◌∙◌}
use Rattle.std.proofs.Common.{length-append, append-nil, sym, Bool, inl, inr}
use Rattle.std.specs.List.{flat_map}
use Rattle.std.proofs.Math.Nat.{pos_of_ne-zero}
use Rattle.std.proofs.lemmas.Bool.{ne_eqb}
use Rattle.std.proofs.lemmas.List.{nil_from_length}
use Rattle.std.proofs.lemmas.Grind.{flat_map-append}
use Rattle.edf_mend.specs.Changes.{FieldChange}
use Rattle.edfmend_command.specs.Run.{AreLines, one_line, IsLedger}

pub line-more : (n : ℕ) (text new line : List ℕ) → AreLines n text →
    new ≡ text ++ (line ++ (10 ∷ [])) → AreLines (n + 1) new
line-more n text new line (lines, len, is) put = (
  lines ++ line ∷ [],
  omega (arith, len, length-append lines (line ∷ [])),
  put ∙ ap (λ (t : List ℕ). t ++ (line ++ (10 ∷ []))) is
      ∙ ap (λ (t : List ℕ). flat_map (λ l. l ++ (10 ∷ [])) lines ++ t)
      (sym (append-nil (line ++ (10 ∷ []))))
      ∙ sym (flat_map-append (λ (l : List ℕ). l ++ (10 ∷ [])) lines (line ∷ [])),
)

module _ (is_good : Bool) (name : List ℕ) (changes : List FieldChange) (left_out : ℕ)
    (text : List ℕ) where
  pub ledger-left : (new line : List ℕ) → AreLines (length changes) text → left_out ≢ 0 →
      new ≡ text ++ (line ++ (10 ∷ [])) → IsLedger is_good name changes left_out new
  ledger-left new line so some put = inl (rw (ne_eqb left_out 0 some)
      (omega arith, line-more (length changes) text new line so put))

  pub ledger-none : left_out ≡ 0 → length changes ≡ 0 → text ≡ one_line is_good name →
      IsLedger is_good name changes left_out text
  ledger-none none empty one = inr (nil_from_length changes empty, none, one)

  pub ledger-some : AreLines (length changes) text → left_out ≡ 0 → length changes ≢ 0 →
      IsLedger is_good name changes left_out text
  ledger-some so none some = inl (rw none (pos_of_ne-zero some, so))
