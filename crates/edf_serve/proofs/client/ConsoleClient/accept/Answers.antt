use Rattle.std.proofs.Common.{◌≡◌, ◌∙◌, ℕ, List, [], ◌∷◌, ◌++◌, codes, ap, sym, subst, append_assoc}
use Rattle.std.specs.Prelude.{decimal}
use Rattle.edf_cli.specs.Output.{output_change, IsPut}
use Rattle.edf_serve.proofs.client.ConsoleClient.accept.Goals as goal

module _ (name a new b known d code : List ℕ) where
  regrouped : (name ++ (a ++ (new ++ (b ++ (known ++ (10 ∷ [])))))) ++ (d ++ (code ++ (10 ∷ [])))
      ≡ name ++ (a ++ (new ++ (b ++ (known ++ (10 ∷ (d ++ (code ++ (10 ∷ []))))))))
  regrouped = simp append_assoc

  told : (name' a' new' known' code' : List ℕ) → name' ≡ name → a' ≡ a → new' ≡ new →
      known' ≡ known → code' ≡ code →
      name' ++ (a' ++ (new' ++ (b ++ (known' ++ (10 ∷ (d ++ (code' ++ (10 ∷ []))))))))
      ≡ (name ++ (a ++ (new ++ (b ++ (known ++ (10 ∷ [])))))) ++ (d ++ (code ++ (10 ∷ [])))
  told name' a' new' known' code' e f g h i =
      let same : name' ++ (a' ++ (new' ++ (b ++ (known' ++ (10 ∷ (d ++ (code' ++ (10 ∷ []))))))))
      ≡ name ++ (a ++ (new ++ (b ++ (known ++ (10 ∷ (d ++ (code ++ (10 ∷ [])))))))) = cc in
      same ∙ sym regrouped

pub returns : goal.returns
returns g c =
    let Put : List ℕ → Type 0 = λ bytes.
    IsPut (output_change g.W.Output c.args.self.now.out c.send.new.out) bytes c.send.result in (
      c.send.ensures.sent,
      subst Put (told c.args.name.now (codes " accepted new=") (decimal c.args.receipt.now.new)
          (codes " known=") (decimal c.args.receipt.now.known) (codes "status ") (decimal 0)
          c.as_bytes.result.now c.as_slice.result.now c.as_bytes-2.result.now
          c.as_bytes-3.result.now
          c.as_bytes-4.result.now c.as_bytes.ensures.value c.as_slice.ensures
          (c.as_bytes-2.ensures.value ∙ c.format-new.ensures.text)
          (c.as_bytes-3.ensures.value ∙ c.format-known.ensures.text)
          (c.as_bytes-4.ensures.value ∙ c.format-code.ensures.text ∙ ap decimal c.code.ensures))
          c.send.ensures.put,
    )
