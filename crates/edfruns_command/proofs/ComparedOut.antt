-- Two files are opened, one after the other, and compared.
use Rattle.std.proofs.Common.{◌≡◌, ◌≢◌, ℕ, List, [], ◌∷◌, ◌++◌, inl, inr, ap, ◌∙◌, append_assoc}
use Rattle.edf_cli.specs.declared.status.Status.{Status}
use Rattle.edf_cli.specs.declared.status.Status.TheVariants.{Done}
use Rattle.edfruns_command.specs.Listed.{OpensEach}

module _ (before after : List (List ℕ)) (one other : List ℕ) (status : Status) where
  pub opens-none : after ≡ before → status ≢ Done →
      OpensEach before after (one ∷ other ∷ []) status
  opens-none none undone =
      record { some = inl (inl none); all = λ done. absurd (undone done) }

  pub opens-one : (mid : List (List ℕ)) → mid ≡ before ++ (one ∷ []) → after ≡ mid →
      status ≢ Done → OpensEach before after (one ∷ other ∷ []) status
  opens-one mid first none undone =
      record { some = inr (inl (none ∙ first)); all = λ done. absurd (undone done) }

  pub opens-both : (mid : List (List ℕ)) → mid ≡ before ++ (one ∷ []) →
      after ≡ mid ++ (other ∷ []) → OpensEach before after (one ∷ other ∷ []) status
  opens-both mid first then =
      let both = then ∙ ap (λ (l : List (List ℕ)). l ++ (other ∷ [])) first in
      record {
        some = inr (inr both);
        all = λ done. both ∙ append_assoc before (one ∷ []) (other ∷ []);
      }
