-- Data records that a source gives, one after another.
use Rattle.std.proofs.Common.{◌≡◌, ◌∙◌, ◌⊎◌, ℕ, List, [], ◌∷◌, ◌++◌, refl, sym, ap, subst}
use Rattle.std.proofs.Common.{append_assoc, append-nil, inl, inr, Option, Some, None, Result}
use Rattle.std.proofs.Common.{Ok, Err}
use Rattle.edf_fragment.specs.Fragment.{DataRecord}
use Rattle.edf_canonical.specs.Output.{CountsOutputFault}
use Rattle.edf_canonical.specs.Sending.{SendsAll, StopsAfter, StopsFor, CountsSendFault}
use Rattle.edf_canonical.specs.Source.{At, Answers, Gives}
use Rattle.edf_canonical.specs.declared.fault.SendFault.{SendFault}
use Rattle.edf_canonical.specs.declared.fault.SendFault.TheVariants.{Source, Unlike, Output}
use Rattle.edf_canonical.specs.declared.measure.Measure.{Measure}

module _ {S F R E : Type 0}
    (answers : S → F → R → S → F → R → Result (Option DataRecord) E → Type 0) where
  -- one more
  pub gives-more : (from mid to : At S F R) (rs : List DataRecord) (r : DataRecord) →
      Gives answers from mid rs → Answers answers mid to (Ok (Some r)) →
      Gives answers from to (rs ++ r ∷ [])
  gives-more from mid to [] r gave step =
      (to, subst (λ x. Answers answers x to (Ok (Some r))) gave step, refl)
  gives-more from mid to (x ∷ xs) r gave step =
      (gave.0, gave.1, gives-more gave.0 mid to xs r gave.2 step)

  -- what each call keeps holds of all that they gave
  pub gives-all : (P : At S F R → List DataRecord → Type 0)
      (keeps : (mid to : At S F R) (rs : List DataRecord) (r : DataRecord) → P mid rs →
      Answers answers mid to (Ok (Some r)) → P to (rs ++ r ∷ []))
      (from to : At S F R) (before rs : List DataRecord) → P from before →
      Gives answers from to rs → P to (before ++ rs)
  gives-all P keeps from to before [] p gave =
      subst (P to) (sym (append-nil before)) (subst (λ x. P x before) (sym gave) p)
  gives-all P keeps from to before (r ∷ rs) p gave =
      subst (P to) (append_assoc before (r ∷ []) rs)
      (gives-all P keeps gave.0 to (before ++ r ∷ []) rs (keeps from gave.0 before r p gave.1)
      gave.2)

  -- what went out of them
  module _ (from to : At S F R) (whole : Measure) (P Q : List DataRecord → Type 0)
      (then : (rs : List DataRecord) → P rs → Q rs) where
    pub sends-then : SendsAll answers from to whole P → SendsAll answers from to whole Q
    sends-then s = record {
      records = s.records;
      mid = s.mid;
      gave = s.gave;
      end = s.end;
      measured = s.measured;
      wrote = then s.records s.wrote;
    }

    pub stops-then : (fault : SendFault E) → StopsAfter answers from to whole P fault →
        StopsAfter answers from to whole Q fault
    stops-then fault s = record {
      records = s.records;
      mid = s.mid;
      gave = s.gave;
      first = s.first;
      why = s.why;
      prefix = then s.records s.prefix;
    }

  -- where the writer stopped
  module _ (from to : At S F R) (whole : Measure) (mid : At S F R) (records : List DataRecord)
    where
      -- the source was not asked again, or this is its answer
      pub asked : (fault : SendFault E) → StopsFor answers from to whole mid records fault →
          (to ≡ mid) ⊎ ((answer : Result (Option DataRecord) E) × Answers answers mid to answer)
      asked (Source fault) why = inr (Err fault, why)
      asked Unlike (inl (r, step, not)) = inr (Ok (Some r), step)
      asked Unlike (inr (end, not)) = inr (Ok None, end)
      asked (Output fault) (inl same) = inl same
      asked (Output fault) (inr end) = inr (Ok None, end.0)

      -- what each answer keeps
      pub keeps : {X : Type 0} (f : At S F R → X) → ((answer : Result (Option DataRecord) E) →
          Answers answers mid to answer → f to ≡ f mid) → (fault : SendFault E) →
          StopsFor answers from to whole mid records fault → f to ≡ f mid
      keeps f each fault why = elim (asked fault why) [
        | inl same ↦ ap f same
        | inr (answer, is) ↦ each answer is
      ]

pub counts-after : {E : Type 0} (old mid new : ℕ) (fault : SendFault E) → mid ≡ old →
    CountsSendFault mid new fault → CountsSendFault old new fault
counts-after old mid new (Source fault) same counts = counts ∙ same
counts-after old mid new Unlike same counts = counts ∙ same
counts-after old mid new (Output fault) same counts =
    subst (λ (n : ℕ). CountsOutputFault n new fault) same counts
