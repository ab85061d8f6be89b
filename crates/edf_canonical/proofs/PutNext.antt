-- One data record more, put after those that a source gave.
use Rattle.std.proofs.Common.{◌≡◌, ℕ, ◌+◌, ◌-◌, ◌*◌, ◌≤◌, ◌<◌, List, [], ◌∷◌, ◌++◌, length, refl}
use Rattle.std.proofs.Common.{sym, ap, ◌∙◌, subst, arith, Option, Some, None, Ok, Err, Result, inl}
use Rattle.std.proofs.Common.{append-nil, length-append}
use Rattle.std.proofs.KnownBytes.{Appends-nil}
use Rattle.edf_fragment.specs.Fragment.{DataRecord}
use Rattle.edf_canonical.specs.File.{second_of, block_of}
use Rattle.edf_canonical.specs.Measure.{IsMeasured, IsMeasuredSoFar, IsWithinMeasure, MayBePrefix}
use Rattle.edf_canonical.specs.Measure.{HoldsBlock, records_text}
use Rattle.edf_canonical.specs.Output.{Buffered, Writes}
use Rattle.edf_canonical.specs.Sending.{next_text, PutsNext, SendsAll, StopsAfter, StopsFor}
use Rattle.edf_canonical.specs.Source.{At, Answers, Gives}
use Rattle.edf_canonical.specs.declared.fault.OutputFault.{OutputFault}
use Rattle.edf_canonical.specs.declared.fault.SendFault.{SendFault}
use Rattle.edf_canonical.specs.declared.fault.SendFault.TheVariants.{Unlike, Output}
use Rattle.edf_canonical.specs.declared.measure.Measure.{Measure}
use Rattle.edf_canonical.proofs.Measures.{may_come, none_first, put_one_more, whole_measured}
use Rattle.edf_canonical.proofs.Measures.{same_measure}
use Rattle.edf_canonical.proofs.Sourced.{gives-more}

-- its block is held
pub block-held : (m whole : Measure) (r : DataRecord) → HoldsBlock m r → IsWithinMeasure m whole →
    length (block_of (second_of whole.first) r) ≤ 2 * whole.block_samples
block-held m whole r holds few =
    let base : second_of m.first ≡ second_of whole.first = ap second_of few.first in
    omega (arith, holds, few.samples, ap (λ n. length (block_of n r)) base)

-- the data records that a source gave so far, measured and put
pub record SoPut {S F R E : Type 0}
    (answers : S → F → R → S → F → R → Result (Option DataRecord) E → Type 0) (from now : At S F R)
    (before after : Buffered) (whole : Measure) (so_far : Option Measure) : Type 0 where
  pub records : List DataRecord
  pub gave : Gives answers from now records
  pub measured : IsMeasuredSoFar records so_far
  pub first : MayBePrefix records whole
  pub wrote : Writes before after (records_text whole records) after.held
  pub counted : after.failures ≡ before.failures

-- how many there may still be
abbrev pub left-of : Measure → Option Measure → ℕ
left-of whole None = whole.records
left-of whole (Some m) = whole.records - m.records

module _ {S F R E : Type 0}
    (answers : S → F → R → S → F → R → Result (Option DataRecord) E → Type 0) (from : At S F R)
    (a : Buffered) (whole : Measure) where
  pub none-so-put : SoPut answers from from a a whole None
  none-so-put = record {
    records = [];
    gave = refl;
    measured = refl;
    first = none_first whole;
    wrote = record { prefix = []; wrote = Appends-nil _; parts = append-nil _ };
    counted = refl;
  }

  module _ (mid to : At S F R) (b : Buffered) (so_far : Option Measure)
      (so : SoPut answers from mid a b whole so_far) where
    module _ (r : DataRecord) (step : Answers answers mid to (Ok (Some r))) (c : Buffered) where
      put-of : (left : List ℕ) → Writes b c (next_text whole r) left →
          Writes a c (records_text whole (so.records ++ r ∷ [])) left
      put-of left put = put_one_more a b c whole so.records r left so.wrote put

      pub goes-on : (m : Measure) → PutsNext b c whole so.records r (Ok (Some m)) →
          SoPut answers from to a c whole (Some m)
      goes-on m put = record {
        records = so.records ++ r ∷ [];
        gave = gives-more answers from mid to so.records r so.gave step;
        measured = put.measured;
        first = may_come (so.records ++ r ∷ []) m whole put.measured put.no_more;
        wrote = put-of c.held put.wrote;
        counted = put.counted ∙ so.counted;
      }

      pub smaller : (m : Measure) → PutsNext b c whole so.records r (Ok (Some m)) →
          left-of whole (Some m) < left-of whole so_far
      smaller m put =
          let more = length-append so.records (r ∷ []) in
          before-more m put.no_more.records (omega (arith, put.measured.count, more)) so_far
          so.measured
        where
          before-more : (m : Measure) → m.records ≤ whole.records →
              m.records ≡ length so.records + 1 → (o : Option Measure) →
              IsMeasuredSoFar so.records o → left-of whole (Some m) < left-of whole o
          before-more m few count None none =
              omega (arith, few, count, ap (λ (x : List DataRecord). length x) none)
          before-more m few count (Some old) is = omega (arith, few, count, is.count)

      pub stops-unlike : PutsNext b c whole so.records r (Ok None) →
          StopsAfter answers from to whole
          (λ rs. (left : List ℕ) × Writes a c (records_text whole rs) left) Unlike
          × (c.failures ≡ a.failures)
      stops-unlike put = (
        record {
          records = so.records;
          mid = mid;
          gave = so.gave;
          first = so.first;
          why = inl (r, step, put.1);
          prefix = (
            b.held,
            subst (λ x. Writes a x (records_text whole so.records) b.held) (sym put.0) so.wrote,
          );
        },
        ap (λ (x : Buffered). x.failures) put.0 ∙ so.counted,
      )

      pub stops-in-next : (fault : OutputFault) → PutsNext b c whole so.records r (Err fault) →
          StopsAfter answers from to whole
          (λ rs. (left : List ℕ) × Writes a c (records_text whole rs) left) (Output fault)
      stops-in-next fault put = record {
        records = so.records ++ r ∷ [];
        mid = to;
        gave = gives-more answers from mid to so.records r so.gave step;
        first = put.0.first;
        why = inl refl;
        prefix = (put.0.remaining, put-of put.0.remaining put.0.wrote);
      }

    -- the source gives no more
    module _ (m : Measure) (is : so_far ≡ Some m) where
      measured-so : IsMeasured so.records m
      measured-so = subst (IsMeasuredSoFar so.records) is so.measured

      pub is-all : Answers answers mid to (Ok None) → m.records ≡ whole.records →
          m.block_samples ≡ whole.block_samples →
          SendsAll answers from to whole (λ rs. Writes a b (records_text whole rs) b.held)
      is-all end count block = record {
        records = so.records;
        mid = mid;
        gave = so.gave;
        end = end;
        measured = whole_measured so.records m whole measured-so so.first count block;
        wrote = so.wrote;
      }

      pub is-less : ¬ ((m.records ≡ whole.records) × (m.block_samples ≡ whole.block_samples)) →
          ¬ IsMeasured so.records whole
      is-less less all = less (same_measure so.records m whole measured-so all)

    pub none-is-less : so_far ≡ None → ¬ IsMeasured so.records whole
    none-is-less is all =
        let none : so.records ≡ [] = subst (IsMeasuredSoFar so.records) is so.measured in
        let e : ◌≡◌ {A = List DataRecord} [] (all.first ∷ all.others) = sym none ∙ all.parts in
        cc

    pub stops-before : (fault : SendFault E) →
        StopsFor answers from to whole mid so.records fault →
        StopsAfter answers from to whole
        (λ rs. (left : List ℕ) × Writes a b (records_text whole rs) left) fault
    stops-before fault why = record {
      records = so.records;
      mid = mid;
      gave = so.gave;
      first = so.first;
      why = why;
      prefix = (b.held, so.wrote);
    }
