-- A second reading, data record by data record.
use Rattle.std.proofs.Common.{◌≡◌, ℕ, suc, ◌+◌, ◌*◌, ◌≤◌, ◌<◌, List, [], ◌∷◌, ◌++◌, length, refl}
use Rattle.std.proofs.Common.{sym, ap, ◌∙◌, subst, arith, length-append, Option}
use Rattle.std.proofs.Math.Nat.{suc-mul}
use Rattle.std.proofs.KnownBytes.{Consumes-nil, Consumes-trans}
use Rattle.edf_field.specs.Number.{duration_of}
use Rattle.edf_header.specs.Header.{Layout, most_records}
use Rattle.edf_tal.specs.declared.place.Place.{Place}
use Rattle.edf_fragment.specs.Fragment.{DataRecord, BeginWithDataRecords, place_after}
use Rattle.edf_fragment.specs.declared.advance.Progress.{Progress}
use Rattle.edf_fragment.proofs.Runs.{AreDataRecords-snoc}
use Rattle.edf_runs.specs.Read.{ReadsOn}
use Rattle.edf_runs.specs.Inside.Steps.{StepsOn, ReadSoFar}
use Rattle.edf_runs.specs.declared.run.Run.{Run}
use Rattle.edf_runs.proofs.Next.{has_more}
use Rattle.edf_runs.proofs.Growing.{starts_more}

-- ---- one after another

none_going : {P : Type 0} → ((◌≡◌ {A = List DataRecord} [] []) → ⊥) → P
none_going none = absurd (none refl)

pub none_read : (l : Layout) (from : Progress) (left : Option (List ℕ)) →
    from.given ≤ most_records l.count → ReadsOn l from from left left []
none_read l from left few =
    record {
      going = λ none. none_going none;
      bytes = [];
      read = Consumes-nil left;
      are_records =
          (refl, refl);
      given = omega arith;
      within = few;
      state = refl;
    }

pub one_more : (l : Layout) (from mid to : Progress) (left middle rest : Option (List ℕ))
    (rs : List DataRecord) (instant : ℕ) (r : DataRecord) → ReadsOn l from mid left middle rs
    → StepsOn l mid to middle rest instant r → ReadsOn l from to left rest (rs ++ r ∷ [])
one_more l from mid to left middle rest rs instant r before step =
    let gives = step.gives in
    let place : to.place ≡ place_after l r.start = ap (λ (x : Progress). x.place) step.progress in
    let given : to.given ≡ mid.given + 1 = ap (λ (x : Progress). x.given) step.progress in
    let state = ap (λ (x : Progress). x.state) step.progress in
    let more = AreDataRecords-snoc l from.place mid.place before.bytes gives.bytes rs r
    before.are_records gives.is_record in
    record {
      going = λ some. sym before.state ∙ step.going;
      bytes = before.bytes ++ gives.bytes;
      read = Consumes-trans left middle rest before.bytes gives.bytes before.read gives.read;
      are_records = subst (λ (x : Place). BeginWithDataRecords l from.place (before.bytes
          ++ gives.bytes) (rs ++ r ∷ []) x []) (sym place) more;
      given = omega (arith, before.given, given, length-append rs (r ∷ []));
      within = omega (arith, gives.may_come, given);
      state = state ∙ sym step.going ∙ before.state;
    }

-- ---- so far

pub none_so_far : (l : Layout) (from : Progress) (left : Option (List ℕ)) (run : Run) (next : ℕ) →
    from.given ≤ most_records l.count → next ≡ run.first →
    ReadSoFar l from from left left run [] next 0
none_so_far l from left run next few is =
    record {
      read = none_read l from left few;
      start = tt;
      counted = refl;
      next_is =
          omega (arith, is);
      first = λ all has len. has;
    }

-- one more, after which the next one starts later by a duration
pub more_so_far : (l : Layout) (from mid to : Progress) (left middle rest : Option (List ℕ))
    (run : Run) (rs : List DataRecord) (next later count : ℕ) (r : DataRecord) →
    ReadSoFar l from mid left middle run rs next count → count < run.records →
    StepsOn l mid to middle rest next r → later ≡ next + duration_of l.key.duration →
    ReadSoFar l from to left rest run (rs ++ r ∷ []) later (count + 1)
more_so_far l from mid to left middle rest run rs next later count r so few step after =
    let d = duration_of l.key.duration in
    let more : length (rs ++ r ∷ []) ≡ suc (length rs) = length-append rs (r ∷ []) ∙ omega arith in
    record {
      read = one_more l from mid to left middle rest rs next r so.read step;
      start = starts_more d run.first rs r so.start (step.start ∙ so.next_is);
      counted = omega (arith, more, so.counted);
      next_is = let e = suc-mul (length rs) d in
          let m : length (rs ++ r ∷ []) * d ≡ suc (length rs) * d = ap (λ n. n * d) more in
          omega (arith, after, so.next_is, e, m);
      first = λ all has len. has_more l mid to middle rest all rs next r
          (so.first all has len) (omega (arith, so.counted, few, len)) step;
    }
