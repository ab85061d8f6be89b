use Rattle.std.proofs.Common.{ℕ, List, Option, refl, sym, ap, subst}
use Rattle.std.specs.Borrow.{Bor}
use Rattle.edf_fragment.specs.Fragment.{DataRecord}
use Rattle.edf_runs.specs.Inside.Refilling.{Fetches}
use Rattle.edf_runs.specs.Inside.ToCome.{TakesNext, TakesPlace}
use Rattle.edf_runs.specs.declared.filled_places.Place.{Place}
use Rattle.edf_runs.specs.declared.parted.FilledParts.{FilledParts}
use Rattle.edf_runs.proofs.filled_source.FilledSourceSourceOpenFragment.next.Goals as goal

pub returns-in_ok-record_of-in-Some-clause-answers :
    goal.returns-in_ok-record_of-in-Some-clause-answers
returns-in_ok-record_of-in-Some-clause-answers g c =
    let from = c.args.self.now in
    let to = c.next.new.self in
    let place = c.in-Some.place in
    let made = c.in_ok-record_of-in-Some.ensures in
    let takes : TakesPlace from.places to place =
    subst (λ (o : Option Place). TakesNext from.places to o) c.in-Some.is c.in-Ok.ensures in
    record {
      header = c.in_ok-samples-in-Some.ensures.header;
      bytes = refl;
      answers = record {
        place = place;
        takes = takes;
        fetched = subst (λ (p : Bor FilledParts). Fetches g.R.Input p.now c.args.fragment.now
            c.samples_of.new.fragment c.args.input.now c.samples_of.new.input place.origin from.last
            c.samples_of.new.last c.in_ok-record_of-in-Some.field-0.samples) takes.parts
            (subst (λ (s : List ℕ). Fetches g.R.Input to.parts.now c.args.fragment.now
            c.samples_of.new.fragment c.args.input.now c.samples_of.new.input place.origin from.last
            c.samples_of.new.last s) (sym (ap (λ (r : DataRecord). r.samples) made.2))
            c.in_ok-samples-in-Some.ensures.fetched);
        start = ap (λ (r : DataRecord). r.start) made.2;
        notes = ap (λ (r : DataRecord). r.annotations) made.2;
        size = made.1;
        valid = made.0;
      };
    }
