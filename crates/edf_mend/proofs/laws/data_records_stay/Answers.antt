use Rattle.std.proofs.Common.{◌≡◌, List, [], ◌∷◌, ℕ, ◌+◌, ◌<◌, Bool, false, sym, ap, ◌∙◌, subst}
use Rattle.std.proofs.Common.{refl}
use Rattle.std.specs.List.{AllZip}
use Rattle.edf_field.specs.Number.{duration_of}
use Rattle.edf_header.specs.Header.{Layout, layout_of}
use Rattle.edf_tal.specs.declared.place.Place.{Place}
use Rattle.edf_tal.specs.declared.place.Place.TheVariants.{First}
use Rattle.edf_fragment.specs.Fragment.{DataRecord, place_after}
use Rattle.edf_mend.specs.Body.{RecordsReadAs, record_size, next_start}
use Rattle.edf_mend.specs.Changes.{FieldChange}
use Rattle.edf_mend.specs.Laws.{IsReadOf, StartInTurn}
use Rattle.edf_mend.proofs.laws.data_records_stay.Goals as goal

all : (timed : Bool) (l : Layout) (place : Place) (nth : ℕ) (pieces : List (List ℕ))
    (rs : List DataRecord) (changes : List FieldChange) →
    RecordsReadAs timed l place nth pieces rs changes → AllZip (IsReadOf timed l) pieces rs
all timed l place nth [] [] changes are = tt
all timed l place nth (p ∷ ps) (r ∷ rs) changes are = (
  (are.2, place, nth, are.0, are.3),
  all timed l (place_after l r.start) (nth + 1) ps rs are.1 are.4,
)
all timed l place nth pieces rs changes are = absurd are

in-turn : (l : Layout) (place : Place) (start nth : ℕ) (pieces : List (List ℕ))
    (rs : List DataRecord) (changes : List FieldChange) → next_start l place ≡ start →
    RecordsReadAs false l place nth pieces rs changes →
    StartInTurn start (duration_of l.key.duration) rs
in-turn l place start nth [] [] changes at are = tt
in-turn l place start nth (p ∷ ps) (r ∷ rs) changes at are =
    let here : r.start ≡ start = are.3.0.1 ∙ at in
    let next = ap (λ (k : ℕ). k + duration_of l.key.duration) here in
    (here, in-turn l (place_after l r.start) _ (nth + 1) ps rs are.1 next are.4)
in-turn l place start nth pieces rs changes at are = absurd are

pub returns : goal.returns
returns c = λ w a key rs n x.
    let body = x.records_are in
    let l = layout_of x.h in (
      body.pieces,
      body.tail,
      body.parts,
      body.left_out_is,
      subst (λ (k : ℕ). k < record_size x.timed l) (sym body.left_out_is) body.less,
      all x.timed l First 1 body.pieces rs body.changes body.each,
      λ plain. in-turn l First l.start 1 body.pieces rs body.changes refl
          (subst (λ (t : Bool). RecordsReadAs t l First 1 body.pieces rs body.changes) plain
          body.each),
    )
