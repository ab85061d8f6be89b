-- The data records of a piece by onset are some of those of its card.
use Rattle.std.proofs.Common.{◌≡◌, ℕ, List, [], ◌∷◌, Contains, All, refl, sym, ap, ◌∙◌, subst}
use Rattle.std.proofs.Common.{inl, inr}
use Rattle.std.specs.Prelude.{Bool, true, false, not, filter}
use Rattle.std.specs.List.{AllZip}
use Rattle.std.proofs.lemmas.Bool.{not-false}
use Rattle.std.proofs.lemmas.List.Elements.{All-nil, All-cons, All-head, All-tail, All-weaker}
use Rattle.std.proofs.lemmas.List.Sorted.{All-permutation}
use Rattle.edf_field.specs.Number.{duration_of}
use Rattle.edf_tal.specs.Tal.{Annotation}
use Rattle.edf_fragment.specs.Fragment.{DataRecord}
use Rattle.edf_runs.specs.ByOnset.{annotations_of, all_assigned, by_onset, AreAlike}
use Rattle.edf_runs.specs.OneByOnset.{lies_in, PiecesAreOfCard}
use Rattle.edf_runs.specs.Order.{in_order}
use Rattle.edf_runs.proofs.ByOnset.{spaced-sound, stay-alike}
use Rattle.edf_runs.proofs.Filtered.{filter-all, none-counted, filter-order}
use Rattle.edf_runs.proofs.Lying.{lies_here, all-own}
use Rattle.edf_runs.proofs.Members.{contains-first, contains-later, contains-cases, contains-none}
use Rattle.edf_runs.proofs.Order.{order-moves, one-order}

one-record : (g h : DataRecord) → g.start ≡ h.start → g.samples ≡ h.samples →
    g.annotations ≡ h.annotations → g ≡ h
one-record g h start samples annotations =
    ap (λ n. record { start = n; samples = g.samples; annotations = g.annotations }) start
    ∙ ap (λ l. record { start = h.start; samples = l; annotations = g.annotations }) samples
    ∙ ap (λ l. record { start = h.start; samples = h.samples; annotations = l }) annotations

module _ (d : ℕ) (all : List Annotation) where
  abbrev Own : DataRecord → Type 0
  Own g = g.annotations ≡ filter (λ a. lies_here d g.start a.onset) all

  -- two that have their own and are alike are one
  own-one : (g h : DataRecord) → AreAlike g h → Own g → Own h → g ≡ h
  own-one g h alike mine others =
      one-record g h alike.0 alike.1
      (mine ∙ ap (λ n. filter (λ a. lies_here d n a.onset) all) alike.0 ∙ sym others)

  -- where one of a list is like this one, this is in the list
  one-in : (hs card : List DataRecord) (g other : DataRecord) → AllZip AreAlike hs card →
      All Own hs → Contains card other → AreAlike g other → Own g → Contains hs g
  one-in [] [] g other alike own c like mine = absurd (contains-none other c)
  one-in [] (c ∷ cs) g other alike own is like mine = absurd alike
  one-in (h ∷ hs) [] g other alike own is like mine = absurd alike
  one-in (h ∷ hs) (c ∷ cs) g other alike own is like mine = elim (contains-cases c cs other is) [
    | inl same ↦
        let like-c : AreAlike g c = subst (AreAlike g) (sym same) like in
        subst (Contains (h ∷ hs)) (own-one h g
        (alike.0.0 ∙ sym like-c.0, alike.0.1 ∙ sym like-c.1) (All-head Own h hs own) mine)
        (contains-first h hs)
    | inr later ↦ contains-later h hs g
        (one-in hs cs g other alike.1 (All-tail Own h hs own) later like mine)
  ]

  abbrev IsOf : List DataRecord → DataRecord → Type 0
  IsOf card r = (other : DataRecord) × Contains card other × AreAlike r other

  all-in : (hs card gs piece : List DataRecord) → AllZip AreAlike hs card → All Own hs →
      AllZip AreAlike gs piece → All (IsOf card) piece → All Own gs → All (Contains hs) gs
  all-in hs card [] piece of-card own alike from mine = All-nil (Contains hs)
  all-in hs card (g ∷ gs) [] of-card own alike from mine = absurd alike
  all-in hs card (g ∷ gs) (r ∷ rs) of-card own alike from mine =
      let one = All-head (IsOf card) r rs from in
      All-cons (Contains hs) g gs
      (one-in hs card g one.0 of-card own one.1
      (alike.0.0 ∙ one.2.0, alike.0.1 ∙ one.2.1) (All-head Own g gs mine))
      (all-in hs card gs rs of-card own alike.1 (All-tail (IsOf card) r rs from)
      (All-tail Own g gs mine))

pub pieces-are-of-card : PiecesAreOfCard
pieces-are-of-card k card piece sound sound-piece is none =
    let d = duration_of k.duration in
    let given = annotations_of card in
    let all = in_order given in
    let in-piece : Annotation → Bool = λ a. lies_in d piece a.onset in
    let in-card : Annotation → Bool = λ a. lies_in d card a.onset in
    let lie : All (λ a. in-card a ≡ true) given =
    All-weaker (λ a. not (in-card a) ≡ false) (λ a. in-card a ≡ true)
    (λ a e. not-false (in-card a) e) given (none-counted (λ a. not (in-card a)) given none) in
    let whole : filter in-card all ≡ all =
    filter-all in-card all (All-permutation (λ a. in-card a ≡ true) given all (order-moves given)
    lie) in
    let own-card : All (Own d all) (by_onset card) =
    subst (λ l. All (Own d all) (all_assigned l card)) whole
    (all-own (lies_in d card) d all card (spaced-sound k 0 card sound) (λ instant from. refl)) in
    let part : filter in-piece all ≡ in_order (annotations_of piece) =
    filter-order in-piece given
    ∙ one-order (annotations_of piece) (filter in-piece given) is.happened in
    let own-piece : All (Own d all) (by_onset piece) =
    subst (λ l. All (Own d all) (all_assigned l piece)) part
    (all-own (lies_in d piece) d all piece (spaced-sound k 0 piece sound-piece)
    (λ instant from. refl)) in
    all-in d all (by_onset card) card (by_onset piece) piece (stay-alike k card sound).0 own-card
    (stay-alike k piece sound-piece).0 is.alike own-piece
