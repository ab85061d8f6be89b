-- The order of annotations: by onset, then by duration, none first, then by the bytes of the text.
use Rattle.std.specs.Prelude.{◌≡◌, List, [], ◌∷◌, IsSorted, IsPermutation, if◌then◌else◌}
use Rattle.std.specs.declared.cmp.Ordering.{Ordering}
use Rattle.std.specs.Ordering.{nat_cmp, ordering_then, is_le}
use Rattle.std.specs.Option.{option_cmp}
use Rattle.std.specs.Cmp.Lexicographic.{slice_cmp}
use Rattle.edf_tal.specs.Tal.{Annotation}

-- how two annotations compare; they are equal just where they are one and the same
abbrev pub annotation_cmp : Annotation → Annotation → Ordering
annotation_cmp a b = ordering_then (nat_cmp a.onset b.onset)
    (ordering_then (option_cmp nat_cmp a.duration b.duration) (slice_cmp nat_cmp a.text b.text))

-- none of them comes before the one in front of it
abbrev pub AreInOrder : List Annotation → Type 0
AreInOrder all = IsSorted annotation_cmp all

-- an annotation among others in order: in front of the first that doesn't come before it
abbrev pub put_in_order : Annotation → List Annotation → List Annotation
put_in_order a [] = a ∷ []
put_in_order a (b ∷ bs) = if is_le (annotation_cmp a b) then a ∷ b ∷ bs else b ∷ put_in_order a bs

-- the same annotations in order
abbrev pub in_order : List Annotation → List Annotation
in_order [] = []
in_order (a ∷ others) = put_in_order a (in_order others)

-- that is a list of the same annotations, each as often, in order, and the only one
abbrev pub HaveOneOrder : Type 0
HaveOneOrder = (all : List Annotation) → IsPermutation all (in_order all)
    × AreInOrder (in_order all)
    × ((others : List Annotation) → IsPermutation all others → AreInOrder others →
    others ≡ in_order all)
