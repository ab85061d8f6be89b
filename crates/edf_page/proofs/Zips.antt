-- Lists that go with one another.
use Rattle.std.proofs.Common.{List, [], ◌∷◌, ◌++◌, map}
use Rattle.std.specs.List.{AllZip}

-- what goes with another by what stands between them
pub zip_through : {A B C D : Type 0} (P : A → B → Type 0) (Q : C → D → Type 0)
    (R : A → D → Type 0) (f : C → B) →
    ((x : A) (y : C) (z : D) → P x (f y) → Q y z → R x z) → (xs : List A) (ys : List C)
    (zs : List D) → AllZip P xs (map f ys) → AllZip Q ys zs → AllZip R xs zs
zip_through P Q R f step [] [] [] p q = tt
zip_through P Q R f step [] [] (z ∷ zs) p q = absurd q
zip_through P Q R f step [] (y ∷ ys) zs p q = absurd p
zip_through P Q R f step (x ∷ xs) [] zs p q = absurd p
zip_through P Q R f step (x ∷ xs) (y ∷ ys) [] p q = absurd q
zip_through P Q R f step (x ∷ xs) (y ∷ ys) (z ∷ zs) p q =
    (step x y z p.0 q.0, zip_through P Q R f step xs ys zs p.1 q.1)

-- lists that go together, one after another
pub zip_append : {A B : Type 0} (P : A → B → Type 0) (xs xs' : List A) (ys ys' : List B) →
    AllZip P xs ys → AllZip P xs' ys' → AllZip P (xs ++ xs') (ys ++ ys')
zip_append P [] xs' [] ys' p q = q
zip_append P [] xs' (y ∷ ys) ys' p q = absurd p
zip_append P (x ∷ xs) xs' [] ys' p q = absurd p
zip_append P (x ∷ xs) xs' (y ∷ ys) ys' p q = (p.0, zip_append P xs xs' ys ys' p.1 q)
