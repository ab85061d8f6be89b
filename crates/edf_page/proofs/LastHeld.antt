-- What whole files of a name held, where others are begun, ended or removed.
use Rattle.std.proofs.Common.{◌≡◌, ℕ, zero, suc, ◌<◌, List, [], ◌∷◌, ◌++◌, length, set, get_or}
use Rattle.std.proofs.Common.{refl, sym}
use Rattle.std.proofs.Common.{Bool, true, false, ◌&&◌, if◌then◌else◌, Option, ap, ◌∙◌, arith}
use Rattle.std.specs.Prelude.{bytes_eq}
use Rattle.edf_cli.specs.Made.{MadeFile, begun, removed}
use Rattle.edf_page.specs.InsideFolder.{last_held}

-- one that is not whole adds nothing
half : (whole eq : Bool) (bytes other : Option (List ℕ)) → whole ≡ false →
    (if whole && eq then bytes else other) ≡ other
half true eq bytes other is = absurd (cc)
half false eq bytes other is = refl

pub held-last : (files : List MadeFile) (f : MadeFile) (name : List ℕ) (other : Option (List ℕ)) →
    last_held (files ++ f ∷ []) name other
    ≡ (if f.whole && bytes_eq f.name name then f.bytes else last_held files name other)
held-last [] f name other = refl
held-last (x ∷ files) f name other = held-last files f name _

pub held-removed : (front later : List MadeFile) (f : MadeFile) (name : List ℕ)
    (other : Option (List ℕ)) → last_held (front ++ (removed f ∷ later)) name other
    ≡ last_held (front ++ (f ∷ later)) name other
held-removed [] later f name other = refl
held-removed (x ∷ front) later f name other = held-removed front later f name _

-- one takes the place of another, and neither is whole
pub held-set : (files : List MadeFile) (k : ℕ) (old new : MadeFile) → k < length files →
    old ≡ get_or files k old → old.whole ≡ false → new.whole ≡ false →
    (name : List ℕ) (other : Option (List ℕ)) →
    last_held (set files k new) name other ≡ last_held files name other
held-set [] k old new lt is one two name other = absurd (omega (arith, lt))
held-set (f ∷ files) zero old new lt is one two name other =
    ap (last_held files name) (half new.whole (bytes_eq new.name name) new.bytes other two
    ∙ sym (half f.whole (bytes_eq f.name name) f.bytes other
    (sym (ap (λ (x : MadeFile). x.whole) is) ∙ one)))
held-set (f ∷ files) (suc k) old new lt is one two name other =
    held-set files k old new (omega (arith, lt)) is one two name _

pub held-begun : (files files' : List MadeFile) (begins : List ℕ) →
    files' ≡ files ++ (begun begins ∷ []) → (name : List ℕ) (other : Option (List ℕ)) →
    last_held files' name other ≡ last_held files name other
held-begun files files' begins grown name other =
    ap (λ (l : List MadeFile). last_held l name other) grown ∙ held-last files (begun begins) name
    other
