-- Subfields: a date, and parts that are joined.
use Rattle.std.proofs.Common.{◌≡◌, ℕ, List, [], ◌∷◌, ◌++◌, sym, ap, ◌∙◌, subst, append_assoc}
use Rattle.std.proofs.Common.{append-nil}
use Rattle.edf_mend.specs.Texts.{joined_by}
use Rattle.edf_mend.specs.Identification.{AreDated}

-- ---- a date

pub one-dated : (parts : List (List ℕ)) (a : List ℕ) (rest : List (List ℕ)) → parts ≡ a ∷ rest →
    rest ≡ [] → ¬ AreDated parts
one-dated parts a rest is none dated =
    subst AreDated (is ∙ ap (λ (l : List (List ℕ)). a ∷ l) none) dated

-- ---- joined

pub join-more : (b : ℕ) (joined part new all : List ℕ) (left rest : List (List ℕ)) →
    joined ++ joined_by b left ≡ all → left ≡ part ∷ rest → new ≡ joined ++ (b ∷ part) →
    new ++ joined_by b rest ≡ all
join-more b joined part new all left rest so is put =
    ap (λ (l : List ℕ). l ++ joined_by b rest) put
    ∙ append_assoc joined (b ∷ part) (joined_by b rest)
    ∙ sym (ap (λ (l : List (List ℕ)). joined ++ joined_by b l) is) ∙ so

pub join-last : (b : ℕ) (joined all : List ℕ) (left : List (List ℕ)) →
    joined ++ joined_by b left ≡ all → left ≡ [] → joined ≡ all
join-last b joined all left so none =
    sym (append-nil joined) ∙ sym (ap (λ (l : List (List ℕ)). joined ++ joined_by b l) none) ∙ so

-- one part more is the same
pub one-more : (all done left : List (List ℕ)) (one : List ℕ) (more : List (List ℕ)) →
    all ≡ done ++ left → left ≡ one ∷ more → all ≡ (done ++ one ∷ []) ++ more
one-more all done left one more x y = x ∙ ap (λ (l : List (List ℕ)). done ++ l) y
    ∙ sym (append_assoc done (one ∷ []) more)
