-- Two fronts of one length, and what is after them.
use Rattle.std.proofs.Common.{◌≡◌, ℕ, List, ◌++◌, length, take, drop, refl, sym, ap, ◌∙◌, take_at}
use Rattle.std.proofs.Common.{drop_at}

pub record SameFront (a b c d : List ℕ) : Type 0 where
  pub front : a ≡ c
  pub back : b ≡ d

pub same_front : (x a b c d : List ℕ) → x ≡ a ++ b → x ≡ c ++ d → length a ≡ length c →
    SameFront a b c d
same_front x a b c d p q len = record {
  front = sym (take_at a b (length c) len) ∙ ap (take (length c)) (sym p ∙ q)
      ∙ take_at c d (length c) refl;
  back = sym (drop_at a b (length c) len) ∙ ap (drop (length c)) (sym p ∙ q)
      ∙ drop_at c d (length c) refl;
}
