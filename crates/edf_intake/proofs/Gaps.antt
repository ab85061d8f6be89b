-- A gap: nothing is near a data record that lies in it, and what is left of it after one that was
-- added.
use Rattle.std.proofs.Common.{◌≡◌, ℕ, ◌+◌, ◌<◌, ◌≤◌, ◌⊎◌, false, cond, nat_lt, List, [], ◌∷◌}
use Rattle.std.proofs.Common.{Option, Some, None, IfSome, IsSomeAnd, All, refl, sym, subst, ◌∙◌}
use Rattle.std.proofs.Common.{inl, inr, arith}
use Rattle.std.proofs.lemmas.Bool.{cond_both, cond-false, and_left, and_right, le-ltb}
use Rattle.std.proofs.lemmas.List.Elements.{All-cons, All-head, All-tail, All-weaker}
use Rattle.edf_header.specs.Key.{Key}
use Rattle.edf_fragment.specs.Fragment.{DataRecord}
use Rattle.edf_holdings.specs.Same.{same_record}
use Rattle.edf_holdings.specs.Clash.{intervals_overlap, overlapping}
use Rattle.edf_holdings.specs.Rising.{insert}
use Rattle.edf_holdings.specs.Holdings.{Holdings, with_records}
use Rattle.edf_holdings.proofs.Joining.{put_here}
use Rattle.edf_store.specs.Transaction.{IsNextStart}
use Rattle.edf_intake.specs.Inside.Gap.{IsOutside, IsGap}
use Rattle.edf_intake.specs.declared.gap.Gap.{Gap}

misses : (d start from : ℕ) (until : Option ℕ) (x : DataRecord) → from + d ≤ start →
    IfSome until (λ u. start + d ≤ u)
    → (x.start ≤ from) ⊎ IsSomeAnd until (λ u. u ≤ x.start) → intervals_overlap d start x ≡ false
misses d start from until x late early (inl before) =
    and_left (nat_lt start (x.start + d)) (nat_lt x.start (start + d))
    (le-ltb start (x.start + d) (omega (arith, late, before)))
misses d start from None x late early (inr later) = absurd later
misses d start from (Some u) x late early (inr later) =
    and_right (nat_lt start (x.start + d)) (nat_lt x.start (start + d))
    (le-ltb x.start (start + d) (omega (arith, early, later)))

pub none_near : (d start : ℕ) (gap : Gap) (records : List DataRecord) → gap.from + d ≤ start →
    IfSome gap.until (λ u. start + d ≤ u) → IsGap records gap → overlapping d start records ≡ []
none_near d start gap [] late early all = refl
none_near d start gap (x ∷ xs) late early all =
    let out = λ (r : DataRecord). IsOutside gap r.start in
    cond-false (intervals_overlap d start x) (x ∷ overlapping d start xs) (overlapping d start xs)
    (misses d start gap.from gap.until x late early (All-head out x xs all))
    ∙ none_near d start gap xs late early (All-tail out x xs all)

-- up to the next start there is a gap
pub next_gap : (start : ℕ) (records : List DataRecord) (until : Option ℕ) →
    IsNextStart start records until → IsGap records (record { from = start; until = until })
next_gap start records None before =
    let gap : Gap = record { from = start; until = None } in
    All-weaker (λ (r : DataRecord). r.start < start) (λ (r : DataRecord). IsOutside gap r.start)
    (λ r l. inl (omega (arith, l))) records before
next_gap start records (Some u) (later, there, all) =
    let gap : Gap = record { from = start; until = Some u } in
    All-weaker (λ (r : DataRecord). (r.start < start)
    ⊎ (u ≤ r.start)) (λ (r : DataRecord). IsOutside gap r.start)
    (λ r out. elim out [ inl l ↦ inl (omega (arith, l)) | inr after ↦ inr after ]) records all

-- a record put in
inserted_all : (P : DataRecord → Type 0) (r : DataRecord) (xs : List DataRecord) → P r → All P xs →
    All P (insert r xs)
inserted_all P r [] it all = All-cons P r [] it all
inserted_all P r (x ∷ xs) it all = cond_both (same_record x r) (x ∷ xs)
    (cond (nat_lt r.start x.start) (r ∷ x ∷ xs) (x ∷ insert r xs)) (λ (l : List DataRecord).
    All P l)
    (λ _. all)
    (λ _. cond_both (nat_lt r.start x.start) (r ∷ x ∷ xs) (x ∷ insert r xs)
    (λ (l : List DataRecord). All P l)
    (λ _. All-cons P r (x ∷ xs) it all)
    (λ _. All-cons P x (insert r xs) (All-head P x xs all)
    (inserted_all P r xs it (All-tail P x xs all))))

pub put_gap : (key : Key) (r : DataRecord) (h : Holdings) (gap : Option Gap) →
    IfSome gap (λ it. it.from ≡ r.start) → IfSome gap (IsGap (h key)) →
    IfSome gap (IsGap (with_records key (r ∷ []) h key))
put_gap key r h None is all = tt
put_gap key r h (Some gap) is all =
    subst (λ (l : List DataRecord). IsGap l gap) (sym (put_here key (r ∷ []) h))
    (inserted_all (λ (x : DataRecord). IsOutside gap x.start) r (h key)
    (inl (omega (arith, is))) all)
