-- The first clash is there wherever records clash, and the counts are named where none do.
use Rattle.std.proofs.Common.{◌≡◌, ℕ, ◌+◌, ◌≤◌, true, List, [], ◌∷◌, Contains, Option, Some}
use Rattle.std.proofs.Common.{None, refl, sym, ap, subst, ◌∙◌, inl, inr, arith, find}
use Rattle.std.proofs.lemmas.Bool.{cond-true, cond-false, cases_Bool, both_ways, false_from_ne_true}
use Rattle.edf_field.specs.Number.{duration_of}
use Rattle.edf_fragment.specs.Fragment.{DataRecord}
use Rattle.edf_holdings.specs.Clash.{Clash, clashes}
use Rattle.edf_holdings.specs.Rising.{StartsAreSpaced, IsRising}
use Rattle.edf_holdings.specs.Reply.{clash_or, first_clash}
use Rattle.edf_holdings.specs.Meaning.{IsFirstClash, FirstClashExists, RepliesNameTheCounts}
use Rattle.edf_holdings.specs.Meaning.{NewRecordsAreCounted}
use Rattle.edf_holdings.proofs.Same.{Clash-from_test, test_from_Clash}
use Rattle.edf_holdings.proofs.Members.{In, AreFree, in_rest, length_joined}
use Rattle.edf_holdings.proofs.Joining.{IsGood-from_sound, In-from_Contains, Contains-from_In}
use Rattle.edf_holdings.proofs.Joining.{lasting, apart-sound}
use Rattle.edf_holdings.proofs.Replies.{find_none, AreFree-from_first, no_first, counts-named}

-- what is found clashes, and is the earliest that does
record IsEarliest (d : ℕ) (r s : DataRecord) (xs : List DataRecord) : Type 0 where
  held : In s xs
  clash : clashes d r s ≡ true
  earliest : (x : DataRecord) → In x xs → clashes d r x ≡ true → s.start ≤ x.start

find_some : (d low : ℕ) (r s : DataRecord) (xs : List DataRecord) → StartsAreSpaced 1 low xs →
    find (clashes d r) xs ≡ Some s → IsEarliest d r s xs
find_some d low r s [] a e = cc e
find_some d low r s (y ∷ ys) a e =
    elim (cases_Bool (clashes d r y)) [
      | inl t ↦
          let p : y ≡ s = cc (sym (cond-true (clashes d r y) (Some y) (find (clashes d r) ys) t)
          ∙ e) in
          subst (λ (u : DataRecord). IsEarliest d r u (y ∷ ys)) p (record {
            held = inl refl;
            clash = t;
            earliest = λ x m _. elim m [
              | inl q ↦ omega (arith, ap (λ (u : DataRecord). u.start) q)
              | inr n ↦ omega (arith, in_rest 1 low y x ys a n)
            ];
          })
      | inr t ↦
          let i : IsEarliest d r s ys =
          find_some d (y.start + 1) r s ys a.1
          (sym (cond-false (clashes d r y) (Some y) (find (clashes d r) ys) t) ∙ e) in
          record {
            held = inr i.held;
            clash = i.clash;
            earliest = λ x m c. elim m [
              | inl q ↦
                  absurd (both_ways _ t (subst (λ (u : DataRecord). clashes d r u ≡ true) (sym q)
                  c))
              | inr n ↦ i.earliest x n c
            ];
          }
    ]

first_some : (d : ℕ) (xs rs : List DataRecord) (p : DataRecord × DataRecord) → IsRising xs →
    first_clash d xs rs ≡ Some p → IsFirstClash d xs rs p.0 p.1
first_some d xs [] p a e = cc e
first_some d xs (r ∷ rs) p a e = go (find (clashes d r) xs) refl (first_some d xs rs p a)
  where
    go : (o : Option DataRecord) → find (clashes d r) xs ≡ o →
        (first_clash d xs rs ≡ Some p → IsFirstClash d xs rs p.0 p.1) →
        IsFirstClash d xs (r ∷ rs) p.0 p.1
    go None f more =
        let i : IsFirstClash d xs rs p.0 p.1 =
        more (sym (ap (λ (o : Option DataRecord). clash_or r o (first_clash d xs rs)) f) ∙ e) in
        record {
          before = r ∷ i.before;
          later = i.later;
          splits = ap (λ l. r ∷ l) i.splits;
          none_before = λ q x m n c. elim (In-from_Contains (r ∷ i.before) q m) [
            | inl u ↦ both_ways _ (find_none d r xs f x (In-from_Contains xs x n))
                (test_from_Clash d r x (subst (λ (z : DataRecord). Clash d z x) (sym u) c))
            | inr u ↦ i.none_before q x (Contains-from_In i.before q u) n c
          ];
          held = i.held;
          clash = i.clash;
          earliest = i.earliest;
        }
    go (Some s) f more =
        let same : Some (r, s) ≡ Some p =
        sym (ap (λ (o : Option DataRecord). clash_or r o (first_clash d xs rs)) f) ∙ e in
        let pair : (r, s) ≡ p = cc same in
        let i : IsEarliest d r s xs = find_some d 0 r s xs a f in
        subst (λ (z : DataRecord × DataRecord). IsFirstClash d xs (r ∷ rs) z.0 z.1) pair (record {
          before = [];
          later = rs;
          splits = refl;
          none_before = λ q x m n c. In-from_Contains [] q m;
          held = Contains-from_In xs s i.held;
          clash = Clash-from_test d r s i.clash;
          earliest = λ x n c. i.earliest x (In-from_Contains xs x n) (test_from_Clash d r x c);
        })

pub clash_is_there : FirstClashExists
clash_is_there cap h key records r s sound m n c =
    go (first_clash (duration_of key.duration) (h key) records) refl
  where
    go : (o : Option (DataRecord × DataRecord)) →
        first_clash (duration_of key.duration) (h key) records ≡ o
        → (q : DataRecord) × (x : DataRecord)
        × IsFirstClash (duration_of key.duration) (h key) records q x
    go None e = absurd (both_ways _
        (AreFree-from_first (duration_of key.duration) (h key) records e r s
        (In-from_Contains records r m) (In-from_Contains (h key) s n))
        (test_from_Clash (duration_of key.duration) r s c))
    go (Some p) e = (
      p.0,
      p.1,
      first_some (duration_of key.duration) (h key) records p
          (sound.rising key) e,
    )

free_of_clashes : (d : ℕ) (xs rs : List DataRecord) →
    ((r s : DataRecord) → Contains rs r → Contains xs s → ¬ Clash d r s) → AreFree d xs rs
free_of_clashes d xs rs n r s m k =
    false_from_ne_true _ (λ t. n r s (Contains-from_In rs r m) (Contains-from_In xs s k)
    (Clash-from_test d r s t))

pub counts_are_named : RepliesNameTheCounts
counts_are_named cap h key records clear = counts-named cap h key records
    (no_first (duration_of key.duration) (h key) records
    (free_of_clashes (duration_of key.duration) (h key) records clear))

pub new_is_counted : NewRecordsAreCounted
new_is_counted cap h key records s w n =
    length_joined (duration_of key.duration) 0 0 (h key) records (lasting key w.0)
    (apart-sound key 0 records w.1) ((IsGood-from_sound cap h s).apart key)
    (free_of_clashes (duration_of key.duration) (h key) records n)
