-- Annotations in order that are spread over data records are by onset.
use Rattle.std.proofs.Common.{◌≡◌, ℕ, suc, ◌+◌, ◌≤◌, ◌<◌, List, [], ◌∷◌, length, take, drop}
use Rattle.std.proofs.Common.{refl, sym, ap, ◌∙◌, subst, arith, inl, inr}
use Rattle.std.specs.Prelude.{Bool, true, false, cond, nat_le, nat_lt, filter}
use Rattle.std.specs.List.{prefix_len}
use Rattle.std.proofs.lemmas.Bool.{le-leb, lt-leb, lt-ltb, le-ltb, cases_lt, and_from, and_left}
use Rattle.std.proofs.lemmas.Bool.{and_right}
use Rattle.edf_tal.specs.Tal.{Annotation}
use Rattle.edf_fragment.specs.Fragment.{DataRecord}
use Rattle.edf_runs.specs.ByOnset.{is_before, is_between, assigned, each_assigned, all_assigned}
use Rattle.edf_runs.specs.Inside.Spaced.{Spaced}
use Rattle.edf_runs.specs.Inside.Spreading.{spread, RiseFrom}

abbrev ahead : ℕ → Annotation → Bool
ahead instant a = nat_lt a.onset instant

count-in : (instant : ℕ) (a : Annotation) (l : List Annotation) → a.onset < instant →
    prefix_len (ahead instant) (a ∷ l) ≡ suc (prefix_len (ahead instant) l)
count-in instant a l lt =
    ap (λ b. cond b (1 + prefix_len (ahead instant) l) 0) (lt-ltb a.onset instant lt) ∙ omega arith

count-out : (instant : ℕ) (a : Annotation) (l : List Annotation) → instant ≤ a.onset →
    prefix_len (ahead instant) (a ∷ l) ≡ 0
count-out instant a l le =
    ap (λ b. cond b (1 + prefix_len (ahead instant) l) 0) (le-ltb a.onset instant le)

rise-lower : (low lower : ℕ) (l : List Annotation) → lower ≤ low → RiseFrom low l →
    RiseFrom lower l
rise-lower low lower [] le rise = tt
rise-lower low lower (a ∷ l) le rise = (omega (arith, le, rise.0), rise.1)

filter-yes : (p : Annotation → Bool) (a : Annotation) (l : List Annotation) → p a ≡ true →
    filter p (a ∷ l) ≡ a ∷ filter p l
filter-yes p a l is = ap (λ b. cond b (a ∷ filter p l) (filter p l)) is

filter-no : (p : Annotation → Bool) (a : Annotation) (l : List Annotation) → p a ≡ false →
    filter p (a ∷ l) ≡ filter p l
filter-no p a l is = ap (λ b. cond b (a ∷ filter p l) (filter p l)) is

-- none that comes later is among those before
none-later : (low from : ℕ) (s : DataRecord) (rs : List DataRecord) (l : List Annotation) →
    s.start ≤ from → RiseFrom from l → filter (is_between low (s ∷ rs)) l ≡ []
none-later low from s rs [] le rise = refl
none-later low from s rs (a ∷ l) le rise =
    filter-no (is_between low (s ∷ rs)) a l
    (and_right (nat_le low a.onset) (nat_lt a.onset s.start)
    (le-ltb a.onset s.start (omega (arith, le, rise.0))))
    ∙ none-later low a.onset s rs l (omega (arith, le, rise.0)) rise.1

-- those before the next data record
front : (low : ℕ) (s : DataRecord) (rs : List DataRecord) (l : List Annotation) →
    RiseFrom low l → filter (is_between low (s ∷ rs)) l ≡ take (prefix_len (ahead s.start) l) l
front low s rs [] rise = refl
front low s rs (a ∷ l) rise = elim (cases_lt a.onset s.start) [
  | inl lt ↦
      filter-yes (is_between low (s ∷ rs)) a l
      (and_from (nat_le low a.onset) (nat_lt a.onset s.start) (le-leb low a.onset rise.0)
      (lt-ltb a.onset s.start lt))
      ∙ ap (λ (x : List Annotation). a ∷ x) (front low s rs l
      (rise-lower a.onset low l rise.0 rise.1))
      ∙ ap (λ n. take n (a ∷ l)) (sym (count-in s.start a l lt))
  | inr le ↦
      filter-no (is_between low (s ∷ rs)) a l
      (and_right (nat_le low a.onset) (nat_lt a.onset s.start) (le-ltb a.onset s.start le))
      ∙ none-later low a.onset s rs l le rise.1
      ∙ ap (λ n. take n (a ∷ l)) (sym (count-out s.start a l le))
]

-- all of them, where none follows
whole : (low : ℕ) (l : List Annotation) → RiseFrom low l →
    filter (is_between low []) l ≡ take (length l) l
whole low [] rise = refl
whole low (a ∷ l) rise =
    filter-yes (is_between low []) a l (and_from (nat_le low a.onset) true
    (le-leb low a.onset rise.0) refl)
    ∙ ap (λ (x : List Annotation). a ∷ x) (whole low l (rise-lower a.onset low l rise.0 rise.1))

-- those that are left rise from the next start on
rest-rises : (low instant : ℕ) (l : List Annotation) → RiseFrom low l →
    RiseFrom instant (drop (prefix_len (ahead instant) l) l)
rest-rises low instant [] rise = tt
rest-rises low instant (a ∷ l) rise = elim (cases_lt a.onset instant) [
  | inl lt ↦ subst (λ n. RiseFrom instant (drop n (a ∷ l))) (sym (count-in instant a l lt))
      (rest-rises a.onset instant l rise.1)
  | inr le ↦ subst (λ n. RiseFrom instant (drop n (a ∷ l))) (sym (count-out instant a l le))
      (le, rise.1)
]

-- those before a start are none of a later data record
later-same : (instant low : ℕ) (following : List DataRecord) (l : List Annotation) →
    instant ≤ low → filter (is_between low following) (drop (prefix_len (ahead instant) l) l)
    ≡ filter (is_between low following) l
later-same instant low following [] le = refl
later-same instant low following (a ∷ l) le = elim (cases_lt a.onset instant) [
  | inl lt ↦
      ap (λ n. filter (is_between low following) (drop n (a ∷ l))) (count-in instant a l lt)
      ∙ later-same instant low following l le
      ∙ sym (filter-no (is_between low following) a l
      (and_left (nat_le low a.onset) (is_before following a.onset)
      (lt-leb low a.onset (omega (arith, lt, le)))))
  | inr ge ↦
      ap (λ n. filter (is_between low following) (drop n (a ∷ l))) (count-out instant a l ge)
]

each-same : (d instant low : ℕ) (rs : List DataRecord) (l : List Annotation) → instant ≤ low →
    Spaced d low rs →
    each_assigned (drop (prefix_len (ahead instant) l) l) rs ≡ each_assigned l rs
each-same d instant low [] l le spaced = refl
each-same d instant low (r ∷ rs) l le spaced =
    ap (λ (x : List Annotation). record { start = r.start; samples = r.samples; annotations = x }
    ∷ each_assigned (drop (prefix_len (ahead instant) l) l) rs)
    (later-same instant r.start rs l (omega (arith, le, spaced.0)))
    ∙ ap (λ (x : List DataRecord). assigned l r.start r rs ∷ x)
    (each-same d instant (r.start + d) rs l (omega (arith, le, spaced.0)) spaced.1)

spread-from : (d low : ℕ) (r : DataRecord) (rs : List DataRecord) (l : List Annotation) →
    RiseFrom low l → Spaced d (r.start + d) rs →
    spread l (r ∷ rs) ≡ assigned l low r rs ∷ each_assigned l rs
spread-from d low r [] l rise spaced =
    ap (λ (x : List Annotation). record { start = r.start; samples = r.samples; annotations = x }
    ∷ []) (sym (whole low l rise))
spread-from d low r (s ∷ ss) l rise spaced =
    let n = prefix_len (ahead s.start) l in
    ap (λ (x : List Annotation). record { start = r.start; samples = r.samples; annotations = x }
    ∷ spread (drop n l) (s ∷ ss)) (sym (front low s ss l rise))
    ∙ ap (λ (x : List DataRecord). assigned l low r (s ∷ ss) ∷ x)
    (spread-from d s.start s ss (drop n l) (rest-rises low s.start l rise) spaced.1
    ∙ each-same d s.start s.start (s ∷ ss) l (omega arith) (omega arith, spaced.1))

pub spread-by-onset : (d : ℕ) (records : List DataRecord) (l : List Annotation) →
    RiseFrom 0 l → Spaced d 0 records → spread l records ≡ all_assigned l records
spread-by-onset d [] l rise spaced = refl
spread-by-onset d (r ∷ rs) l rise spaced = spread-from d 0 r rs l rise spaced.1
