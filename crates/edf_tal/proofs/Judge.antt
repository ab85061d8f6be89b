-- The first fault of the blocks of a data record; and that they have one answer, and one at least:
-- a start and a list, or a fault.
use Rattle.std.proofs.Common.{◌≡◌, ℕ, ◌+◌, ◌-◌, ◌≤◌, ◌<◌, ◌⊎◌, List, [], ◌∷◌, ◌++◌, length}
use Rattle.std.proofs.Common.{arith, refl, sym, ap, ◌∙◌, subst, append_assoc, inl, inr}
use Rattle.std.specs.Prelude.{IsTrue}
use Rattle.std.specs.List.{AllByRecursion, flat_map}
use Rattle.std.proofs.lemmas.Bool.{cases_lt}
use Rattle.edf_tal.specs.Tal.{Tal, Annotation, AreTalsAndZeros, AreTalBlocks, first_block_tals}
use Rattle.edf_tal.specs.Tal.{all_tals, HaveUtf8Texts, HasTimeKeepingTal, IsTalInWindow, instant}
use Rattle.edf_tal.specs.Tal.{tal_annotations, annotations, record_start}
use Rattle.edf_tal.specs.Block.{BlocksParseTo, BlockParsesTo, IsWithinLimits, StartFitsPlace}
use Rattle.edf_tal.specs.Condition.{AreMalformedAt, HaveNonUtf8TextAt}
use Rattle.edf_tal.specs.Block.{BlocksHaveFault, BlocksHaveFirstFault, BlockHasFirstFault}
use Rattle.edf_tal.specs.Block.{tal_fault_number}
use Rattle.edf_tal.specs.Inside.Scan.{NoTal, IsLeadingTal, StartsInFirstSecond, StartsInOrder}
use Rattle.edf_tal.specs.Inside.Blocks.{HaveSums, HasForm, IsChecked}
use Rattle.edf_tal.specs.declared.blocks.Sums.{Sums}
use Rattle.edf_tal.specs.declared.blocks.Form.{Form}
use Rattle.edf_tal.specs.declared.blocks.Form.TheVariants.{Good, BadText}
use Rattle.edf_tal.specs.declared.limits.TheConstants.{MOST_ANNOTATIONS, MOST_TEXT_BYTES}
use Rattle.edf_tal.specs.declared.place.Place.{Place}
use Rattle.edf_tal.specs.declared.place.Place.TheVariants.{First, After, Any}
use Rattle.edf_tal.specs.declared.place.TalFault.{TalFault}
use Rattle.edf_tal.specs.declared.place.TalFault.TheVariants.{Tal as NotTals, Text, NotTimed}
use Rattle.edf_tal.specs.declared.place.TalFault.TheVariants.{FirstOnset, Window, Order, TooMany}
use Rattle.edf_tal.specs.declared.place.TalFault.TheVariants.{Memory}
use Rattle.edf_tal.proofs.OneBlock.{one-lists}
use Rattle.edf_tal.proofs.Joined.{not-broken, not-bad, one-broken, one-bad-place}
use Rattle.edf_tal.proofs.Totals.{text_bytes}
use Rattle.edf_tal.proofs.Decide.{front}
use Rattle.edf_tal.proofs.AtLeast.{forms, keeps-second, keeps-order, true-or-not, few-or-not}
use Rattle.edf_tal.proofs.AtLeast.{empty-or-not}
use Rattle.edf_tal.proofs.FirstTal.{Known, Dropped, IsEmptyFirst, known, timed, untimed}
use Rattle.edf_tal.proofs.FirstTal.{dropped-first}

-- a fault on the TALs of blocks is a fault on those TALs
on-tals : (P : List (List Tal) → Type 0) (bs : List (List ℕ)) (ts us : List (List Tal)) →
    AreTalBlocks bs ts → AreTalBlocks bs us → P ts → ¬ P us → ⊥
on-tals P bs ts us p q h fails = fails (rw (one-lists bs us ts q p) h)

lowest : (e : TalFault) → tal_fault_number e < 22 → ⊥
lowest (NotTals offset) h = omega arith
lowest e h = omega arith

pub fault-tal : (bs : List (List ℕ)) (s : ℕ) (p : Place) (at : ℕ) → AreMalformedAt bs at →
    BlocksHaveFirstFault bs s p (NotTals at)
fault-tal bs s p at broken = record {
  holds = broken;
  first = λ other low. absurd (lowest other low);
}

-- what comes before a fault of number n
pub record IsClear (bs : List (List ℕ)) (s : ℕ) (p : Place) (n : ℕ) (tss : List (List Tal)) : Type 0
  where
    pub known : n ≤ 28
    pub lists : 22 < n → AreTalBlocks bs tss
    pub good : 23 < n → HaveUtf8Texts (all_tals tss)
    pub timed : 24 < n → HasTimeKeepingTal (first_block_tals tss)
    pub second : 25 < n → (p ≡ First → StartFitsPlace First s (first_block_tals tss))
    pub window : 26 < n → AllByRecursion (IsTalInWindow s) (all_tals tss)
    pub order : 27 < n → StartsInOrder p (record_start s (first_block_tals tss))

clear : (bs : List (List ℕ)) (s : ℕ) (p : Place) (n : ℕ) (tss : List (List Tal)) →
    IsClear bs s p n tss → (e : TalFault) → tal_fault_number e < n → ¬ BlocksHaveFault bs s p e
clear bs s p n tss h (NotTals at) low f = not-broken bs tss at (h.lists low) f
clear bs s p n tss h (Text at) low f = not-bad bs tss at (h.lists (omega arith)) (h.good low) f.1
clear bs s p n tss h NotTimed low (us, w, fails) =
    on-tals (λ (ts : List (List Tal)). HasTimeKeepingTal (first_block_tals ts)) bs tss us
    (h.lists (omega arith)) w (h.timed low) fails
clear bs s First n tss h FirstOnset low (us, w, fails) =
    on-tals (λ (ts : List (List Tal)). StartFitsPlace First s (first_block_tals ts)) bs tss us
    (h.lists (omega arith)) w (h.second low refl) fails
clear bs s (After before duration) n tss h FirstOnset low f = f
clear bs s Any n tss h FirstOnset low f = f
clear bs s p n tss h Window low (us, w, fails) =
    on-tals (λ (ts : List (List Tal)). AllByRecursion (IsTalInWindow s) (all_tals ts)) bs tss us
    (h.lists (omega arith)) w (h.window low) fails
clear bs s First n tss h Order low f = f
clear bs s (After before duration) n tss h Order low (us, w, fails) =
    on-tals (λ (ts : List (List Tal)). StartFitsPlace (After before duration) s
    (first_block_tals ts)) bs tss us (h.lists (omega arith)) w (h.order low) fails
clear bs s Any n tss h Order low f = f
clear bs s p n tss h TooMany low f = let k = h.known in absurd (omega arith)
clear bs s p n tss h Memory low f = let k = h.known in absurd (omega arith)

pub fault-text : (bs : List (List ℕ)) (s : ℕ) (p : Place) (at : ℕ) →
    ((tss : List (List Tal)) × AreTalBlocks bs tss) → HaveNonUtf8TextAt bs at →
    BlocksHaveFirstFault bs s p (Text at)
fault-text bs s p at (tss, lists) bad = record {
  holds = ((tss, lists), bad);
  first = clear bs s p 23 tss (record {
    known = omega arith;
    lists = λ h. lists;
    good = λ h. absurd (omega arith);
    timed = λ h. absurd (omega arith);
    second = λ h. absurd (omega arith);
    window = λ h. absurd (omega arith);
    order = λ h. absurd (omega arith);
  });
}

-- blocks of TALs with good texts, which are not timed
fault-lists : (bs : List (List ℕ)) (s : ℕ) (p : Place) (tss : List (List Tal)) →
    AreTalBlocks bs tss → HaveUtf8Texts (all_tals tss) → ¬ HasTimeKeepingTal (first_block_tals tss)
    → BlocksHaveFirstFault bs s p NotTimed
fault-lists bs s p tss lists good fails = record {
  holds = (tss, lists, fails);
  first = clear bs s p 24 tss (record {
    known = omega arith;
    lists = λ h. lists;
    good = λ h. good;
    timed = λ h. absurd (omega arith);
    second = λ h. absurd (omega arith);
    window = λ h. absurd (omega arith);
    order = λ h. absurd (omega arith);
  });
}

-- there is no TAL in the first block
not-timed : (b : List ℕ) (ts : List Tal) → AreTalsAndZeros b ts → NoTal b → ¬ HasTimeKeepingTal ts
not-timed b [] a none h = h
not-timed b (t ∷ ts) (front, zeros, parts, (f, r, same, is, more), are) none h =
    none f (r ++ zeros) t (parts ∙ ap (λ (x : List ℕ). x ++ zeros) same ∙ append_assoc f r zeros) is

pub fault-none : (b : List ℕ) (later : List (List ℕ)) (s : ℕ) (p : Place) (sums : Sums) →
    HaveSums (b ∷ later) s sums → NoTal b → BlocksHaveFirstFault (b ∷ later) s p NotTimed
fault-none b later s p sums v none =
    fault-lists (b ∷ later) s p v.tals v.lists v.good (untimed v.tals v.lists)
  where
    untimed : (tss : List (List Tal)) → AreTalBlocks (b ∷ later) tss →
        ¬ HasTimeKeepingTal (first_block_tals tss)
    untimed [] l = absurd l
    untimed (ts ∷ tss) l = not-timed b ts l.0 none

pub fault-empty : (s : ℕ) (p : Place) → BlocksHaveFirstFault [] s p NotTimed
fault-empty s p = fault-lists [] s p [] tt tt (λ h. h)

pub keeps-place : (p : Place) (s : ℕ) (t : Tal) (ts : List Tal) → StartsInFirstSecond p t.onset →
    StartsInOrder p (instant s t.onset) → StartFitsPlace p s (t ∷ ts)
keeps-place First s t ts second order = second
keeps-place (After before duration) s t ts second order = order
keeps-place Any s t ts second order = tt

-- what the first TAL of a data record says, and what its blocks come to
module _ (bs : List (List ℕ)) (s : ℕ) (p : Place) (sums : Sums) (t : Tal) (k : Known bs s sums t)
  where
    clear-known : (n : ℕ) → n ≤ 28 → (24 < n → IsEmptyFirst t) →
        (25 < n → StartsInFirstSecond p t.onset) → (26 < n → IsTrue sums.in_window) → (27 < n →
        StartsInOrder p (instant s t.onset)) → IsClear bs s p n ((t ∷ k.more) ∷ k.others)
    clear-known n low timed second window order = record {
      known = low;
      lists = λ h. k.lists;
      good = λ h. k.good;
      timed = timed;
      second = λ h is. subst (λ (q : Place). StartsInFirstSecond q t.onset) is (second h);
      window = λ h. k.window.0 (window h);
      order = order;
    }

    -- the list without its first annotation, which is empty
    first-dropped : IsEmptyFirst t →
        Dropped (flat_map (tal_annotations s) (all_tals ((t ∷ k.more) ∷ k.others)))
    first-dropped (xs, e) = dropped-first s t (k.more ++ all_tals k.others) xs e

    within : IsEmptyFirst t → sums.count ≤ MOST_ANNOTATIONS + 1 →
        sums.text_bytes ≤ MOST_TEXT_BYTES →
        IsWithinLimits (annotations s (all_tals ((t ∷ k.more) ∷ k.others)))
    within empty few short =
        let d = first-dropped empty in
        let c : sums.count ≡ length (flat_map (tal_annotations s)
        (all_tals ((t ∷ k.more) ∷ k.others))) = k.count_is in
        let n : sums.text_bytes ≡ text_bytes
        (flat_map (tal_annotations s) (all_tals ((t ∷ k.more) ∷ k.others))) = k.bytes_is in
        record { count = omega (arith, d.count); bytes = omega (arith, d.bytes) }

    beyond : IsEmptyFirst t → IsWithinLimits (annotations s (all_tals ((t ∷ k.more) ∷ k.others))) →
        (sums.count ≤ MOST_ANNOTATIONS + 1) × (sums.text_bytes ≤ MOST_TEXT_BYTES)
    beyond empty w =
        let d = first-dropped empty in
        let c : sums.count ≡ length (flat_map (tal_annotations s)
        (all_tals ((t ∷ k.more) ∷ k.others))) = k.count_is in
        let n : sums.text_bytes ≡ text_bytes
        (flat_map (tal_annotations s) (all_tals ((t ∷ k.more) ∷ k.others))) = k.bytes_is in
        (omega (arith, d.count, w.count), omega (arith, d.bytes, w.bytes))

    pub some-count : IsEmptyFirst t → 1 ≤ sums.count
    some-count empty =
        let d = first-dropped empty in
        let c : sums.count ≡ length (flat_map (tal_annotations s)
        (all_tals ((t ∷ k.more) ∷ k.others))) = k.count_is in
        omega (arith, d.count)

    pub fault-untimed : (b texts more : List ℕ) → IsLeadingTal b texts more t →
        ¬ ((rest : List ℕ) × (texts ≡ 20 ∷ rest)) → BlocksHaveFirstFault bs s p NotTimed
    fault-untimed b texts more f fails =
        fault-lists bs s p ((t ∷ k.more) ∷ k.others) k.lists k.good (untimed b texts more t f fails)

    pub fault-window : IsEmptyFirst t → StartsInFirstSecond p t.onset → ¬ IsTrue sums.in_window →
        BlocksHaveFirstFault bs s p Window
    fault-window timed second fails = record {
      holds = ((t ∷ k.more) ∷ k.others, k.lists, λ w. fails (k.window.1 w));
      first = clear bs s p 26 ((t ∷ k.more) ∷ k.others)
          (clear-known 26 (omega arith) (λ h. timed) (λ h. second) (λ h. absurd (omega arith))
          (λ h. absurd (omega arith)));
    }

    pub fault-many : IsEmptyFirst t → StartsInFirstSecond p t.onset → IsTrue sums.in_window →
        StartsInOrder p (instant s t.onset) → ¬ ((sums.count ≤ MOST_ANNOTATIONS + 1) ×
        (sums.text_bytes ≤ MOST_TEXT_BYTES)) → BlocksHaveFirstFault bs s p TooMany
    fault-many timed second window order fails = record {
      holds = ((t ∷ k.more) ∷ k.others, k.lists, λ w. fails (beyond timed w));
      first = clear bs s p 28 ((t ∷ k.more) ∷ k.others)
          (clear-known 28 (omega arith) (λ h. timed) (λ h. second) (λ h. window) (λ h. order));
    }

    pub checked : (start : ℕ) → IsEmptyFirst t → StartsInFirstSecond p t.onset →
        IsTrue sums.in_window → start ≡ instant s t.onset → StartsInOrder p start
        → (sums.count ≤ MOST_ANNOTATIONS + 1) × (sums.text_bytes ≤ MOST_TEXT_BYTES) →
        IsChecked bs s p start (sums.count - 1)
    checked start empty second window start-is order limits =
        let d = first-dropped empty in
        let c : sums.count ≡ length (flat_map (tal_annotations s)
        (all_tals ((t ∷ k.more) ∷ k.others))) = k.count_is in
        record {
          list = annotations s (all_tals ((t ∷ k.more) ∷ k.others));
          read = record {
            tals = (t ∷ k.more) ∷ k.others;
            lists = k.lists;
            good = k.good;
            timed = empty;
            fits_place = keeps-place p s t k.more second (subst (StartsInOrder p) start-is order);
            window = k.window.0 window;
            limits = within empty limits.0 limits.1;
            start_is = start-is;
            list_is = refl;
          };
          count_is = omega (arith, d.count);
        }

pub fault-second : (bs : List (List ℕ)) (s : ℕ) (p : Place) (sums : Sums) (t : Tal) →
    Known bs s sums t → IsEmptyFirst t → ¬ StartsInFirstSecond p t.onset
    → BlocksHaveFirstFault bs s p FirstOnset
fault-second bs s First sums t k timed fails = record {
  holds = ((t ∷ k.more) ∷ k.others, k.lists, fails);
  first = clear bs s First 25 ((t ∷ k.more) ∷ k.others)
      (clear-known bs s First sums t k 25 (omega arith) (λ h. timed) (λ h. absurd (omega arith))
      (λ h. absurd (omega arith)) (λ h. absurd (omega arith)));
}
fault-second bs s (After before duration) sums t k timed fails = absurd (fails tt)
fault-second bs s Any sums t k timed fails = absurd (fails tt)

pub fault-order : (bs : List (List ℕ)) (s : ℕ) (p : Place) (sums : Sums) (t : Tal) →
    Known bs s sums t → IsEmptyFirst t → StartsInFirstSecond p t.onset → IsTrue sums.in_window
    → ¬ StartsInOrder p (instant s t.onset) → BlocksHaveFirstFault bs s p Order
fault-order bs s First sums t k timed second window fails = absurd (fails tt)
fault-order bs s (After before duration) sums t k timed second window fails = record {
  holds = ((t ∷ k.more) ∷ k.others, k.lists, fails);
  first = clear bs s (After before duration) 27 ((t ∷ k.more) ∷ k.others)
      (clear-known bs s (After before duration) sums t k 27 (omega arith) (λ h. timed) (λ h. second)
      (λ h. window) (λ h. absurd (omega arith)));
}
fault-order bs s Any sums t k timed second window fails = absurd (fails tt)

-- ---- one answer

pub record SameAnswer (m n : ℕ) (k l : List Annotation) : Type 0 where
  pub start : m ≡ n
  pub list : k ≡ l

pub blocks-one-read : (bs : List (List ℕ)) (s : ℕ) (p : Place) (m n : ℕ) (k l : List Annotation) →
    BlocksParseTo bs s p m k → BlocksParseTo bs s p n l → SameAnswer m n k l
blocks-one-read bs s p m n k l r q =
    let same = one-lists bs r.tals q.tals r.lists q.lists in
    record {
      start = r.start_is ∙ ap (λ (ts : List (List Tal)). record_start s (first_block_tals ts)) same
          ∙ sym q.start_is;
      list = r.list_is ∙ ap (λ (ts : List (List Tal)). annotations s (all_tals ts)) same
          ∙ sym q.list_is;
    }

-- blocks that are read have no fault
no-fault : (bs : List (List ℕ)) (s : ℕ) (p : Place) (m : ℕ) (l : List Annotation) (e : TalFault) →
    BlocksParseTo bs s p m l → BlocksHaveFault bs s p e → ⊥
no-fault bs s p m l (NotTals offset) r f = not-broken bs r.tals offset r.lists f
no-fault bs s p m l (Text offset) r f = not-bad bs r.tals offset r.lists r.good f.1
no-fault bs s p m l NotTimed r (us, w, fails) =
    on-tals (λ (ts : List (List Tal)). HasTimeKeepingTal (first_block_tals ts)) bs r.tals us r.lists
    w r.timed fails
no-fault bs s First m l FirstOnset r (us, w, fails) =
    on-tals (λ (ts : List (List Tal)). StartFitsPlace First s (first_block_tals ts)) bs r.tals us
    r.lists w r.fits_place fails
no-fault bs s (After before duration) m l FirstOnset r f = f
no-fault bs s Any m l FirstOnset r f = f
no-fault bs s p m l Window r (us, w, fails) =
    on-tals (λ (ts : List (List Tal)). AllByRecursion (IsTalInWindow s) (all_tals ts)) bs r.tals us
    r.lists w r.window fails
no-fault bs s First m l Order r f = f
no-fault bs s (After before duration) m l Order r (us, w, fails) =
    on-tals (λ (ts : List (List Tal)). StartFitsPlace (After before duration) s
    (first_block_tals ts)) bs r.tals us r.lists w r.fits_place fails
no-fault bs s Any m l Order r f = f
no-fault bs s p m l TooMany r (us, w, fails) =
    on-tals (λ (ts : List (List Tal)). IsWithinLimits (annotations s (all_tals ts))) bs r.tals us
    r.lists w (subst IsWithinLimits r.list_is r.limits) fails
no-fault bs s p m l Memory r f = f

pub blocks-read-no-fault : (bs : List (List ℕ)) (s : ℕ) (p : Place) (m : ℕ) (l : List Annotation)
    (e : TalFault) → BlocksParseTo bs s p m l → ¬ BlocksHaveFirstFault bs s p e
blocks-read-no-fault bs s p m l e r f = no-fault bs s p m l e r f.holds

-- faults of one number
same-number : (bs : List (List ℕ)) (s : ℕ) (p : Place) (e f : TalFault) →
    tal_fault_number e ≡ tal_fault_number f → BlocksHaveFault bs s p e → BlocksHaveFault bs s p f →
    e ≡ f
same-number bs s p (NotTals m) (NotTals n) same h g =
    ap (λ (k : ℕ). NotTals k) (one-broken bs m n h g)
same-number bs s p (Text m) (Text n) same h g =
    ap (λ (k : ℕ). Text k) (one-bad-place bs m n h.1 g.1)
same-number bs s p NotTimed NotTimed same h g = refl
same-number bs s p FirstOnset FirstOnset same h g = refl
same-number bs s p Window Window same h g = refl
same-number bs s p Order Order same h g = refl
same-number bs s p TooMany TooMany same h g = refl
same-number bs s p Memory Memory same h g = refl
same-number bs s p e f same h g = absurd (omega arith)

pub blocks-one-fault : (bs : List (List ℕ)) (s : ℕ) (p : Place) (e f : TalFault) →
    BlocksHaveFirstFault bs s p e → BlocksHaveFirstFault bs s p f → e ≡ f
blocks-one-fault bs s p e f h g =
    elim (cases_lt (tal_fault_number e) (tal_fault_number f)) [
      | inl low ↦ absurd (g.first e low h.holds)
      | inr high ↦ elim (cases_lt (tal_fault_number f) (tal_fault_number e)) [
        | inl low ↦ absurd (h.first f low g.holds)
        | inr high' ↦ same-number bs s p e f (omega arith) h.holds g.holds
      ]
    ]

-- ---- an answer

-- a start and a list, or a fault
abbrev pub HaveAnswer : List (List ℕ) → ℕ → Place → Type 0
HaveAnswer bs s p = ((start : ℕ) × (list : List Annotation) × BlocksParseTo bs s p start list)
    ⊎ ((e : TalFault) × BlocksHaveFirstFault bs s p e)

-- of TALs and zeros, the first of which is known
module _ (bs : List (List ℕ)) (s : ℕ) (p : Place) (sums : Sums) (t : Tal) (k : Known bs s sums t)
    (empty : IsEmptyFirst t) where
  by-limits : StartsInFirstSecond p t.onset → IsTrue sums.in_window →
      StartsInOrder p (instant s t.onset) → HaveAnswer bs s p
  by-limits second window order =
      elim (few-or-not sums.count sums.text_bytes) [
        | inl few ↦ let c = checked bs s p sums t k (instant s t.onset) empty second window refl
            order few in inl (instant s t.onset, c.list, c.read)
        | inr many ↦ inr (TooMany, fault-many bs s p sums t k empty second window order many)
      ]

  by-rules : HaveAnswer bs s p
  by-rules =
      elim (keeps-second p t.onset) [
        | inl second ↦ elim (true-or-not sums.in_window) [
          | inl window ↦ elim (keeps-order p (instant s t.onset)) [
            | inl order ↦ by-limits second window order
            | inr fails ↦ inr (Order, fault-order bs s p sums t k empty second window fails)
          ]
          | inr fails ↦ inr (Window, fault-window bs s p sums t k empty second fails)
        ]
        | inr fails ↦ inr (FirstOnset, fault-second bs s p sums t k empty fails)
      ]

-- of TALs and zeros
judged : (bs : List (List ℕ)) (s : ℕ) (p : Place) (sums : Sums) → HaveSums bs s sums →
    HaveAnswer bs s p
judged [] s p sums v = inr (NotTimed, fault-empty s p)
judged (b ∷ bs) s p sums v =
    elim (front b) [
      | inl f ↦
          let k = known b bs f.texts f.rest s sums f.tal v f.is_front in
          elim (empty-or-not f.texts) [
            | inl e ↦ by-rules (b ∷ bs) s p sums f.tal k (timed b f.texts f.rest f.tal f.is_front e)
            | inr never ↦ inr (
              NotTimed,
              fault-untimed (b ∷ bs) s p sums f.tal k b f.texts f.rest
                  f.is_front never,
            )
          ]
      | inr none ↦ inr (NotTimed, fault-none b bs s p sums v none)
    ]

by-form : (bs : List (List ℕ)) (s : ℕ) (p : Place) (f : Form) → HasForm bs s f → HaveAnswer bs s p
by-form bs s p (Good sums) v = judged bs s p sums v
by-form bs s p (BadText at) h = inr (Text at, fault-text bs s p at h.0 h.1)

pub blocks-some-answer : (bs : List (List ℕ)) (s : ℕ) (p : Place) → HaveAnswer bs s p
blocks-some-answer bs s p = elim (forms bs s) [
  | inl f ↦ by-form bs s p f.0 f.1
  | inr x ↦
      inr (NotTals x.0, fault-tal bs s p x.0 x.1)
]

pub blocks-no-memory : (bs : List (List ℕ)) (s : ℕ) (p : Place) →
    ¬ BlocksHaveFirstFault bs s p Memory
blocks-no-memory bs s p f = f.holds

-- ---- the same of a data record with one block

pub one-read : (b : List ℕ) (s : ℕ) (p : Place) (m n : ℕ) (k l : List Annotation) →
    BlockParsesTo b s p m k → BlockParsesTo b s p n l → SameAnswer m n k l
one-read b s p m n k l r q = blocks-one-read (b ∷ []) s p m n k l r q

pub read-no-fault : (b : List ℕ) (s : ℕ) (p : Place) (m : ℕ) (l : List Annotation) (e : TalFault) →
    BlockParsesTo b s p m l → ¬ BlockHasFirstFault b s p e
read-no-fault b s p m l e r = blocks-read-no-fault (b ∷ []) s p m l e r

pub one-fault : (b : List ℕ) (s : ℕ) (p : Place) (e f : TalFault) → BlockHasFirstFault b s p e →
    BlockHasFirstFault b s p f → e ≡ f
one-fault b s p e f h g = blocks-one-fault (b ∷ []) s p e f h g

abbrev pub HasAnswer : List ℕ → ℕ → Place → Type 0
HasAnswer b s p = ((start : ℕ) × (list : List Annotation) × BlockParsesTo b s p start list)
    ⊎ ((e : TalFault) × BlockHasFirstFault b s p e)

pub some-answer : (b : List ℕ) (s : ℕ) (p : Place) → HasAnswer b s p
some-answer b s p = blocks-some-answer (b ∷ []) s p

pub no-memory : (b : List ℕ) (s : ℕ) (p : Place) → ¬ BlockHasFirstFault b s p Memory
no-memory b s p = blocks-no-memory (b ∷ []) s p
