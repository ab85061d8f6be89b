-- The text dd-MMM-yyyy names one day.
use Rattle.std.proofs.Common.{◌≡◌, ℕ, ◌+◌, ◌*◌, ◌/◌, ◌%◌, ◌≤◌, ◌<◌, List, [], ◌∷◌, ◌++◌, length}
use Rattle.std.proofs.Common.{get_or, arith, sym, ap, ◌∙◌, ℤ}
use Rattle.std.proofs.lemmas.Slice.Eq.{text_from_reads}
use Rattle.edf_time.specs.Civil.{IsDay, IsIdDate, two_digits, four_digits, month_name}
use Rattle.edf_time.proofs.OneDay.{IsInBounds, in-bounds, SameDate, IsDay-same, one-number}
use Rattle.edf_time.proofs.OneDay.{one-date}
use Rattle.edf_time.proofs.MonthNames.{letters, month_name-letters, letters-injective}

-- the text, byte by byte
abbrev pub id_text : ℕ → ℕ → ℕ → List ℕ
id_text year month day = two_digits day ++ 45 ∷ letters month ++ 45 ∷ four_digits year

pub id_text-is : (year month day : ℕ) → 1 ≤ month → month ≤ 12 → two_digits day
    ++ 45 ∷ month_name month ++ 45 ∷ four_digits year ≡ id_text year month day
id_text-is year month day from to =
    ap (λ (x : List ℕ). two_digits day ++ 45 ∷ x
    ++ 45 ∷ four_digits year) (month_name-letters month from to)

pub same-id_text : (y m d year month day : ℕ) → y ≤ 9999 → year ≤ 9999 → IsInBounds m d →
    1 ≤ month → month ≤ 12 → day < 100
    → id_text y m d ≡ id_text year month day → SameDate y m d year month day
same-id_text y m d year month day y-low low bounds from to d-low e =
    let a : 48 + d / 10 ≡ 48 + day / 10 = cc in
    let b : 48 + d % 10 ≡ 48 + day % 10 = cc in
    let second : get_or (month_name m) 1 0 ≡ get_or (month_name month) 1 0 = cc in
    let third : get_or (month_name m) 2 0 ≡ get_or (month_name month) 2 0 = cc in
    let f : 48 + y / 100 / 10 ≡ 48 + year / 100 / 10 = cc in
    let g : 48 + y / 100 % 10 ≡ 48 + year / 100 % 10 = cc in
    let h : 48 + y % 100 / 10 ≡ 48 + year % 100 / 10 = cc in
    let i : 48 + y % 100 % 10 ≡ 48 + year % 100 % 10 = cc in
    record {
      year-is = omega arith;
      month-is = letters-injective m month bounds.month_from bounds.month_to from to second third;
      day-is = omega (arith, bounds.day_to);
    }

-- the text of these parts names the day of these parts alone
pub IsDay-id_text : (text : List ℕ) (year month day : ℕ) (days : ℤ) → year ≤ 9999 → 1 ≤ month →
    month ≤ 12 → day < 100
    → text ≡ id_text year month day → IsIdDate text days → IsDay year month day days
IsDay-id_text text year month day days low from to d-low e t =
    let bounds = in-bounds t.year t.month t.day days t.is_day in
    let same = same-id_text t.year t.month t.day year month day t.to low bounds from to d-low
    (sym (id_text-is t.year t.month t.day bounds.month_from bounds.month_to) ∙ sym t.is_text ∙ e) in
    IsDay-same t.year t.month t.day year month day days same t.is_day

pub IsIdDate-is : (text : List ℕ) (year month day : ℕ) (days : ℤ) → year ≤ 9999 →
    text ≡ id_text year month day → IsDay year month day days → IsIdDate text days
IsIdDate-is text year month day days low e is =
    let bounds = in-bounds year month day days is in
    record {
      year = year;
      month = month;
      day = day;
      is_text = e
          ∙ sym (id_text-is year month day bounds.month_from bounds.month_to);
      to = low;
      is_day = is;
    }

-- the eleven bytes, read one by one
pub id_text-reads : (t : List ℕ) (century short year month day : ℕ) → length t ≡ 11 →
    get_or t 2 0 ≡ 45 → get_or t 6 0 ≡ 45
    → 1 ≤ month → month ≤ 12 → year ≡ century * 100 + short → short < 100
    → get_or t 0 0 ∷ get_or t 1 0 ∷ [] ≡ two_digits day →
    get_or t 3 0 ∷ get_or t 4 0 ∷ get_or t 5 0 ∷ [] ≡ month_name month
    → get_or t 7 0 ∷ get_or t 8 0 ∷ [] ≡ two_digits century →
    get_or t 9 0 ∷ get_or t 10 0 ∷ [] ≡ two_digits short → t ≡ id_text year month day
id_text-reads t century short year month day len p q from to e low days months centuries years =
    let three : get_or t 3 0 ∷ get_or t 4 0 ∷ get_or t 5 0 ∷ [] ≡ letters month = months
    ∙ month_name-letters month from to in
    let high : year / 100 ≡ century = omega arith in
    let last : year % 100 ≡ short = omega arith in
    text_from_reads t (id_text year month day) len (
      cc,
      (cc, (p, (cc, (cc, (cc, (q, (cc, (cc, (cc, (cc, tt)))))))))),
    )

-- a text names one day
pub one-id_day : (text : List ℕ) (a b : ℤ) → IsIdDate text a → IsIdDate text b → a ≡ b
one-id_day text a b p q =
    let bounds = in-bounds q.year q.month q.day b q.is_day in
    let e : text ≡ id_text q.year q.month q.day = q.is_text
    ∙ id_text-is q.year q.month q.day bounds.month_from bounds.month_to in
    one-number q.year q.month q.day a b
    (IsDay-id_text text q.year q.month q.day a q.to bounds.month_from bounds.month_to
    (omega (arith, bounds.day_to)) e p) q.is_day

-- and a day has one text
pub one-id_text : (text other : List ℕ) (days : ℤ) → IsIdDate text days → IsIdDate other days →
    text ≡ other
one-id_text text other days p q =
    let same = one-date p.year p.month p.day q.year q.month q.day days p.is_day q.is_day in
    p.is_text ∙ rw (same.year-is, same.month-is, same.day-is) (sym q.is_text)
