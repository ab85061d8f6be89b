-- The texts of days and clock readings: their lengths, and that they are printable.
use Rattle.std.proofs.Common.{◌≡◌, ℕ, ◌+◌, ◌-◌, ◌*◌, ◌/◌, ◌%◌, ◌≤◌, ◌<◌, List, [], ◌∷◌, ◌++◌}
use Rattle.std.proofs.Common.{length, drop, refl, sym, ap, ◌∙◌, subst, arith, inl, inr, ℤ, pos}
use Rattle.std.proofs.Common.{Option, Some, None}
use Rattle.std.specs.Prelude.{All, codes, Bool, true, nat_lt, ◌&&◌}
use Rattle.std.proofs.lemmas.Bool.{and_parts, ltb-true}
use Rattle.std.proofs.lemmas.List.{length-append, length-take, length-drop}
use Rattle.std.proofs.lemmas.List.Elements.{All-nil, All-cons, All-append, All-take, All-drop}
use Rattle.edf_time.proofs.Cited.{in-bounds}
use Rattle.edf_time.specs.Civil.{AreStartdates, IsDateField, IsDay, IsTimeText, IsIdDate}
use Rattle.edf_time.specs.Civil.{two_digits, four_digits, month_name}
use Rattle.edf_field.specs.Text.{IsPrintable}
use Rattle.edf_header.specs.Spelled.{IsPrinted}

pub two-printable : (n : ℕ) → n < 100 → All IsPrintable (two_digits n)
two-printable n low =
    All-cons IsPrintable (48 + n / 10) ((48 + n % 10) ∷ [])
    (record { from = omega arith; to = omega arith })
    (All-cons IsPrintable (48 + n % 10) [] (record { from = omega arith; to = omega arith })
    (All-nil IsPrintable))

-- a byte between two texts
between : (a b : List ℕ) (mark : ℕ) → 32 ≤ mark → mark ≤ 126 → All IsPrintable a →
    All IsPrintable b → All IsPrintable (a ++ mark ∷ b)
between a b mark from to pa pb =
    All-append IsPrintable a (mark ∷ b) pa
    (All-cons IsPrintable mark b (record { from = from; to = to }) pb)

pub time-printed : (text : List ℕ) (seconds : ℕ) → IsTimeText text seconds → IsPrinted 8 text
time-printed text seconds t =
    let c = t.is_clock in
    let printed : All IsPrintable (two_digits t.hour ++ 46 ∷ two_digits t.minute
    ++ 46 ∷ two_digits t.second) =
    between (two_digits t.hour ++ 46 ∷ two_digits t.minute) (two_digits t.second) 46 (omega arith)
    (omega arith)
    (between (two_digits t.hour) (two_digits t.minute) 46 (omega arith) (omega arith)
    (two-printable t.hour (omega (arith, c.in_day)))
    (two-printable t.minute (omega (arith, c.in_hour))))
    (two-printable t.second (omega (arith, c.in_minute))) in
    record {
      len = ap length t.is_text;
      printable =
          subst (All IsPrintable) (sym t.is_text) printed;
    }

-- a test of printable bytes, which computes
abbrev pub all_printable : List ℕ → Bool
all_printable [] = true
all_printable (b ∷ bs) = (nat_lt 31 b && nat_lt b 127) && all_printable bs

pub printable-by : (bs : List ℕ) → all_printable bs ≡ true → All IsPrintable bs
printable-by [] is = All-nil IsPrintable
printable-by (b ∷ bs) is =
    let both = and_parts (nat_lt 31 b && nat_lt b 127) (all_printable bs) is in
    let each = and_parts (nat_lt 31 b) (nat_lt b 127) both.0 in
    let low : 31 < b = ltb-true 31 b each.0 in
    let high : b < 127 = ltb-true b 127 each.1 in
    All-cons IsPrintable b bs (record { from = omega arith; to = omega arith })
    (printable-by bs both.1)

-- a day and a month, and the last two bytes of a startdate
dotted-printed : (text : List ℕ) (year month day days : ℕ) (last : List ℕ) →
    IsDay year month day (pos days) → length last ≡ 2 → All IsPrintable last
    → text ≡ two_digits day ++ 46 ∷ two_digits month ++ 46 ∷ last → IsPrinted 8 text
dotted-printed text year month day days last is-day len visible is =
    let s = in-bounds year month day (pos days) is-day in
    let printed : All IsPrintable (two_digits day ++ 46 ∷ two_digits month ++ 46 ∷ last) =
    between (two_digits day ++ 46 ∷ two_digits month) last 46 (omega arith) (omega arith)
    (between (two_digits day) (two_digits month) 46 (omega arith) (omega arith)
    (two-printable day (omega (arith, s.day_to)))
    (two-printable month (omega (arith, s.month_to)))) visible in
    record {
      len = omega (arith, ap length is, len);
      printable =
          subst (All IsPrintable) (sym is) printed;
    }

pub date-printed : (text : List ℕ) (days : ℕ) → IsDateField text days → IsPrinted 8 text
date-printed text days (inl t) =
    dotted-printed text t.year t.month t.day days (two_digits (t.year % 100)) t.is_day refl
    (two-printable (t.year % 100) (omega arith)) t.is_text
date-printed text days (inr t) = dotted-printed text t.year t.month t.day days (codes "yy") t.is_day
    refl (printable-by (codes "yy") refl) t.is_text

pub startdate-printed : (text : List ℕ) (id : Option ℤ) (days : ℕ) → AreStartdates text id days →
    IsPrinted 8 text
startdate-printed text None days is = date-printed text days (inl is)
startdate-printed text (Some day) days is = date-printed text days is.1

months-printable : All IsPrintable (codes "JANFEBMARAPRMAYJUNJULAUGSEPOCTNOVDEC")
months-printable = printable-by (codes "JANFEBMARAPRMAYJUNJULAUGSEPOCTNOVDEC") refl

pub id_date-printed : (text : List ℕ) (days : ℤ) → IsIdDate text days → IsPrinted 11 text
id_date-printed text days t =
    let s = in-bounds t.year t.month t.day days t.is_day in
    let months : List ℕ = codes "JANFEBMARAPRMAYJUNJULAUGSEPOCTNOVDEC" in
    let name : length (month_name t.month) ≡ 3 =
    omega (
      arith,
      length-take 3 (drop (3 * (t.month - 1)) months),
      length-drop (3 * (t.month - 1)) months,
      s.month_from,
      s.month_to,
    ) in
    let printed : All IsPrintable (two_digits t.day ++ 45 ∷ month_name t.month
    ++ 45 ∷ four_digits t.year) =
    between (two_digits t.day ++ 45 ∷ month_name t.month) (four_digits t.year) 45 (omega arith)
    (omega arith)
    (between (two_digits t.day) (month_name t.month) 45 (omega arith) (omega arith)
    (two-printable t.day (omega (arith, s.day_to)))
    (All-take IsPrintable 3 (drop (3 * (t.month - 1)) months)
    (All-drop IsPrintable (3 * (t.month - 1)) months months-printable)))
    (All-append IsPrintable (two_digits (t.year / 100)) (two_digits (t.year % 100))
    (two-printable (t.year / 100) (omega (arith, t.to)))
    (two-printable (t.year % 100) (omega arith))) in
    record {
      len = ap length t.is_text ∙ length-append (two_digits t.day
          ++ 45 ∷ month_name t.month) (45 ∷ four_digits t.year)
          ∙ omega (arith, name, length-append (two_digits t.day) (45 ∷ month_name t.month));
      printable = subst (All IsPrintable) (sym t.is_text) printed;
    }
