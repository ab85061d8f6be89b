-- The recording field, read from its front.
use Rattle.std.proofs.Common.{◌≡◌, ◌≢◌, ℕ, ◌+◌, ◌/◌, List, get_or, take, drop, arith, refl, sym, ap}
use Rattle.std.proofs.Common.{◌∙◌, subst, ℤ, Option, Some, None}
use Rattle.std.specs.Prelude.{codes}
use Rattle.std.proofs.lemmas.List.{get_or-take, take-take, get_or-drop}
use Rattle.edf_time.proofs.Cited.{in-bounds, one-id_day}
use Rattle.edf_field.specs.Number.{field}
use Rattle.edf_field.specs.Text.{IsStartdate, IsRecording, FollowsStartdate}
use Rattle.edf_time.specs.Civil.{IsIdDate}

-- X is no date
pub x-no-date : (f : List ℕ) (day : ℤ) → take 11 f ≡ codes "Startdate X" →
    ¬ IsIdDate (field f 10 11) day
x-no-date f day e d =
    let x : get_or f 10 0 ≡ 88 = sym (get_or-take 11 f 10 0 (omega arith))
    ∙ ap (λ (l : List ℕ). get_or l 10 0) e in
    let y : get_or f 10 0 ≡ 48 + d.day / 10 = sym (get_or-drop 10 f 0 0)
    ∙ sym (get_or-take 11 (drop 10 f) 0 0 (omega arith))
    ∙ ap (λ (l : List ℕ). get_or l 0 0) d.is_text in
    omega (arith, x, y, (in-bounds d.year d.month d.day day d.is_day).day_to)

-- a recording field has one Startdate subfield
pub one-after : (f : List ℕ) (s r : Option ℤ) (a b : List ℕ) → IsStartdate f s a →
    IsStartdate f r b → (s ≡ r) × (a ≡ b)
one-after f None None a b p q = (refl, p.1 ∙ sym q.1)
one-after f None (Some day) a b p q = absurd (x-no-date f day p.0 q.1)
one-after f (Some other) None a b p q = absurd (x-no-date f other q.0 p.1)
one-after f (Some other) (Some day) a b p q =
    (ap (λ (z : ℤ). Some z) (one-id_day (field f 10 11) other day p.1 q.1), p.2 ∙ sym q.2)

-- no Startdate subfield comes after another front
pub other-front : (f : List ℕ) → take 10 f ≢ codes "Startdate " → (s : Option ℤ) (after : List ℕ) →
    ¬ IsStartdate f s after
other-front f other None after p = other (sym (take-take 10 11 f (omega arith)) ∙ ap (take 10) p.0)
other-front f other (Some day) after p = other p.0

-- what is neither X nor a day is no Startdate subfield
pub no-day : (f : List ℕ) → get_or f 10 0 ≢ 88 → ((day : ℤ) → ¬ IsIdDate (field f 10 11) day) →
    (s : Option ℤ) (after : List ℕ) → ¬ IsStartdate f s after
no-day f other none None after p = other (sym (get_or-take 11 f 10 0 (omega arith))
    ∙ ap (λ (l : List ℕ). get_or l 10 0) p.0)
no-day f other none (Some day) after p = none day p.1

-- what follows the Startdate subfield is as it must be, or the field is no recording identification
pub not-following : (f : List ℕ) (s : Option ℤ) (after : List ℕ) → IsStartdate f s after →
    ¬ FollowsStartdate after → (r : Option ℤ) (rest : List ℕ) → ¬ IsRecording f r rest
not-following f s after front none r rest p =
    none (subst FollowsStartdate (one-after f r s rest after p.is_startdate front).1 p.rest)
