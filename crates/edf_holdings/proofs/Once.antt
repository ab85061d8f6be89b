-- A list acts once.
use Rattle.std.proofs.Common.{◌≡◌, ℕ, ◌-◌, List, ◌∷◌, ◌++◌, length, Contains, refl, sym, ap, subst}
use Rattle.std.proofs.Common.{◌∙◌, arith, remove}
use Rattle.std.proofs.lemmas.List.Edits.{remove-append_right}
use Rattle.std.proofs.lemmas.Bool.{cond_both}
use Rattle.edf_header.specs.Key.{Key}
use Rattle.edf_fragment.specs.Fragment.{DataRecord}
use Rattle.edf_fragment.specs.Parsed.{Parsed, Fragment}
use Rattle.edf_holdings.specs.Holdings.{Holdings, with_records}
use Rattle.edf_holdings.specs.Reply.{IsWellFormed, fits, after_one, after, reply, replies}
use Rattle.edf_holdings.specs.Laws.{HeldIsKnown, AcceptedAgain, RefusedAgain, RepeatsChangeNothing}
use Rattle.edf_holdings.specs.Laws.{ResentFromStart, up_to_repeat}
use Rattle.edf_holdings.proofs.Members.{Within}
use Rattle.edf_holdings.proofs.Joining.{IsGood, Grows, IsGood-from_sound, In-from_Contains}
use Rattle.edf_holdings.proofs.Joining.{put_held}
use Rattle.edf_holdings.proofs.Settled.{after-append, IsGood-after, after_grows, one_grows}
use Rattle.edf_holdings.proofs.Settled.{repeat_settled, again_from_front, sound_front, sound_back}
use Rattle.edf_holdings.proofs.Replies.{held_reply, accepted_again, accepted_before, fault_again}
use Rattle.edf_holdings.proofs.Replies.{replies-append, length-replies}
use Rattle.edf_holdings.proofs.Sound.{Each-from_All}

pub held_fragment : (cap : ℕ) (h : Holdings) (key : Key) (records : List DataRecord) →
    IsWellFormed (Fragment key records) → IsGood cap h → Within records (h key) →
    after_one cap h (Fragment key records) ≡ h
unfolding after_one
held_fragment cap h key records w g i =
    cond_both (fits cap key records h) (with_records key records h) h (λ (z : Holdings). z ≡ h)
    (λ _. put_held cap key records h w.0 g i) (λ _. refl)

pub held_is_known : HeldIsKnown
held_is_known cap h key records s w a =
    let g = IsGood-from_sound cap h s in
    let i : Within records (h key) = λ y m.
    In-from_Contains (h key) y (Each-from_All (Contains (h key)) records a y m) in
    (held_reply cap h key records w g i, held_fragment cap h key records w g i)

-- the holdings after a member and what follows are larger than those after it
grows_from : (cap : ℕ) (h : Holdings) (ts : List Parsed) (t : Parsed) (us : List Parsed) →
    Grows (after_one cap (after cap h ts) t) (after cap h (up_to_repeat ts t us))
grows_from cap h ts t us =
    subst (λ (z : Holdings). Grows (after_one cap (after cap h ts) t) z)
    (sym (after-append cap h ts (t ∷ us))) (after_grows cap (after_one cap (after cap h ts) t) us)

pub accepted_again_law : AcceptedAgain
accepted_again_law cap h ts t us s w =
    let g = IsGood-from_sound cap h s in
    accepted_again cap (after cap h ts) (after cap h (up_to_repeat ts t us)) t
    (sound_back ts (t ∷ us) w).0 (IsGood-after cap h ts (sound_front ts (t ∷ us) w) g)
    (IsGood-after cap h (up_to_repeat ts t us) w g) (grows_from cap h ts t us)

pub refused_again_law : RefusedAgain
refused_again_law cap h ts t us s w not_then =
    let g = IsGood-from_sound cap h s in (
      (λ i. not_then (accepted_before cap (after cap h ts) (after cap h (up_to_repeat ts t us)) t
          (sound_back ts (t ∷ us) w).0 (IsGood-after cap h ts (sound_front ts (t ∷ us) w) g)
          (IsGood-after cap h (up_to_repeat ts t us) w g)
          (λ k y m. grows_from cap h ts t us k y (one_grows cap (after cap h ts) t k y m)) i)),
      λ e q. fault_again cap (after cap h ts) (after cap h (up_to_repeat ts t us)) t e q,
    )

pub repeat_taken_out : RepeatsChangeNothing
repeat_taken_out cap h ts t us vs s w = (
  after-append cap h (up_to_repeat ts t us) (t ∷ vs) ∙ (ap (λ (z : Holdings). after cap z vs) still
      ∙ sym (after-append cap h (up_to_repeat ts t us) vs)),
  ap (λ l. remove l n) (replies-append cap h (up_to_repeat ts t us) (t ∷ vs))
      ∙ (remove-append_right (replies cap h (up_to_repeat ts t us))
      (reply cap x t ∷ replies cap (after_one cap x t) vs) n n
      (length-replies cap h (up_to_repeat ts t us)) (omega arith)
      ∙ (ap (λ m. replies cap h (up_to_repeat ts t us)
      ++ remove (reply cap x t ∷ replies cap (after_one cap x t) vs) m) none
      ∙ (ap (λ (z : Holdings). replies cap h (up_to_repeat ts t us) ++ replies cap z vs) still
      ∙ sym (replies-append cap h (up_to_repeat ts t us) vs)))),
)
  where
    n : ℕ
    n = length (up_to_repeat ts t us)

    x : Holdings
    x = after cap h (up_to_repeat ts t us)

    still : after_one cap x t ≡ x
    still = repeat_settled cap h ts t us w (IsGood-from_sound cap h s)

    none : n - n ≡ 0
    none = omega arith

pub from_the_front : ResentFromStart
from_the_front cap h ps qs s w = again_from_front cap h ps qs w (IsGood-from_sound cap h s)
