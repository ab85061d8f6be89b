use Rattle.std.proofs.Common.{◌≡◌, ◌≢◌, ◌<◌, ℕ, Bool, true, false, eqb, List, [], length, All}
use Rattle.std.proofs.Common.{IsTrue, MatchBool, codes, refl, rules, tests, arith}
use Rattle.std.specs.List.{HoldsAt, AllWithin}
use Rattle.std.proofs.lemmas.Bool.{false≢true}
use Rattle.std.proofs.lemmas.Iterator.{cases_from_all}
use Rattle.std.proofs.lemmas.Iterator.Splits.{YieldsList-from_slice_split}
use Rattle.edf_serve.specs.Files.{parts_of}
use Rattle.edf_serve.proofs.places.leads_down.Goals as goal

both-ways : (r : Bool) (ps : List (List ℕ)) →
    MatchBool r (AllWithin (λ p. p ≢ codes "..") ps 0 (length ps))
    ((k : ℕ) × (k < length ps) × HoldsAt (λ p. p ≡ codes "..") ps k) →
    (IsTrue r → All (λ p. p ≢ codes "..") ps) × (All (λ p. p ≢ codes "..") ps → IsTrue r)
both-ways true ps h = (λ t k d lt. h k d (omega arith) lt, λ all. refl)
both-ways false ps w = (λ t. absurd (false≢true t), λ all. absurd (all w.0 [] w.1 (w.2 [])))

pub returns : goal.returns
returns c =
    both-ways c.all.result (parts_of c.args.name.now) (cases_from_all _ _ _
    (λ p. p ≢ codes "..") (λ p. p ≡ codes "..") c.all.ensures.ran
    (YieldsList-from_slice_split _ (λ b. eqb b 47) c.args.name.now c.split.ensures.rest
    c.split.ensures.done c.split.ensures.closure (λ x b q k. search (rules, tests)))
    (λ x q k. search (rules, tests)) (λ x q k. search (rules, tests)))
