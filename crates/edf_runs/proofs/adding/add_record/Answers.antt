use Rattle.std.proofs.Common.{◌≡◌, ◌+◌, [], ◌∷◌, ◌++◌, rules, sym, subst, arith}
use Rattle.edf_runs.specs.Runs.{AreListed}
use Rattle.edf_runs.proofs.Growing.{first_listed, longer_listed, next_listed}
use Rattle.edf_runs.proofs.adding.add_record.Goals as goal

pub returns-in_ok-push-in-None : goal.returns-in_ok-push-in-None
returns-in_ok-push-in-None c records few are =
    let d = c.args.duration in
    let r = c.args.data_record.now in
    let none : c.args.runs.now.items ≡ [] = search rules in
    let new : c.push.new.self.items ≡ c.of.result ∷ [] = search rules in
    subst (AreListed d (records ++ r ∷ [])) (sym new)
    (first_listed d records r c.of.result (c.of.ensures d)
    (subst (AreListed d records) none are))

pub returns-in_ok-push-in-Some : goal.returns-in_ok-push-in-Some
returns-in_ok-push-in-Some c records few are =
    let d = c.args.duration in
    let r = c.args.data_record.now in
    let before = c.pop.new.self.items in
    let run = c.in-Some.run' in
    let old : c.args.runs.now.items ≡ before ++ run ∷ [] = search rules in
    let new : c.push-in-Some.new.self.items ≡ before ++ c.with.result ∷ [] = search rules in
    let next : r.start ≡ run.last + d = search rules in
    subst (AreListed d (records ++ r ∷ [])) (sym new)
    (longer_listed d records before run c.with.result r (subst (AreListed d records) old are) next
    (λ rs is fewer. c.with.ensures d rs is next (omega (arith, few, fewer))))

pub returns-in_ok-push-in-Some-2-2 : goal.returns-in_ok-push-in-Some-2-2
returns-in_ok-push-in-Some-2-2 c records few are =
    let d = c.args.duration in
    let r = c.args.data_record.now in
    let before = c.pop.new.self.items in
    let run = c.in-Some.run' in
    let old : c.args.runs.now.items ≡ before ++ run ∷ [] = search rules in
    let new : c.push-in-Some-2-2.new.self.items ≡ (before ++ run ∷ [])
    ++ c.of-in-Some-2.result ∷ [] = search rules in
    let apart : r.start ≡ run.last + d → ⊥ = search rules in
    subst (AreListed d (records ++ r ∷ [])) (sym new)
    (next_listed d records before run c.of-in-Some-2.result r (subst (AreListed d records) old are)
    apart (c.of-in-Some-2.ensures d))
