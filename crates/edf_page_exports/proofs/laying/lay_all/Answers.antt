use Rattle.std.proofs.Common.{◌≡◌, ℕ, ◌+◌, List, [], ◌∷◌, ◌++◌, Bor, map, length, take, drop, sym}
use Rattle.std.proofs.Common.{ap}
use Rattle.std.proofs.Common.{subst, ◌∙◌, arith}
use Rattle.std.specs.List.{flat_map}
use Rattle.std.proofs.Common.{get_or, length-append, rules}
use Rattle.std.proofs.lemmas.List.{take_all, take_more, length-map, length-set, length-take-le}
use Rattle.std.proofs.lemmas.List.Folds.{flat_map-map, length-flat_map-take}
use Rattle.edf_page_exports.specs.Laid.{laid}
use Rattle.edf_page_exports.proofs.Writing.{bytes_of, put-more, set-more, laid-more, sizes-more}
use Rattle.edf_page_exports.proofs.laying.lay_all.Goals as goal

same : (ps : List (Bor (List ℕ))) →
    length (laid (map bytes_of ps)) ≡ length (flat_map bytes_of ps)
same ps = ap length (flat_map-map (λ p. p) bytes_of ps)

pub put-end-requires : goal.put-end-requires
put-end-requires c =
    let ps = c.args.pieces.now in
    omega (
      arith,
      length-flat_map-take bytes_of ps c.loop-at.at record { ref_ptr = (0, 0); now = [] }
          c.loop-at-test.true,
      same ps,
      same (take c.loop-at.at ps),
    )

pub returns-clause-lie : goal.returns-clause-lie
returns-clause-lie c =
    let ps = c.args.pieces.now in
    let all : take c.loop-at.at ps ≡ ps = take_all c.loop-at.at ps c.loop-at-test.false in
    subst (λ (z : List (Bor (List ℕ))). c.loop-at.out ≡ laid (map bytes_of z)
    ++ drop (length (laid (map bytes_of z))) c.args.out.now) all
    (subst (λ (e : ℕ). c.loop-at.out ≡ laid (map bytes_of (take c.loop-at.at ps))
    ++ drop e c.args.out.now) c.loop-at.invariant.end c.loop-at.invariant.lie)

pub returns-clause-sized : goal.returns-clause-sized
returns-clause-sized c =
    let ps = c.args.pieces.now in
    let all : take c.loop-at.at ps ≡ ps = take_all c.loop-at.at ps c.loop-at-test.false in
    let at : c.loop-at.at ≡ length (map bytes_of ps) =
    omega (arith, c.loop-at-test.false, c.loop-at.auto.at-end, length-map ps bytes_of) in
    c.loop-at.invariant.sized
    ∙ ap (λ (z : List (Bor (List ℕ))). map length (map bytes_of z) ++ drop c.loop-at.at
    c.args.sizes.now)
    all
    ∙ ap (λ (n : ℕ). map length (map bytes_of ps) ++ drop n c.args.sizes.now) at

pub loop-at-preserved : goal.loop-at-preserved
loop-at-preserved c =
    let ps = c.args.pieces.now in
    let i = c.loop-at.at in
    let p : Bor (List ℕ) = get_or ps i (record { ref_ptr = (0, 0); now = [] }) in
    let more : take (i + 1) ps ≡ take i ps ++ p ∷ [] = take_more ps i _ c.loop-at-test.true in
    let front = laid (map bytes_of (take i ps)) in
    let all = laid-more ps i p more in
    let end : c.put-end.result ≡ c.loop-at.end + length p.now = c.put-end.ensures.behind in
    let sizes = map length (map bytes_of (take i ps)) in
    let here : length sizes ≡ i = length-map (map bytes_of (take i ps)) length
    ∙ length-map (take i ps) bytes_of ∙ length-take-le i ps (omega (arith, c.loop-at-test.true)) in
    record {
      end = end ∙ ap (λ (n : ℕ). n + length p.now) c.loop-at.invariant.end
          ∙ sym (length-append front p.now) ∙ ap length (sym all);
      lie = put-more c.args.out.now c.loop-at.out front p.now c.put-end.new.out c.loop-at.end
          c.loop-at.invariant.lie c.loop-at.invariant.end c.put-end.ensures.put
          ∙ ap (λ (t : List ℕ). t ++ drop (c.loop-at.end + length p.now) c.args.out.now) (sym all)
          ∙ ap (λ (n : ℕ). laid (map bytes_of (take (i + 1) ps)) ++ drop n c.args.out.now)
          (sym end);
      out = search rules;
      sized = set-more c.args.sizes.now c.loop-at.sizes sizes i (length p.now)
          c.loop-at.invariant.sized here
          (omega (arith, c.loop-at-test.true, c.requires.places))
          ∙ ap (λ (l : List ℕ). l ++ drop (i + 1) c.args.sizes.now) (sym (sizes-more ps i p more));
      places = length-set c.loop-at.sizes i (length p.now) ∙ c.loop-at.invariant.places;
    }
