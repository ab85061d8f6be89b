use Rattle.std.proofs.Common.{◌≡◌, ◌+◌, ◌++◌, ◌∷◌, [], ℕ, List, All, Bor, map, get_or, take}
use Rattle.std.proofs.Common.{sym, subst, ap, ◌∙◌, rules}
use Rattle.std.specs.Str.{IsUtf8}
use Rattle.std.proofs.lemmas.List.{take_more, map_push}
use Rattle.edf_page_exports.specs.Laid.{AreCut}
use Rattle.edf_page_exports.proofs.Cuts.{bytes_of, not-texts, all-more}
use Rattle.edf_page_exports.proofs.given.texts_in.Goals as goal

pub returns-in_default-clause-none : goal.returns-in_default-clause-none
returns-in_default-clause-none c is texts are =
    let cut = subst (λ (ps : List (Bor (List ℕ))). AreCut c.args.bytes.now c.args.sizes.now
    (map bytes_of ps)) (sym c.as_slice-piece-items.ensures.value) c.in_ok-pieces.ensures.cut in
    not-texts c.args.bytes.now c.args.sizes.now c.as_slice-piece-items.result.now
    c.loop-piece.piece-index (record { ref_ptr = (0, 0); now = [] }) cut c.loop-piece-test.true
    c.in_default.ensures.cases.0 texts are

pub loop-piece-preserved : goal.loop-piece-preserved
loop-piece-preserved c =
    let ps = c.as_slice-piece-items.result.now in
    let i = c.loop-piece.piece-index in
    let p : Bor (List ℕ) = get_or ps i (record { ref_ptr = (0, 0); now = [] }) in
    let pushed : c.push.new.self.items ≡ c.loop-piece.texts.items ++ c.in-Ok.text ∷ [] = search
    rules in
    let grown = ap (map (λ text. text.now)) pushed
    ∙ map_push (λ text. text.now) c.loop-piece.texts.items c.in-Ok.text in
    let next : map bytes_of (take (i + 1) ps) ≡ map bytes_of (take i ps) ++ p.now ∷ [] =
    ap (map bytes_of) (take_more ps i _ c.loop-piece-test.true) ∙ map_push bytes_of (take i ps) p in
    record {
      same = grown
          ∙ ap (λ (l : List (List ℕ)). l ++ c.in-Ok.text.now ∷ []) c.loop-piece.invariant.same
          ∙ ap (λ (t : List ℕ). map bytes_of (take i ps) ++ t ∷ []) c.in-Ok.ensures.cases.0
          ∙ sym next;
      each = subst (All IsUtf8) (sym grown) (all-more IsUtf8 _ _ c.loop-piece.invariant.each
          (subst IsUtf8 (sym c.in-Ok.ensures.cases.0) c.in-Ok.ensures.cases.1));
    }
