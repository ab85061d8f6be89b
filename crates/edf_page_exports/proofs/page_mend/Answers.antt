use Rattle.std.proofs.Common.{◌≡◌, ◌∙◌, ◌≤◌, ℕ, List, Bor, IfOk, length, map, ap, refl, sym, subst}
use Rattle.std.proofs.Common.{rules}
use Rattle.edf_page.specs.Programs.{IsMendRan}
use Rattle.edf_page_exports.specs.Asked.{values_of}
use Rattle.edf_page_exports.specs.Laid.{LieValues, ComeOfValues, IsMemory}
use Rattle.edf_page_exports.proofs.Answering.{ran-gives}
use Rattle.edf_page_exports.proofs.page_mend.Goals as goal

pub returns : goal.returns
returns c =
    let two : 2 ≤ length c.args.parts.now = search rules in
    let name = c.args.name.now in
    let bytes = c.args.bytes.now in
    let own = c.in-Ok.ensures.cases in
    let texts = c.in-Ok-texts_in.texts.items in
    let ran = c.run_edfmend-ran.result in
    ran-gives c.args.out.now c.give_ran.new.out c.args.parts.now c.give_ran.new.parts
    (LieValues c.args.values.now c.args.value_sizes.now name)
    (ComeOfValues c.args.values.now c.args.value_sizes.now name bytes) IsMemory
    c.give_ran.result (IsMendRan c.in-Some.values name bytes) ran two refl
    (subst (λ (n : List ℕ). IfOk ran (IsMendRan c.in-Some.values n bytes)) own.0
    c.run_edfmend-ran.ensures)
    (λ r is. record {
      values = c.in-Some.values;
      are_values = record {
        each = map (λ t. t.now) texts;
        are_texts = c.in-Ok-texts_in.ensures.texts;
        named = own.1;
        are_values = ap (λ (n : List ℕ). values_of n (map (λ t. t.now) texts)) (sym own.0)
            ∙ ap (λ (ts : List (Bor (List ℕ))). values_of c.in-Ok.name.now (map (λ t. t.now) ts))
            (sym c.as_slice.ensures.value) ∙ sym c.values_of.ensures ∙ c.in-Some.is;
      };
      ran = r;
      is_ran = is;
      are_pieces = refl;
    }) c.give_ran.ensures
