use Rattle.std.proofs.Common.{◌≡◌, ◌∙◌, ◌++◌, ℕ, List, ap, codes, string_bytes, subst, sym}
use Rattle.std.proofs.lemmas.Result.{IfOk-weaker}
use Rattle.edf_picture.specs.Picture.{IsPicture, IsTimeLine, Named, drawn_texts, head_of, named_by}
use Rattle.edf_picture.specs.Picture.{text_with, title_line}
use Rattle.edf_picture.specs.declared.extent.Extent.{Extent}
use Rattle.edf_picture.proofs.drawing.draw.Goals as goal

pictured : (named : Named) (runs : List Extent) (height : ℕ)
    (head drawn picture time more : List ℕ) → IsTimeLine runs time →
    head ≡ head_of height (title_line 1000 named) (text_with 39 39 more) (drawn_texts named time)
    time →
    picture ≡ head ++ (drawn ++ codes "</svg>\n") → IsPicture named runs picture
pictured named runs height head drawn picture time more is_time headed is = record {
  height = height;
  time = time;
  is_time = is_time;
  more = more;
  drawn = drawn;
  whole = is ∙ ap (λ (h : List ℕ). h ++ (drawn ++ codes "</svg>\n")) headed;
}

pub returns : goal.returns
returns c =
    let runs = c.args.night.now.runs.now in
    let head = c.in_ok-head.ensures in
    IfOk-weaker c.format.result _ _ (λ picture is. pictured (named_by c.args.title.now) runs
    c.draw_night.new.sheet.y c.as_str-head.result.now c.as_str-drawn.result.now
    (string_bytes picture) c.as_str-2.result.now head.0
    (subst (IsTimeLine runs) (sym c.as_str-2.ensures.value) c.in_ok-time.ensures)
    (c.as_str-head.ensures.value ∙ head.1) is) c.format.ensures.ok
