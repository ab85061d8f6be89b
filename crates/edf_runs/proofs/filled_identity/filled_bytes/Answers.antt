use Rattle.std.proofs.Common.{◌≡◌, ℕ, ◌/◌, List, ◌++◌, length, sym, ap, ◌∙◌}
use Rattle.std.proofs.Common.{append_assoc}
use Rattle.std.proofs.lemmas.List.{length-map}
use Rattle.std.specs.Prelude.{Bool, ◌==◌, if◌then◌else◌}
use Rattle.edf_time.specs.Decimal.{short}
use Rattle.edf_field.specs.Text.{padded_to}
use Rattle.edf_header.specs.Key.{key_bytes, dated_bytes}
use Rattle.edf_header.specs.Signal.{samples}
use Rattle.edf_header.proofs.RowSteps.{length-rows}
use Rattle.edf_runs.specs.Inside.Renaming.{divided_rows}
use Rattle.edf_runs.proofs.KeyOfFilled.{patient-in, duration-in}
use Rattle.edf_runs.proofs.filled_identity.filled_bytes.Goals as goal

pub push_rows-requires-clause-whole : goal.push_rows-requires-clause-whole
push_rows-requires-clause-whole c =
    let rows = c.signal_rows.result.now in
    ap (λ (l : List ℕ). length l) c.requires
    ∙ length-map c.args.identity.now.signals samples
    ∙ ap (λ (l : List (List ℕ)). length l) (sym c.signal_rows.ensures)
    ∙ length-rows (length rows / 256) rows

pub returns : goal.returns
returns c =
    let k = c.args.identity.now in
    let is = c.identity_is_key.ensures in
    let v = c.args.division in
    let bytes = c.as_slice-bytes.result.now in
    let same : bytes ≡ key_bytes k = c.as_slice-bytes.ensures.value ∙ c.in_ok-bytes.ensures.bytes in
    let marked = dated_bytes k.dated c.args.after.now in
    let lasts : List ℕ → List ℕ =
    λ (l : List ℕ). if v.parts == 1 then l else padded_to 8 (short v.unit) in
    let rows = divided_rows v.parts k.signals in
    c.in_ok-push_rows.ensures
    ∙ ap (λ (l : List (List ℕ)). c.push_duration.new.out.items ++ divided_rows v.parts l)
    c.signal_rows.ensures
    ∙ ap (λ (l : List ℕ). l ++ rows) c.in_ok-push_duration.ensures
    ∙ ap (λ (l : List ℕ). (c.push_dated.new.out.items ++ lasts l) ++ rows)
    (duration-in k bytes is same)
    ∙ ap (λ (l : List ℕ). (l ++ lasts k.duration) ++ rows) c.in_ok-push_dated.ensures
    ∙ ap (λ (b : Bool). ((c.in_ok-new.new.items ++ dated_bytes b c.args.after.now)
    ++ lasts k.duration) ++ rows) c.dated.ensures
    ∙ ap (λ (l : List ℕ). ((l ++ marked) ++ lasts k.duration) ++ rows)
    (c.in_ok-new.ensures.items ∙ patient-in k bytes is same)
    ∙ append_assoc (k.patient ++ marked) (lasts k.duration) rows
    ∙ append_assoc k.patient marked (lasts k.duration ++ rows)
