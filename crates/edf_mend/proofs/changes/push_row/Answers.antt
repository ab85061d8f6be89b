use Rattle.std.proofs.Common.{◌≡◌, sym, ◌+◌, ◌*◌, get_or, arith}
use Rattle.std.proofs.lemmas.List.{append-nil}
use Rattle.edf_field.specs.Number.{field}
use Rattle.edf_header.specs.Fields.{fields}
use Rattle.edf_mend.proofs.Rows.{parts-step, parts-end}
use Rattle.edf_mend.specs.Changes.{changed}
use Rattle.edf_mend.proofs.changes.push_row.Goals as goal

pub loop-at-init : goal.loop-at-init
loop-at-init c = sym (append-nil c.args.out.now.items)

pub loop-at-preserved : goal.loop-at-preserved
loop-at-preserved c =
    let f = get_or fields c.loop-at.at-index (0, 0) in
    let at-is : 256 + c.offset_of.result ≡ 256 + c.args.n * f.0 + c.args.i * f.1 =
    omega (arith, c.offset_of.ensures.value) in
    parts-step (λ f. changed f.0 (c.args.i + 1) (256 + c.args.n * f.0 + c.args.i * f.1)
    (field c.args.old.now f.0 f.1) (field c.args.new.now f.0 f.1)) fields c.loop-at.at-index (0, 0)
    c.args.out.now.items c.loop-at.out.items c.push_changed.new.out.items c.loop-at-test.true
    c.loop-at.invariant
    (rw (c.field_at-was.ensures, c.field_at.ensures, at-is) at c.in_ok-push_changed.ensures)

pub returns : goal.returns
returns c =
    parts-end (λ f. changed f.0 (c.args.i + 1) (256 + c.args.n * f.0 + c.args.i * f.1)
    (field c.args.old.now f.0 f.1) (field c.args.new.now f.0 f.1)) fields c.loop-at.at-index
    c.args.out.now.items c.loop-at.out.items c.loop-at-test.false c.loop-at.invariant
