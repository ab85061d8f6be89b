use Rattle.edf_time.proofs.Startdates.{answers-form, answers-no_form}
use Rattle.edf_time.proofs.start.has_date_form.Goals as goal

pub returns-then-is_some-2 : goal.returns-then-is_some-2
returns-then-is_some-2 c =
    answers-form c.args.date.now c.read_date.result c.args.id.now c.is_yearless.result
    c.if-is_some.ensures c.if-is_some-2.ensures c.read_date.ensures c.is_yearless.ensures

pub returns-else-is_some-2 : goal.returns-else-is_some-2
returns-else-is_some-2 c =
    answers-no_form c.args.date.now c.read_date.result c.args.id.now c.is_some-else-is_some.result
    c.if-is_some.ensures c.if-is_some-2.ensures c.if-is_some-2.false c.read_date.ensures
