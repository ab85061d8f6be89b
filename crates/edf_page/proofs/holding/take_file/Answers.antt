use Rattle.edf_page.proofs.Taken.{takes_one}
use Rattle.edf_page.proofs.holding.take_file.Goals as goal

pub returns : goal.returns
returns c = takes_one c.args.store.now c.submit_file.new.store c.in_ok-line.line.items
    c.args.file.now.name.now c.args.file.now.bytes.now c.in_ok-answer.answer
    c.in_ok-answer.ensures c.in_ok-line.ensures
