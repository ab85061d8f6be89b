use Rattle.edf_runs.proofs.ReadOn.{read-on}
use Rattle.edf_runs.proofs.comparing.next_record.Goals as goal

pub returns-clause-next : goal.returns-clause-next
returns-clause-next g c from passed before on =
    read-on c.args.fragment.now.header from (g.R.Input.remaining c.args.input.now)
    (g.R.Input.remaining c.next.new.input) passed c.args.fragment.now.progress
    c.next.new.self.progress c.next.result before on c.next.ensures.answer
