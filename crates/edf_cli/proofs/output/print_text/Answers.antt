use Rattle.std.proofs.Common.{ℕ, Vec, Global}
use Rattle.edf_cli.specs.Output.{output_change}
use Rattle.edf_cli.specs.declared.status.Status.TheVariants.{Trouble}
use Rattle.edf_cli.proofs.Puts.{line-printed, printed-whole, printed-trouble}
use Rattle.edf_cli.proofs.output.print_text.Goals as goal

pub returns-then-put_line : goal.returns-then-put_line
returns-then-put_line g c =
    let w = output_change g.W.Output c.args.out.now c.put_line.new.out in
    let own = printed-whole w (λ (v : Vec ℕ Global). v.items) c.args.line c.put_line.result
    c.args.status c.put_line.ensures.line c.if-put_line.true in
    record {
      line = own;
      printed = λ text is. line-printed w (λ (v : Vec ℕ Global). v.items) c.args.line c.args.status
          c.args.status text own is;
    }

pub returns-else-put_line : goal.returns-else-put_line
returns-else-put_line g c =
    let w = output_change g.W.Output c.args.out.now c.put_line.new.out in
    let own = printed-trouble w (λ (v : Vec ℕ Global). v.items) c.args.line c.put_line.result
    c.args.status c.put_line.ensures.line c.if-put_line.false in
    record {
      line = own;
      printed = λ text is. line-printed w (λ (v : Vec ℕ Global). v.items) c.args.line c.args.status
          Trouble text own is;
    }
