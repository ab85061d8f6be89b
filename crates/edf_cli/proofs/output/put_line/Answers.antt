use Rattle.std.proofs.Common.{List, ℕ, Vec, Global, false, subst, refl}
use Rattle.edf_cli.specs.Output.{IsPut}
use Rattle.edf_cli.proofs.Puts.{grown, put-sent, nothing-gets, line-put, IsPutBy}
use Rattle.edf_cli.proofs.output.put_line.Goals as goal

pub returns-in-Ok : goal.returns-in-Ok
returns-in-Ok g c =
    let before = g.W.Output.contents c.args.out.now in
    let old = g.W.Output.failures c.args.out.now in
    let after = g.W.Output.contents c.send.new.out in
    let new = g.W.Output.failures c.send.new.out in
    let w = grown before old after new in
    let sent = subst (λ (t : List ℕ). IsPut w t c.send.result) c.as_slice.ensures.value
    (put-sent before old after new c.as_slice.result.now c.send.result c.send.ensures) in
    let own : IsPutBy w (λ (v : Vec ℕ Global). v.items) c.args.line c.send.result =
    rw c.in-Ok.is sent in
    record {
      line = own;
      put = λ text is. line-put w (λ (v : Vec ℕ Global). v.items) c.args.line c.send.result text own
          is;
    }

pub returns-in-Err : goal.returns-in-Err
returns-in-Err g c =
    let before = g.W.Output.contents c.args.out.now in
    let old = g.W.Output.failures c.args.out.now in
    let w = grown before old before old in
    let own : IsPutBy w (λ (v : Vec ℕ Global). v.items) c.args.line false =
    rw c.in-Err.is (nothing-gets before old, refl) in
    record {
      line = own;
      put = λ text is. line-put w (λ (v : Vec ℕ Global). v.items) c.args.line false text own is;
    }
