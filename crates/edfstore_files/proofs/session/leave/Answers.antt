use Rattle.std.proofs.Common.{sym}
use Rattle.edfstore_files.proofs.LetGo.{leaves}
use Rattle.edfstore_files.proofs.session.leave.Goals as goal

pub returns-clause-each : goal.returns-clause-each
returns-clause-each g c = leaves c.args.conn c.into_store.result c.close.result c.close.ensures
    c.into_store.ensures.quiet c.into_store.ensures.numbered c.into_store.ensures.sound

pub returns-clause-released : goal.returns-clause-released
returns-clause-released g c = record {
  store = c.into_store.result;
  store_is = sym c.close.ensures;
  quiet = record { quiet = c.into_store.ensures.quiet; sound = c.into_store.ensures.sound };
  cause = tt;
}
