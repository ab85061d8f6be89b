use Rattle.edfstore_files.proofs.Idle.{read_idle, begun_idle}
use Rattle.edfstore_files.proofs.laws.an_opening_that_failed.Goals as goal

pub returns-clause-read : goal.returns-clause-read
returns-clause-read g c cap start error files it clean image may =
    read_idle g.D.Disk cap start error files it clean image may

pub returns-clause-begun : goal.returns-clause-begun
returns-clause-begun g c cap start error now it clean nothing image may =
    begun_idle g.D.Disk cap start error now it clean nothing image may
