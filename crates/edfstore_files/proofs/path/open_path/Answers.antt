use Rattle.std.proofs.Common.{ℕ, List, sym, ap₂, subst}
use Rattle.std.proofs.lemmas.Option.{none-some}
use Rattle.sqlite_wal.specs.Recovery.{Image}
use Rattle.sqlite.specs.Start.{FindsIn}
use Rattle.sqlite.specs.Files.{file_state}
use Rattle.edfstore_files.proofs.Idle.{fresh_seen, fresh_only}
use Rattle.edfstore_files.proofs.Opening.{finds_in}
use Rattle.edfstore_files.proofs.path.open_path.Goals as goal

abbrev image_with : List ℕ → List ℕ → Image
image_with log db = record { log = log; db = db }

pub returns-in-Ok-open_files_with : goal.returns-in-Ok-open_files_with
returns-in-Ok-open_files_with g c =
    let first = g.S.Start in
    let (log, db) = c.in-Ok.ensures.fresh in
    let opened = c.in-Ok-open_files_with.ensures in
    let same = ap₂ image_with (fresh_seen first.log first.db _ _ _ _ log.0 log.1)
    (fresh_seen first.log first.db _ _ _ _ db.0 db.1) in (
      opened.fresh.autocommit,
      λ clean. (
        opened.opened clean,
        subst (λ i. FindsIn i (file_state c.in-Ok-open_files_with.conn)) same
            (finds_in c.in-Ok.files c.in-Ok-open_files_with.conn (opened.found clean)),
      ),
    )

pub returns-in-Err-open_files_with : goal.returns-in-Err-open_files_with
returns-in-Err-open_files_with g c =
    let first = g.S.Start in
    let (log, db) = c.in-Ok.ensures.fresh in
    let failed = c.in-Err-open_files_with.ensures in (
      record {
        files = c.in-Ok.files;
        held = ap₂ image_with (fresh_seen first.log first.db _ _ _ _ log.0 log.1)
            (fresh_seen first.log first.db _ _ _ _ db.0 db.1);
        settled = λ image may. ap₂ image_with
            (fresh_only first.is_mixing first.log first.db _ _ _ _ image.log log.0 log.1 may.0)
            (fresh_only first.is_mixing first.log first.db _ _ _ _ image.db db.0 db.1 may.1);
        failed = λ clean. (failed.cause clean, failed.unharmed clean);
      },
      λ is. absurd (none-some c.in-Err-open_files_with.left (sym is)),
    )
