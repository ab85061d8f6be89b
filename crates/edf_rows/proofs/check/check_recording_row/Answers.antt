use Rattle.std.proofs.Common.{rules, w64}
use Rattle.std.proofs.lemmas.Int.{to_z-of_z}
use Rattle.sqlite.specs.Held.{state}
use Rattle.edf_rows.proofs.Checks.{no_int, no_blob, no_key, told_if, long, not_int, not_blob}
use Rattle.edf_rows.proofs.check.check_recording_row.Goals as goal

pub returns-in_default-clause-answers : goal.returns-in_default-clause-answers
returns-in_default-clause-answers g c clean =
    no_int c.args.cap _ c.args.row.now (λ id e. search rules)

pub returns-in_default-2-clause-answers : goal.returns-in_default-2-clause-answers
returns-in_default-2-clause-answers g c clean =
    no_int c.args.cap _ c.args.row.now (not_int c.args.row.now 0 (search rules))

pub returns-in_default-get_ref-clause-answers : goal.returns-in_default-get_ref-clause-answers
returns-in_default-get_ref-clause-answers g c clean =
    no_blob c.args.cap _ c.args.row.now (λ bytes e. search rules)

pub returns-in_default-get_ref-2-clause-answers : goal.returns-in_default-get_ref-2-clause-answers
returns-in_default-get_ref-2-clause-answers g c clean =
    no_blob c.args.cap _ c.args.row.now (not_blob c.args.row.now 1 (search rules))

pub check_recording-requires-clause-long : goal.check_recording-requires-clause-long
check_recording-requires-clause-long g c = long c.in-Ok.identity (search rules)

pub returns-in-Ok-clause-answers : goal.returns-in-Ok-clause-answers
returns-in-Ok-clause-answers g c clean =
    told_if c.args.cap (state g.S.Store c.args.conn.now).now.trees c.args.row.now c.in-Ok-Int.id
    c.in-Ok.identity c.in-Ok-Blob.bytes.now c.check_recording.result (search rules) (search rules)
    (search rules) (search rules) (rw (to_z-of_z w64 c.in-Ok-Int.id (search rules)) at
    (c.check_recording.ensures.answers clean))

pub returns-else-eq-clause-answers : goal.returns-else-eq-clause-answers
returns-else-eq-clause-answers g c clean =
    no_key c.args.cap _ c.args.row.now c.in-Ok-Blob.bytes.now c.in-Err.fault (search rules)
    (search rules) (search rules)
