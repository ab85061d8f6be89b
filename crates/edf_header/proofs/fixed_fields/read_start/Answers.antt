use Rattle.edf_field.specs.Number.{field}
use Rattle.edf_field.specs.Text.{after_startdate_of}
use Rattle.edf_header.proofs.FixedRows.{start-in, start-no-date, start-no-time, start-differs}
use Rattle.edf_header.proofs.fixed_fields.read_start.Goals as goal

pub returns-in-Ok : goal.returns-in-Ok
returns-in-Ok c =
    let s = c.args.startdate.now in
    start-in c.args.bytes.now c.field_at-date.result c.field_at-time.result s
    (after_startdate_of s (field c.args.bytes.now 88 80)) c.in-Ok.start c.requires.clean
    c.requires.recording
    c.field_at-date.ensures c.field_at-time.ensures c.in-Ok.ensures

pub returns-in-Err-Date : goal.returns-in-Err-Date
returns-in-Err-Date c =
    let s = c.args.startdate.now in
    start-no-date c.args.bytes.now c.field_at-date.result c.field_at-time.result s
    (after_startdate_of s (field c.args.bytes.now 88 80)) c.in-Err-Date.field-0 c.requires.clean
    c.requires.recording
    c.field_at-date.ensures c.field_at-time.ensures c.in-Err-Date.field-0-is c.in-Err-Date.ensures

pub returns-in-Err-Time : goal.returns-in-Err-Time
returns-in-Err-Time c =
    let s = c.args.startdate.now in
    start-no-time c.args.bytes.now c.field_at-date.result c.field_at-time.result s
    (after_startdate_of s (field c.args.bytes.now 88 80)) c.in-Err-Time.field-0 c.requires.clean
    c.requires.recording
    c.field_at-date.ensures c.field_at-time.ensures c.in-Err-Time.field-0-is c.in-Err-Time.ensures

pub returns-in-Err-Differs : goal.returns-in-Err-Differs
returns-in-Err-Differs c =
    let s = c.args.startdate.now in
    start-differs c.args.bytes.now c.field_at-date.result c.field_at-time.result s
    (after_startdate_of s (field c.args.bytes.now 88 80)) c.in-Err-Differs.field-0 c.requires.clean
    c.requires.recording
    c.field_at-date.ensures c.field_at-time.ensures c.in-Err-Differs.field-0-is
    c.in-Err-Differs.ensures
