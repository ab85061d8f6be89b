use Rattle.edf_field.proofs.Cited.{duration-value}
use Rattle.edf_field.specs.Number.{field}
use Rattle.std.proofs.lemmas.Bool.{iff_false}
use Rattle.edf_header.proofs.Faults.{clean-4, clean-5}
use Rattle.edf_header.proofs.identity_checks.check_key_prefix.Goals as goal

pub returns-then-not-has_recording : goal.returns-then-not-has_recording
returns-then-not-has_recording c = (
  iff_false c.has_recording.ensures c.if-not-has_recording.true,
  clean-4 c.args.bytes.now (c.has_length.ensures.0 c.if-not-has_length.false) c.in_default.ensures
      (c.is_patient.ensures.0 c.if-not-is_patient.false),
)

pub returns-in-None : goal.returns-in-None
returns-in-None c = (
  c.in-None.ensures,
  clean-5 c.args.bytes.now (c.has_length.ensures.0 c.if-not-has_length.false) c.in_default.ensures
      (c.is_patient.ensures.0 c.if-not-is_patient.false)
      (c.has_recording.ensures.0 c.if-not-has_recording.false),
)

pub returns-in-Some-read_duration : goal.returns-in-Some-read_duration
returns-in-Some-read_duration c = (
  record {
    len = c.has_length.ensures.0 c.if-not-has_length.false;
    printable = c.in_default.ensures;
    patient = c.is_patient.ensures.0 c.if-not-is_patient.false;
    mark = (c.has_recording.ensures.0 c.if-not-has_recording.false).0;
    after = (c.has_recording.ensures.0 c.if-not-has_recording.false).1;
    duration = (c.in-Some-read_duration.nanos, c.in-Some-read_duration.ensures);
  },
  duration-value (field c.args.bytes.now 150 8) c.in-Some-read_duration.nanos
      c.in-Some-read_duration.ensures,
)
