use Rattle.edf_field.proofs.Cited.{duration-value}
use Rattle.edf_header.proofs.FixedLaws.{is-fixed}
use Rattle.edf_field.specs.Number.{field}
use Rattle.edf_header.specs.Fixed.{fixed_at}
use Rattle.edf_header.proofs.fixed.fixed_of.Goals as goal

pub invariant_of-result : goal.invariant_of-result
invariant_of-result c =
    let a = c.args in
    rw (c.field_at-patient.ensures, c.field_at-recording.ensures, c.field_at-duration.ensures) (
      is-fixed a.bytes.now (fixed_at a.bytes.now a.startdate a.start a.count a.signals)
          c.requires.spelled,
      duration-value (field a.bytes.now 244 8) a.nanos c.requires.duration,
    )

pub returns : goal.returns
returns c = rw (
  c.field_at-patient.ensures,
  c.field_at-recording.ensures,
  c.field_at-duration.ensures,
) c.requires.spelled
