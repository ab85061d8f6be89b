use Rattle.edfruns_command.proofs.runs_command.run_runs.Goals as goal

pub returns-in-List-clause-done : goal.returns-in-List-clause-done
returns-in-List-clause-done g c =
    rw (c.in-List.is, ← c.as_slice.ensures.value) c.list.ensures.listed

pub returns-in-List-clause-opened : goal.returns-in-List-clause-opened
returns-in-List-clause-opened g c =
    rw (c.in-List.is, ← c.as_slice.ensures.value) c.list.ensures.opened

pub returns-in-Canonical-clause-done : goal.returns-in-Canonical-clause-done
returns-in-Canonical-clause-done g c =
    rw (c.in-Canonical.is, ← c.as_str.ensures.value) c.canonical.ensures.written

pub returns-in-Fill-clause-done : goal.returns-in-Fill-clause-done
returns-in-Fill-clause-done g c =
    rw (c.in-Fill.is, ← c.as_str-in-Fill.ensures.value) c.fill_file.ensures.written

pub returns-in-Cut-clause-done : goal.returns-in-Cut-clause-done
returns-in-Cut-clause-done g c =
    rw (c.in-Cut.is, ← c.as_str-in-Cut.ensures.value) c.cut.ensures.written

pub returns-in-Split-clause-done : goal.returns-in-Split-clause-done
returns-in-Split-clause-done g c = rw (
  c.in-Split.is,
  ← c.as_str-in-Split.ensures.value,
  ← c.as_str-in-Split-2.ensures.value,
) c.split.ensures.split

pub returns-in-Picture-clause-done : goal.returns-in-Picture-clause-done
returns-in-Picture-clause-done g c =
    rw (c.in-Picture.is, ← c.as_str-in-Picture.ensures.value) c.picture.ensures.pictured

pub returns-in-Compare-clause-done : goal.returns-in-Compare-clause-done
returns-in-Compare-clause-done g c = rw (
  c.in-Compare.is,
  ← c.as_str-in-Compare.ensures.value,
  ← c.as_str-in-Compare-2.ensures.value,
) c.compare.ensures.compared

pub returns-in-Compare-clause-opened : goal.returns-in-Compare-clause-opened
returns-in-Compare-clause-opened g c = rw (
  c.in-Compare.is,
  ← c.as_str-in-Compare.ensures.value,
  ← c.as_str-in-Compare-2.ensures.value,
) c.compare.ensures.opened
