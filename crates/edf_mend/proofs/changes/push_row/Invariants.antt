use Rattle.std.proofs.Common.{◌≡◌, ◌+◌, ◌*◌, ◌++◌, take}
use Rattle.std.specs.List.{flat_map}
use Rattle.edf_field.specs.Number.{field}
use Rattle.edf_header.specs.Fields.{fields}
use Rattle.edf_mend.specs.Changes.{changed}
use Rattle.edf_mend.proofs.changes.push_row.Given as goal

abbrev pub invariant-loop-at : goal.invariant-loop-at
invariant-loop-at l = l.out.items ≡ l.fn.out.items
    ++ flat_map (λ f. changed f.0 (l.i + 1) (256 + l.n * f.0 + l.i * f.1)
    (field l.old f.0 f.1) (field l.new f.0 f.1)) (take l.at-index fields)
