-- Keys, and data records, are compared part by part; a law says that each test is equality.
use Rattle.std.specs.Prelude.{Bool, ◌==◌, ◌&&◌, bytes_eq}
use Rattle.std.specs.Option.{option_eq}
use Rattle.std.specs.Bool.{beq}
use Rattle.std.specs.Cmp.Lexicographic.{pointwise}
use Rattle.edf_header.specs.Key.{Key}
use Rattle.edf_tal.specs.Tal.{Annotation}
use Rattle.edf_fragment.specs.Fragment.{DataRecord}

unfoldable pub same_key : Key → Key → Bool
same_key k q =
    bytes_eq k.patient q.patient && beq k.dated q.dated && bytes_eq k.after q.after && bytes_eq
    k.duration q.duration
    && pointwise bytes_eq k.signals q.signals

unfoldable pub same_annotation : Annotation → Annotation → Bool
same_annotation a b = (a.onset == b.onset) && option_eq ◌==◌ a.duration b.duration && bytes_eq
    a.text b.text

unfoldable pub same_record : DataRecord → DataRecord → Bool
same_record r s =
    (r.start == s.start) && bytes_eq r.samples s.samples && pointwise same_annotation r.annotations
    s.annotations
