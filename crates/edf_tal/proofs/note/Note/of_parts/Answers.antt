use Rattle.std.proofs.lemmas.Str.{IsUtf8-string_bytes}
use Rattle.edf_tal.proofs.note.Note.of_parts.Goals as goal

pub invariant_of-result : goal.invariant_of-result
invariant_of-result c = record {
  onset = c.instant_is_in_window.ensures;
  duration = c.requires.duration;
  text = c.requires.text;
  utf8 = IsUtf8-string_bytes c.args.text;
}
