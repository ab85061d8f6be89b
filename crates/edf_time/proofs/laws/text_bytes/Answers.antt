use Rattle.std.proofs.lemmas.List.Elements.{All-from_recursion}
use Rattle.edf_time.specs.Civil.{IsVisible}
use Rattle.edf_time.proofs.VisibleBytes.{date-visible, time-visible, id_date-visible}
use Rattle.edf_time.proofs.VisibleBytes.{instant-visible}
use Rattle.edf_time.proofs.laws.text_bytes.Goals as goal

pub returns : goal.returns
returns c = record {
  date = λ text days t. All-from_recursion IsVisible text (date-visible text days t);
  time = λ text seconds t. All-from_recursion IsVisible text (time-visible text seconds t);
  id_date = λ text days t. All-from_recursion IsVisible text (id_date-visible text days t);
  instant = λ text n t. All-from_recursion IsVisible text (instant-visible text n t);
}
