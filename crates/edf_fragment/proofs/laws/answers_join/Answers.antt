use Rattle.edf_fragment.proofs.Fragments.{reads_none, one_more_read, all_read, refused_then}
use Rattle.edf_fragment.proofs.Fragments.{open_refused}
use Rattle.edf_fragment.proofs.laws.answers_join.Goals as goal

pub returns : goal.returns
returns c = record {
  none = reads_none;
  more = one_more_read;
  end = all_read;
  fault = refused_then;
  refused = open_refused;
}
