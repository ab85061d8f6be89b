use Rattle.edf_runs.proofs.run_list.list_outline.Goals as goal

pub returns : goal.returns
returns c = λ left rest reads. record {
  layout = reads.layout;
  records = reads.records;
  read = reads.read;
  identity = reads.is_outline.identity;
  listed = c.in_ok-runs.ensures reads.layout.key reads.records reads.is_outline;
}
