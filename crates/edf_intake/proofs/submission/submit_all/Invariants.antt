-- What the inputs so far were answered and left; the others are as they were.
use Rattle.std.proofs.Common.{◌≡◌, ◌≤◌, drop, length, map, take, vec_len, vec_capacity}
use Rattle.edf_fragment.specs.Call.{input_state}
use Rattle.edf_intake.specs.Batch.{AreSubmitted, IsOutsideTransactionAfterLast}
use Rattle.edf_intake.proofs.submission.submit_all.Given as goal

abbrev pub invariant-loop-input : goal.invariant-loop-input
invariant-loop-input g l = record {
  cap : l.store.cap ≡ l.initial.store.cap;
  submitted : AreSubmitted g.S.Store l.initial.store l.store
      (map (input_state g.R.Input) (take l.input-index l.initial.inputs))
      (map (input_state g.R.Input) (take l.input-index l.inputs)) l.answers.items;
  ended : IsOutsideTransactionAfterLast g.S.Store l.initial.store l.store l.answers.items;
  others : drop l.input-index l.inputs ≡ drop l.input-index l.initial.inputs;
  counted : vec_len l.answers ≡ l.input-index;
  reserved : length l.inputs ≤ vec_capacity l.answers;
}
