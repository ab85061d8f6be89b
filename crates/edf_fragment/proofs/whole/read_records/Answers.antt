use Rattle.std.proofs.Common.{◌≡◌, List, ◌++◌, ◌∷◌, [], ap, ◌∙◌, sym, subst, rules, Ok, Some}
use Rattle.edf_header.specs.Header.{Layout}
use Rattle.edf_fragment.specs.Fragment.{DataRecord}
use Rattle.edf_fragment.specs.Reading.{progress_after, ReadsRecord}
use Rattle.edf_fragment.specs.Whole.{HasReadRecords}
use Rattle.edf_fragment.specs.declared.advance.Progress.{Progress}
use Rattle.edf_fragment.proofs.Runs.{next_of, reads_more}
use Rattle.edf_fragment.proofs.whole.read_records.Goals as goal

pub records-preserved : goal.records-preserved
records-preserved g c =
    let before = c.records.invariant in
    let from = c.records.fragment.progress in
    let to = c.next.new.self.progress in
    let r = c.in-Some.record in
    let l = c.args.fragment.now.header in
    let mid = g.R.Input.remaining c.records.input in
    let rest = g.R.Input.remaining c.next.new.input in
    let step = next_of c.records.fragment.header from to mid rest c.in_ok-record.field-0 r
    before.status c.in_ok-record.ensures.answer c.in-Some.is in
    let to_is : to ≡ progress_after l from (Ok (Some r)) =
    subst (λ (x : Layout). to ≡ progress_after x from (Ok (Some r))) before.header step.0 in
    let gives : ReadsRecord l from mid rest r =
    subst (λ (x : Layout). ReadsRecord x from mid rest r) before.header step.1 in
    let list : c.push.new.self.items ≡ c.records.records.items ++ r ∷ [] = search rules in
    let read = reads_more l (g.R.Input.remaining c.args.input.now) mid rest c.records.records.items
    from to r before.so_far to_is gives in
    record {
      header = c.in_ok-record.ensures.header ∙ before.header;
      status = ap (λ (x : Progress). x.state) to_is;
      so_far = subst (λ (x : List DataRecord).
          HasReadRecords l (g.R.Input.remaining c.args.input.now) rest x to) (sym list) read;
      count = c.in_ok-record.ensures.counted ∙ before.count;
    }
