use Rattle.std.proofs.Common.{◌≡◌, List, ◌++◌, ◌∷◌, [], refl, ap, ◌∙◌, sym, subst, Ok, Some, rules}
use Rattle.edf_header.specs.Header.{Layout}
use Rattle.edf_fragment.specs.Reading.{progress_after, ReadsRecord}
use Rattle.edf_fragment.specs.Fragment.{DataRecord}
use Rattle.edf_fragment.specs.Whole.{HasReadRecords}
use Rattle.edf_fragment.specs.declared.advance.Progress.{Progress}
use Rattle.edf_fragment.proofs.Fragments.{reads_none}
use Rattle.edf_fragment.proofs.Runs.{next_of, reads_more}
use Rattle.edf_runs.specs.Outline.{AreSpans}
use Rattle.edf_runs.proofs.outlining.read_spans.Goals as goal

pub records-init : goal.records-init
records-init g c =
    let left = g.R.Input.remaining c.args.input.now in
    record {
      header = refl;
      state = ap (λ (x : Progress). x.state) c.requires;
      so_far = (
        [],
        subst (λ (p : Progress). HasReadRecords c.args.fragment.now.header left left [] p)
            (sym c.requires) (reads_none c.args.fragment.now.header left),
        record {
          starts = c.new.ensures.items;
          counts = c.new-2.ensures.items;
          notes = c.new-3.ensures.items;
        },
      );
      count = refl;
    }

pub records-preserved : goal.records-preserved
records-preserved g c =
    let before = c.records.invariant in
    let from = c.records.fragment.progress in
    let to = c.next.new.self.progress in
    let r = c.in-Some.data_record in
    let l = c.args.fragment.now.header in
    let mid = g.R.Input.remaining c.records.input in
    let rest = g.R.Input.remaining c.next.new.input in
    let records = before.so_far.0 in
    let step = next_of c.records.fragment.header from to mid rest c.in_ok-data_record.field-0 r
    before.state c.in_ok-data_record.ensures.answer c.in-Some.is in
    let to_is : to ≡ progress_after l from (Ok (Some r)) =
    subst (λ (x : Layout). to ≡ progress_after x from (Ok (Some r))) before.header step.0 in
    let gives : ReadsRecord l from mid rest r =
    subst (λ (x : Layout). ReadsRecord x from mid rest r) before.header step.1 in
    let read = reads_more l (g.R.Input.remaining c.args.input.now) mid rest records from to r
    before.so_far.1 to_is gives in
    let grows : (rs : List DataRecord) → AreSpans rs c.records.spans →
    AreSpans (rs ++ r ∷ []) c.push_record.new.spans = search rules in
    record {
      header = c.in_ok-data_record.ensures.header ∙ before.header;
      state = ap (λ (x : Progress). x.state) to_is;
      so_far = (records ++ r ∷ [], read, grows records before.so_far.2);
      count = c.in_ok-data_record.ensures.counted ∙ before.count;
    }
