use Rattle.std.proofs.Common.{◌≡◌, ◌<◌, List, ◌++◌, ◌∷◌, [], length, refl, ap, ◌∙◌, sym, subst}
use Rattle.std.proofs.Common.{arith, Ok, Err, Some, Result, false}
use Rattle.std.specs.Result.{OnOk, is_err}
use Rattle.std.proofs.lemmas.Bool.{true≢false}
use Rattle.edf_header.specs.Header.{Layout, IsLayout}
use Rattle.edf_header.specs.declared.limits.TheConstants.{MOST_RECORDS}
use Rattle.edf_fragment.specs.Fragment.{DataRecord}
use Rattle.edf_fragment.specs.Reading.{progress_after, ReadsRecord}
use Rattle.edf_fragment.specs.Whole.{HasReadRecords}
use Rattle.edf_fragment.specs.declared.advance.Progress.{Progress}
use Rattle.edf_fragment.proofs.Fragments.{reads_none}
use Rattle.edf_fragment.proofs.Runs.{next_of, reads_more}
use Rattle.edf_runs.specs.ByOnset.{annotations_of}
use Rattle.edf_runs.specs.Runs.{AreListed}
use Rattle.edf_runs.specs.declared.run.Run.{Run}
use Rattle.edf_runs.proofs.Growing.{nothing_listed}
use Rattle.edf_picture.specs.declared.extent.Note.{Note}
use Rattle.edf_tal.specs.Tal.{Annotation}
use Rattle.edfruns_command.specs.Picturing.{AreNoted}
use Rattle.edfruns_command.proofs.Noting.{annotations-push}
use Rattle.edfruns_command.proofs.picture_command.see_records.Goals as goal

-- what is told of an answer without an error
on-ok : {T E : Type 0} (r : Result T E) (told : Type 0) → OnOk r told → is_err r ≡ false → told
on-ok (Ok x) told given test = given
on-ok (Err x) told given test = absurd (true≢false test)

pub records-init : goal.records-init
records-init g c =
    let left = g.R.Input.remaining c.args.input.now in
    record {
      header = refl;
      state = ap (λ (x : Progress). x.state) c.requires.first;
      so_far = (
        [],
        subst (λ (p : Progress). HasReadRecords c.args.fragment.now.header left left [] p)
            (sym c.requires.first) (reads_none c.args.fragment.now.header left),
        subst (λ (l : List Run). AreListed c.args.duration [] l) (sym c.new-sight.ensures.runs)
            (nothing_listed c.args.duration),
        subst (λ (l : List Note). AreNoted [] l) (sym c.new-sight.ensures.notes) tt,
      );
    }

pub records-preserved : goal.records-preserved
records-preserved g c =
    let before = c.records.invariant in
    let from = c.records.fragment.progress in
    let to = c.next.new.self.progress in
    let r = c.in-Some.record in
    let l = c.args.fragment.now.header in
    let mid = g.R.Input.remaining c.records.input in
    let rest = g.R.Input.remaining c.next.new.input in
    let records = before.so_far.0 in
    let step = next_of c.records.fragment.header from to mid rest c.in_ok-record.field-0 r
    before.state c.in_ok-record.ensures.answer c.in-Some.is in
    let to_is : to ≡ progress_after l from (Ok (Some r)) =
    subst (λ (x : Layout). to ≡ progress_after x from (Ok (Some r))) before.header step.0 in
    let gives : ReadsRecord l from mid rest r =
    subst (λ (x : Layout). ReadsRecord x from mid rest r) before.header step.1 in
    let read = reads_more l (g.R.Input.remaining c.args.input.now) mid rest records from to r
    before.so_far.1 to_is gives in
    let layout : IsLayout l = subst (λ (x : Layout). IsLayout x) c.header.ensures
    c.header_is_layout.ensures in
    let few : length records < MOST_RECORDS =
    omega (arith, layout.count.1, gives.may_come, before.so_far.1.given) in
    let grows : (rs : List DataRecord) → length rs < MOST_RECORDS →
    AreListed c.args.duration rs c.records.sight.runs.items
    → AreListed c.args.duration (rs ++ r ∷ []) c.add.new.self.runs.items =
    on-ok c.add.result _ c.add.ensures.runs
    (sym c.is_err.ensures.value ∙ c.if-is_err.false) in
    let noted : (all : List Annotation) → AreNoted all c.records.sight.notes.items →
    AreNoted (all ++ r.annotations) c.add.new.self.notes.items =
    on-ok c.add.result _ c.add.ensures.notes
    (sym c.is_err.ensures.value ∙ c.if-is_err.false) in
    record {
      header = c.in_ok-record.ensures.header ∙ before.header;
      state = ap (λ (x : Progress). x.state) to_is;
      so_far = (
        records ++ r ∷ [],
        read,
        grows records few before.so_far.2,
        subst (λ (all : List Annotation). AreNoted all c.add.new.self.notes.items)
            (sym (annotations-push records r))
            (noted (annotations_of records) before.so_far.3),
      );
    }
