use Rattle.std.proofs.Common.{◌∙◌, ◌+◌, ◌++◌, ◌∷◌, [], ℕ, List, Bool, inr, refl, sym, ap, subst}
use Rattle.std.proofs.Common.{append-nil}
use Rattle.std.proofs.Common.{map, take, drop, string_bytes, Global}
use Rattle.std.specs.Prelude.{Option, Ok}
use Rattle.edf_cli.specs.Output.{output_change}
use Rattle.edf_cli.specs.declared.status.Status.{Status}
use Rattle.edfruns_command.specs.Inside.{OpensUpTo}
use Rattle.edfruns_command.specs.Lines.{standard_output, unwritten_line}
use Rattle.edf_cli.proofs.Undone.{trouble-undone}
use Rattle.edfruns_command.specs.Listed.{AreListed, StopsListing, IsFileListed, CutsLines}
use Rattle.edfruns_command.specs.Listed.{OpensEach}
use Rattle.edfruns_command.specs.Listed.{held_before, held_after, file_label}
use Rattle.edfruns_command.proofs.Listed.{listed_more, each_more, each_cut, names_more}
use Rattle.edfruns_command.proofs.Listed.{names_around}
use Rattle.edfruns_command.proofs.list_command.list.Goals as goal

pub loop-file-init : goal.loop-file-init
loop-file-init g c = record {
  listed = (refl, refl, refl);
  opened = record { some = refl; all = λ done. sym (append-nil _) };
  same = λ name. refl;
}

pub loop-file-preserved : goal.loop-file-preserved
loop-file-preserved g c =
    let bytes = g.I.Inputs.bytes c.args.inputs.now in
    let several = c.are_several-several.result in
    let files = c.args.files.now in
    let i = c.loop-file.file-index in
    let text = string_bytes {Z = Global} in
    let name = text c.file-item.result in
    let names = map text (take i files) in
    let one = c.in-Ok.one in
    let out = output_change g.O.Output c.args.out.now c.list_file.new.out in
    let err = output_change g.F.Output c.args.err.now c.list_file.new.err in
    let mid_out = output_change g.O.Output c.loop-file.out c.list_file.new.out in
    let mid_err = output_change g.F.Output c.loop-file.err c.list_file.new.err in
    let before = g.I.Inputs.opened c.args.inputs.now in
    let mid = g.I.Inputs.opened c.loop-file.inputs in
    let after = g.I.Inputs.opened c.list_file.new.inputs in
    let more = names_more text files i c.file-item.result c.loop-file-test.true c.file-item.is in
    let told = subst (λ (b : Option (List ℕ)). IsFileListed mid_out mid_err b
    (file_label several c.as_str.result.now) c.as_str.result.now one)
    (c.loop-file.invariant.same c.as_str.result.now) c.in-Ok.ensures.listed in
    let listed = subst (λ (n : List ℕ). IsFileListed mid_out mid_err (bytes n)
    (file_label several n) n one) c.as_str.ensures.value told in
    let opened = subst (λ (n : List ℕ). OpensUpTo mid after n 1) c.as_str.ensures.value
    c.in-Ok.ensures.opened in
    record {
      listed = subst (λ (l : List (List ℕ)). AreListed bytes several (held_before out)
          (held_after out) (held_before err) (held_after err) l c.worse-status.result) (sym more)
          (subst (λ (s : Status). AreListed bytes several (held_before out)
          (held_after out) (held_before err) (held_after err) (names ++ (name ∷ [])) s)
          (sym c.worse-status.ensures)
          (listed_more bytes several (held_before out) (held_before mid_out)
          (held_after out) (held_before err) (held_before mid_err) (held_after err) names name
          c.loop-file.status one c.loop-file.invariant.listed listed));
      opened = subst (λ (l : List (List ℕ)). OpensEach before after l c.worse-status.result)
          (sym more) (subst (λ (s : Status). OpensEach before after (names ++ (name ∷ [])) s)
          (sym c.worse-status.ensures)
          (each_more before mid after names name c.loop-file.status
          c.loop-file.invariant.opened opened one
          (λ done. c.in-Ok.ensures.done (ap (λ (s : Status). Ok s) done)
          ∙ ap (λ (n : List ℕ). mid ++ (n ∷ [])) c.as_str.ensures.value)));
      same = λ other. c.in-Ok.ensures.same other ∙ c.loop-file.invariant.same other;
    }

pub returns-in-Err-clause-listed : goal.returns-in-Err-clause-listed
returns-in-Err-clause-listed g c =
    let bytes = g.I.Inputs.bytes c.args.inputs.now in
    let several = c.are_several-several.result in
    let files = c.args.files.now in
    let i = c.loop-file.file-index in
    let text = string_bytes {Z = Global} in
    let out = output_change g.O.Output c.args.out.now c.list_file.new.out in
    let err = output_change g.F.Output c.args.err.now c.list_file.new.err in
    let mid_out = output_change g.O.Output c.loop-file.out c.list_file.new.out in
    let mid_err = output_change g.F.Output c.loop-file.err c.list_file.new.err in
    let ended = c.in-Err.cut in
    let told = subst (λ (b : Option (List ℕ)). CutsLines mid_out mid_err b
    (file_label several c.as_str.result.now) ended)
    (c.loop-file.invariant.same c.as_str.result.now) c.in-Err.ensures.listed in
    inr (subst (λ (s : Bool). StopsListing bytes s (held_before out) (held_after out)
    (held_before err) (held_after err) (map text files) ended) c.are_several-several.ensures
    (record {
      front = map text (take i files);
      name = text c.file-item.result;
      later = map text (drop (i + 1) files);
      parts = names_around text files i c.file-item.result c.loop-file-test.true c.file-item.is;
      mid = held_before mid_out;
      mid_err = held_before mid_err;
      earlier = c.loop-file.status;
      listed = c.loop-file.invariant.listed;
      cut = subst (λ (n : List ℕ). CutsLines mid_out mid_err (bytes n) (file_label several n)
          ended) c.as_str.ensures.value told;
    }))

pub returns-in-Err-clause-opened : goal.returns-in-Err-clause-opened
returns-in-Err-clause-opened g c =
    let files = c.args.files.now in
    let i = c.loop-file.file-index in
    let text = string_bytes {Z = Global} in
    let mid = g.I.Inputs.opened c.loop-file.inputs in
    let after = g.I.Inputs.opened c.list_file.new.inputs in
    each_cut (g.I.Inputs.opened c.args.inputs.now) mid after (map text (take i files))
    (text c.file-item.result) c.loop-file.status c.loop-file.invariant.opened
    (subst (λ (n : List ℕ). OpensUpTo mid after n 1) c.as_str.ensures.value
    c.in-Err.ensures.opened) (map text (drop (i + 1) files)) (map text files)
    (names_around text files i c.file-item.result c.loop-file-test.true c.file-item.is) c.in-Err.cut
    (trouble-undone (output_change g.F.Output c.loop-file.err c.list_file.new.err)
    (unwritten_line standard_output) c.in-Err.cut c.in-Err.ensures.listed.1)
