use Rattle.std.proofs.Common.{ap, ◌∙◌, ◌++◌, ◌∷◌, []}
use Rattle.edf_tal.specs.Tal.{Annotation}
use Rattle.edf_tal.proofs.Lists.{pushed-next, pushed-more, pushed-all}
use Rattle.edf_tal.proofs.read.push_texts.Goals as goal

pub make_note-requires-clause-text : goal.make_note-requires-clause-text
make_note-requires-clause-text c =
    (pushed-next c.args.onset c.args.duration c.args.texts.now c.loop-text.rest.now
    c.in-Some.text.now c.in-Some.more.now c.args.list.now.items c.loop-text.list.items
    c.loop-text.invariant c.in-Some.ensures.0 c.in-Some.ensures.1).is_text

pub make_note-requires-clause-utf8 : goal.make_note-requires-clause-utf8
make_note-requires-clause-utf8 c =
    (pushed-next c.args.onset c.args.duration c.args.texts.now c.loop-text.rest.now
    c.in-Some.text.now c.in-Some.more.now c.args.list.now.items c.loop-text.list.items
    c.loop-text.invariant c.in-Some.ensures.0 c.in-Some.ensures.1).good

pub loop-text-preserved : goal.loop-text-preserved
loop-text-preserved c =
    pushed-more c.args.onset c.args.duration c.args.texts.now c.loop-text.rest.now
    c.in-Some.text.now c.in-Some.more.now c.args.list.now.items c.loop-text.list.items
    c.push.new.self.items c.loop-text.invariant c.in-Some.ensures.0 c.in-Some.ensures.1
    (c.in_ok-push.ensures.items ∙ ap (λ (n : Annotation). c.loop-text.list.items
    ++ n ∷ []) c.in_ok-note.ensures)

pub returns : goal.returns
returns c =
    pushed-all c.args.onset c.args.duration c.args.texts.now c.loop-text.rest.now
    c.args.list.now.items c.loop-text.list.items c.loop-text.invariant c.in_default.ensures
