use Rattle.std.proofs.Common.{◌≡◌, ◌∙◌, ◌+◌, ◌-◌, ◌<◌, take, slice_range, length, position, Option}
use Rattle.std.proofs.Common.{None, IfSome, List, ℕ, arith, rules, subst, sym}
use Rattle.std.proofs.lemmas.Grind.{common_steps}
use Rattle.edf_serve.specs.Lines.{BeginsWith}
use Rattle.edf_serve.specs.declared.lines.Found.{Found}
use Rattle.edf_serve.proofs.Feeds.{Feedless, is_feed, begins-fed, begins-last, begins-long, no-feed}
use Rattle.edf_serve.proofs.Feeds.{take-kept, take-put, read-more}
use borrow.Rule.Slice.PartMut.{put_mid}
use Rattle.edf_serve.proofs.lines.gather.Goals as goal

-- the line that was found among the bytes that were gathered
abbrev Begins : Option (List ℕ) → List ℕ → Found → Type 0
Begins left bytes found = IfSome left (BeginsWith (take found.end bytes) (take found.line bytes)
    (slice_range bytes found.taken found.end))

pub returns-in-Some-clause-line : goal.returns-in-Some-clause-line
returns-in-Some-clause-line g c is =
    subst (Begins (g.R.Input.remaining c.loop-to.input) c.loop-to.buffer) (sym c.line.ensures)
    (begins-fed c.loop-to.buffer c.loop-to.to c.in-Some.at _
    (sym c.line_feed.ensures ∙ c.in-Some.is) c.loop-to.invariant.0 (omega arith))

pub returns-in-Ok-eq0-2-clause-line : goal.returns-in-Ok-eq0-2-clause-line
returns-in-Ok-eq0-2-clause-line g c is =
    let inv = c.loop-to.invariant in
    let to = c.loop-to.to in
    let kept = c.loop-to.buffer in
    let room = length kept - to in
    let bytes = put_mid to room kept c.read.new.buf in
    let size : length bytes ≡ 65537 = grind (arith, common_steps) in
    let part : length c.read.new.buf ≡ room = grind (arith, common_steps) in
    let none : position is_feed (take to kept) ≡ None = search rules in
    let has_room : 0 < length c.read.new.buf =
    omega (arith, part, inv.1, c.loop-to-test.true) in
    subst (Begins (g.R.Input.remaining c.read.new.self) bytes) (sym c.line-in-Ok-eq0-2.ensures)
    (begins-last bytes to _
    (subst Feedless (sym (take-kept to room kept c.read.new.buf inv.0))
    (no-feed (take to kept) none))
    (omega (arith, size, inv.0, inv.1)) (omega (arith, c.if-to-eq0.false))
    (omega (arith, c.loop-to-test.true))
    (c.in-Ok-eq0.ensures.bytes.1 c.in-Ok-eq0.field-0-test has_room))

pub returns-in-Some-line_feed-clause-line : goal.returns-in-Some-line_feed-clause-line
returns-in-Some-line_feed-clause-line g c is =
    subst (Begins (g.R.Input.remaining c.loop-to.input) c.loop-to.buffer)
    (sym c.line-in-Some-line_feed.ensures)
    (begins-fed c.loop-to.buffer c.loop-to.to c.in-Some-line_feed.at _
    (sym c.line_feed-2.ensures ∙ c.in-Some-line_feed.is) c.loop-to.invariant.0 (omega arith))

pub returns-in-None-clause-line : goal.returns-in-None-clause-line
returns-in-None-clause-line g c is =
    subst (Begins (g.R.Input.remaining c.loop-to.input) c.loop-to.buffer)
    (sym c.line-in-None.ensures)
    (begins-long c.loop-to.buffer c.loop-to.to _
    (no-feed (take c.loop-to.to c.loop-to.buffer) (sym c.line_feed-2.ensures ∙ c.in-None.is))
    c.loop-to.invariant.0 (omega arith))

pub loop-to-preserved : goal.loop-to-preserved
loop-to-preserved g c =
    let inv = c.loop-to.invariant in
    let size : length (put_mid c.loop-to.to (length c.loop-to.buffer - c.loop-to.to)
    c.loop-to.buffer c.read.new.buf) ≡ 65537 =
    grind (arith, common_steps) in
    let part : length c.read.new.buf ≡ length c.loop-to.buffer - c.loop-to.to =
    grind (arith, common_steps) in (
      omega (arith, c.in-Ok.ensures.bound.0, size, part, inv.0, inv.1),
      size,
      read-more (g.R.Input.remaining c.args.input.now) (g.R.Input.remaining c.loop-to.input)
          (g.R.Input.remaining c.read.new.self) (take c.args.end c.args.buffer.now)
          (take c.loop-to.to c.loop-to.buffer)
          (take (c.loop-to.to + c.in-Ok.count)
          (put_mid c.loop-to.to (length c.loop-to.buffer - c.loop-to.to) c.loop-to.buffer
          c.read.new.buf))
          inv.2.0 (take c.in-Ok.count c.read.new.buf) inv.2.1 inv.2.2 c.in-Ok.ensures.bytes.0
          (take-put c.loop-to.to (length c.loop-to.buffer - c.loop-to.to) c.in-Ok.count
          c.loop-to.buffer c.read.new.buf
          inv.0 c.in-Ok.ensures.bound.0),
      c.in-Ok.ensures.failures ∙ inv.3,
    )
