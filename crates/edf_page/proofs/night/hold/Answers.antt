use Rattle.std.proofs.Common.{map}
use Rattle.edf_holdings.specs.Holdings.{nothing_held}
use Rattle.edf_export.proofs.Headline.{tells-one}
use Rattle.edf_page.specs.Night.{held_after}
use Rattle.edf_page.proofs.night.hold.Goals as goal

pub returns : goal.returns
returns c has =
    let told = tells-one (map (λ file. file.bytes.now) c.args.files.now) in
    let taken = c.in_ok-taken.ensures nothing_held told.submissions has told.parsed in
    record {
      submissions = told.submissions;
      parsed = told.parsed;
      taken = record { answers = taken.answers; answered = taken.answered; each = taken.lines_are };
      listed = c.in_ok-listed.ensures.lists (held_after told.submissions) taken.has;
      exported = c.in_ok-exported.ensures.exports (held_after told.submissions)
          (c.in_ok-listed.ensures.stays (held_after told.submissions) taken.has);
    }
