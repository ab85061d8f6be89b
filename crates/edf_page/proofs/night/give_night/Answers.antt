use Rattle.std.proofs.Common.{List, sym, subst, ◌∙◌}
use Rattle.std.proofs.lemmas.List.{length-map}
use Rattle.std.specs.List.{AllZip}
use Rattle.edf_header.specs.Key.{Key}
use Rattle.edf_holdings.proofs.KeyLists.{keys_are_one}
use Rattle.edf_export.specs.Headline.{IsOnlyCanonicalFile}
use Rattle.edf_page.specs.InsideHeld.{IsOfFile}
use Rattle.edf_page.specs.Night.{held_after, IsRecording}
use Rattle.edf_page.proofs.Zips.{zip_through}
use Rattle.edf_page.proofs.night.give_night.Goals as goal

pub returns : goal.returns
returns c =
    let held = c.in_ok-held.ensures in
    let h = held_after held.submissions in
    let keys = held.listed.keys in
    let same = keys_are_one h held.exported.keys keys held.exported.are_keys held.listed.are_keys in
    let each = zip_through (λ (k : Key) file. IsOnlyCanonicalFile file k (h k))
    (λ file r. IsOfFile file.items r) (IsRecording h) (λ file. file.items)
    (λ k file r only is. is h k only) _ _ _ held.exported.each c.in_ok-recordings.ensures in
    record {
      each = length-map c.args.files.now (λ file. file.name.now)
          ∙ sym (length-map c.args.files.now (λ file. file.bytes.now));
      submissions = held.submissions;
      parsed = held.parsed;
      taken = held.taken;
      given = record {
        keys = keys;
        are_keys = held.listed.are_keys;
        lines = held.listed.lines;
        each = subst (λ (ks : List Key). AllZip (IsRecording h) ks
            c.in_ok-recordings.recordings.items) same each;
      };
    }
