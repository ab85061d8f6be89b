-- The headline, from the laws of lists of submissions and of canonical files.
use Rattle.std.proofs.Common.{◌≡◌, ◌≢◌, ℕ, ◌≤◌, List, [], ◌∷◌, ◌++◌, length}
use Rattle.std.proofs.Common.{refl, sym, ap, ◌∙◌, subst, arith}
use Rattle.std.specs.List.{AllByRecursion, AllZip}
use Rattle.edf_header.specs.declared.limits.TheConstants.{MOST_RECORDS}
use Rattle.edf_header.specs.Key.{Key}
use Rattle.edf_fragment.specs.Fragment.{DataRecord}
use Rattle.edf_fragment.specs.Parsed.{Parsed, Fragment, ParsesTo}
use Rattle.edf_fragment.proofs.Parsed.{some-parse, one-parse}
use Rattle.edf_holdings.specs.Holdings.{Holdings, IsSound}
use Rattle.edf_holdings.specs.Reply.{IsWellFormed, after_one, after, reply, IsAccepted}
use Rattle.edf_holdings.specs.ConflictFree.{IsFragment, IsConflictFree, SameRecords}
use Rattle.edf_holdings.specs.Laws.{AreWellFormed}
use Rattle.edf_holdings.proofs.Accepted.{after_has_accepted, refused_changes_nothing}
use Rattle.edf_holdings.proofs.ConflictFree.{any_order_law, recut_law}
use Rattle.edf_holdings.proofs.InSets.{held-sound}
use Rattle.edf_holdings.proofs.Recut.{free_of_same}
use Rattle.edf_holdings.proofs.Settled.{sound_front, sound_back}
use Rattle.edf_holdings.proofs.Sound.{stays_sound}
use Rattle.edf_holdings.proofs.ParsedIsWellFormed.{parsed_is_well_formed}
use Rattle.edf_canonical.specs.File.{IsCanonicalFile}
use Rattle.edf_export.specs.Headline.{IsOnlyCanonicalFile, ExportSameFiles, Headline}
use Rattle.edf_export.specs.Headline.{ParseToOneList}
use Rattle.edf_canonical.proofs.Files.{one-file}
use Rattle.edf_canonical.proofs.SomeFile.{some-file}

some-long : (rs : List DataRecord) → rs ≢ [] → 1 ≤ length rs
some-long [] some = absurd (some refl)
some-long (r ∷ rs) some = omega arith

-- what sound holdings hold has a file since it is sound, and is not too long for one by the cap
only-file : (cap : ℕ) (h : Holdings) (k : Key) → IsSound cap h → cap ≤ MOST_RECORDS → h k ≢ []
    → (file : List ℕ) × IsOnlyCanonicalFile file k (h k)
only-file cap h k sound low some =
    let told : IsWellFormed (Fragment k (h k)) = held-sound cap h k sound some in
    let few : length (h k) ≤ cap = sound.within_cap k in
    let file = some-file k (h k) told.0 told.1 told.2 (some-long (h k) some) (omega arith) in (
      file.0,
      record {
        canonical = file.1;
        only = λ other is. one-file other file.0 k (h k) is file.1;
      },
    )

-- the holdings that a member meets are sound, and so one that is refused leaves them
refused-leaves : (cap : ℕ) (h : Holdings) (before : List Parsed) (member : Parsed)
    (later : List Parsed)
    → IsSound cap h → AreWellFormed (before ++ (member ∷ later))
    → ¬ IsAccepted (reply cap (after cap h before) member)
    → after_one cap (after cap h before) member ≡ after cap h before
refused-leaves cap h before member later sound told refused =
    let front = sound_front before (member ∷ later) told in
    let back = sound_back before (member ∷ later) told in
    let met = stays_sound cap h before sound front in
    refused_changes_nothing cap (after cap h before) member met back.0 refused

-- since the list is free, so is the other; since they hold the same records, they leave the same
end-alike : (cap : ℕ) (h : Holdings) (tolds others : List Parsed)
    → IsSound cap h → AreWellFormed tolds → AreWellFormed others → IsConflictFree cap h tolds
    → AllByRecursion IsFragment others → SameRecords tolds others →
    ExportSameFiles cap h tolds others
end-alike cap h tolds others sound told other_told free fragments same =
    let other_free = free_of_same cap h tolds others sound told other_told free fragments same in
    let left : after cap h tolds ≡ after cap h others =
    recut_law cap h tolds others sound told other_told free other_free same in
    record {
      accepted = (any_order_law cap h tolds sound told free).0;
      others_accepted = (any_order_law cap h others sound other_told other_free).0;
      same_file = λ k file. (
        subst (λ (held : Holdings). IsCanonicalFile file k (held k)) left,
        subst (λ (held : Holdings). IsCanonicalFile file k (held k)) (sym left),
      );
    }

pub headline : (cap : ℕ) (h : Holdings) (tolds : List Parsed)
    → IsSound cap h → AreWellFormed tolds → Headline cap h tolds
headline cap h tolds sound told =
    let left : IsSound cap (after cap h tolds) = stays_sound cap h tolds sound told in
    record {
      one_file = λ low k some. only-file cap (after cap h tolds) k left low some;
      its_records = λ k. record {
        those = λ r. after_has_accepted cap h tolds k r sound told;
        rising = left.rising k;
      };
      refused = λ before member later splits refused.
          refused-leaves cap h before member later sound (subst AreWellFormed splits told) refused;
      alike = λ others other_told free fragments same.
          end-alike cap h tolds others sound told other_told free fragments same;
    }

-- no bytes tell two things, so no files tell two lists
only-none : (others : List Parsed) → AllZip ParsesTo [] others → others ≡ []
only-none [] all = refl
only-none (other ∷ others) all = absurd all

only-more : (bytes : List ℕ) (files : List (List ℕ)) (told : Parsed) (tolds : List Parsed)
    → ParsesTo bytes told → ((others : List Parsed) → AllZip ParsesTo files others → others ≡ tolds)
    → (others : List Parsed) → AllZip ParsesTo (bytes ∷ files) others → others ≡ told ∷ tolds
only-more bytes files told tolds tells only [] all = absurd all
only-more bytes files told tolds tells only (other ∷ others) all =
    ap (λ (t : Parsed). t ∷ others) (one-parse bytes other told all.0 tells)
    ∙ ap (λ (ts : List Parsed). told ∷ ts) (only others all.1)

pub tells-one : (files : List (List ℕ)) → ParseToOneList files
tells-one [] = record { submissions = []; parsed = tt; sound = tt; only = only-none }
tells-one (bytes ∷ files) =
    let here = some-parse bytes in
    let more = tells-one files in
    record {
      submissions = here.0 ∷ more.submissions;
      parsed = (here.1, more.parsed);
      sound = (parsed_is_well_formed bytes here.0 here.1, more.sound);
      only = only-more bytes files here.0 more.submissions here.1 more.only;
    }
