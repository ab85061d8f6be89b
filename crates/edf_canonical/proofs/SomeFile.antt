-- Sound records of a key have a canonical file.
use Rattle.std.proofs.Common.{ℕ, ◌+◌, ◌*◌, ◌/◌, ◌≤◌, ◌<◌, max, List, [], ◌∷◌, ◌++◌, length, refl}
use Rattle.std.proofs.Common.{arith}
use Rattle.std.specs.List.{flat_map}
use Rattle.std.proofs.lemmas.List.Elements.{All-head, All-tail, All-cons, All-nil, All-weaker}
use Rattle.edf_time.specs.Civil.{window, day_of, second_of_day}
use Rattle.edf_time.proofs.Cited.{date-text, time-text, id_date-text}
use Rattle.edf_header.specs.Key.{Key, IsKey}
use Rattle.edf_header.specs.Canonical.{IsCanonicalHeader}
use Rattle.edf_header.specs.declared.limits.TheConstants.{MOST_RECORDS}
use Rattle.edf_fragment.specs.Fragment.{DataRecord, IsFragmentFile}
use Rattle.edf_fragment.specs.Sound.{AreSoundFrom, FirstMayStart}
use Rattle.edf_fragment.proofs.Sound.{spelled-key, spelled-sound, spelled-begins, spelled-some}
use Rattle.edf_fragment.proofs.Sound.{spelled-few}
use Rattle.edf_canonical.specs.File.{second_of, block_of, record_text, BlocksFit, IsLaidOut}
use Rattle.edf_canonical.specs.File.{IsCanonicalFile}
use Rattle.edf_canonical.proofs.Files.{canonical}

-- the least number of samples that holds each block
record HasLeast (base : ℕ) (rs : List DataRecord) : Type 0 where
  samples : ℕ
  holds : BlocksFit base samples rs
  least : (fewer : ℕ) → BlocksFit base fewer rs → samples ≤ fewer

fits : (base : ℕ) (r : DataRecord) (more : ℕ) →
    length (block_of base r) ≤ 2 * max more ((length (block_of base r) + 1) / 2)
fits base r more = omega arith

least-samples : (base : ℕ) (rs : List DataRecord) → HasLeast base rs
least-samples base [] = record {
  samples = 0;
  holds =
      All-nil (λ r. length (block_of base r) ≤ 2 * 0);
  least = λ fewer hold. omega arith;
}
least-samples base (r ∷ rs) =
    let more = least-samples base rs in
    let here = (length (block_of base r) + 1) / 2 in
    let all = max more.samples here in
    record {
      samples = all;
      holds = All-cons (λ x. length (block_of base x) ≤ 2 * all) r rs (fits base r more.samples)
          (All-weaker (λ x. length (block_of base x) ≤ 2 * more.samples)
          (λ x. length (block_of base x) ≤ 2 * all) (λ x h. omega arith) rs more.holds);
      least = λ fewer hold.
          omega (
            arith,
            All-head (λ x. length (block_of base x) ≤ 2 * fewer) r rs hold,
            more.least fewer (All-tail (λ x. length (block_of base x) ≤ 2 * fewer) r rs hold),
          );
    }

-- the header, for each start in the window
some-header : (k : Key) (start count samples : ℕ) → start < window → (header : List ℕ)
    × IsCanonicalHeader header k start count samples
some-header k start count samples lt =
    let date = date-text (day_of start) (omega arith) in
    let time = time-text (second_of_day start) (omega arith) in
    let id_date = id_date-text (day_of start) (omega arith) in (
      _,
      record {
        date = date.0;
        time = time.0;
        id_date = id_date.0;
        is_date = date.1;
        is_time =
            time.1;
        is_id_date = id_date.1;
        parts = refl;
      },
    )

pub some-file : (k : Key) (rs : List DataRecord) → IsKey k → AreSoundFrom k 0 rs →
    FirstMayStart k rs →
    1 ≤ length rs → length rs ≤ MOST_RECORDS → (file : List ℕ) × IsCanonicalFile file k rs
some-file k [] is-key are begins some few = absurd (omega arith)
some-file k (r ∷ rs) is-key are begins some few =
    let base = second_of r.start in
    let block = least-samples base (r ∷ rs) in
    let header = some-header k r.start (length (r ∷ rs)) block.samples are.0.start in
    let file = header.0 ++ flat_map (record_text base (2 * block.samples)) (r ∷ rs) in
    let laid : IsLaidOut file k r (r ∷ rs) =
    record {
      samples = block.samples;
      header = header.0;
      is_header = header.1;
      holds =
          block.holds;
      least = block.least;
      parts = refl;
    } in
    (file, canonical file k r rs is-key begins are few laid)

-- so each fragment has one
pub spelled-file : (bytes : List ℕ) (k : Key) (rs : List DataRecord) → IsFragmentFile bytes k rs →
    (file : List ℕ) × IsCanonicalFile file k rs
spelled-file bytes k rs s = some-file k rs (spelled-key bytes k rs s) (spelled-sound bytes k rs s)
    (spelled-begins bytes k rs s) (spelled-some bytes k rs s) (spelled-few bytes k rs s)
