-- The canonical file of data records that are measured, and a front of it.
use Rattle.std.proofs.Common.{◌≡◌, ℕ, ◌+◌, ◌*◌, ◌≤◌, List, ◌∷◌, ◌++◌, length, sym, ap, ◌∙◌, subst}
use Rattle.std.proofs.Common.{arith, append_assoc, Option}
use Rattle.std.proofs.lemmas.Grind.{flat_map-append}
use Rattle.edf_header.specs.declared.limits.TheConstants.{MOST_RECORDS}
use Rattle.edf_header.specs.Key.{Key, IsKey, MayStart}
use Rattle.edf_header.specs.Signal.{samples_in_all}
use Rattle.edf_header.specs.Canonical.{IsCanonicalHeader}
use Rattle.edf_fragment.specs.Fragment.{DataRecord}
use Rattle.edf_fragment.specs.Sound.{AreSoundFrom}
use Rattle.edf_fragment.proofs.Sound.{sound_sizes}
use Rattle.edf_canonical.specs.File.{second_of, record_text, BlocksFit, IsCanonicalFile}
use Rattle.edf_canonical.specs.Measure.{IsMeasured, records_text, planned_text}
use Rattle.edf_canonical.specs.Output.{WritesPrefix}
use Rattle.edf_canonical.specs.declared.measure.Measure.{Measure}
use Rattle.edf_canonical.proofs.Files.{canonical}
use Rattle.edf_canonical.proofs.Written.{laid-out, file-length}

pub file_of : (k : Key) (rs : List DataRecord) (m : Measure) (header : List ℕ) → IsKey k →
    AreSoundFrom k 0 rs → IsMeasured rs m → MayStart k m.first →
    IsCanonicalHeader header k m.first m.records m.block_samples →
    IsCanonicalFile (planned_text header m rs) k rs
file_of k rs m header key are-sound is begins is-header =
    let r = is.first in
    let more = is.others in
    let same : r ∷ more ≡ rs = sym is.parts in
    let sound : AreSoundFrom k 0 (r ∷ more) = subst (AreSoundFrom k 0) is.parts are-sound in
    let few : length (r ∷ more) ≤ MOST_RECORDS = subst (λ (x : List DataRecord).
    length x ≤ MOST_RECORDS) is.parts (omega (arith, is.count, m.records_few)) in
    let count : m.records ≡ length (r ∷ more) =
    is.count ∙ ap (λ (x : List DataRecord). length x) is.parts in
    let holds : BlocksFit (second_of m.first) m.block_samples (r ∷ more) =
    subst (BlocksFit (second_of m.first) m.block_samples) is.parts is.holds in
    subst (λ (x : List DataRecord). IsCanonicalFile (planned_text header m x) k x) same
    (canonical (planned_text header m (r ∷ more)) k r more key
    (subst (MayStart k) is.start begins) sound few
    (laid-out k (r ∷ more) r (second_of m.first) m.first m.block_samples header is.start
    (ap second_of is.start)
    (subst (λ n. IsCanonicalHeader header k m.first n m.block_samples) count is-header) holds
    (λ fewer hold. is.least fewer
    (subst (BlocksFit (second_of m.first) fewer) same hold))))

pub length_of : (k : Key) (rs : List DataRecord) (m : Measure) (header : List ℕ) →
    AreSoundFrom k 0 rs → IsMeasured rs m →
    length header + m.records * (2 * samples_in_all k.signals + 2 * m.block_samples)
    ≡ length (planned_text header m rs)
length_of k rs m header sound is =
    ap (λ n. length header + n * (2 * samples_in_all k.signals + 2 * m.block_samples)) is.count
    ∙ file-length header (second_of m.first) (2 * m.block_samples) (2 * samples_in_all k.signals) rs
    (sound_sizes k 0 rs sound) is.holds

-- ---- a front

-- a front of a text is one of the text and more
pub front_more : (before after : Option (List ℕ)) (text more file : List ℕ) → file ≡ text ++ more →
    WritesPrefix before after text → WritesPrefix before after file
front_more before after text more file is w = record {
  prefix = w.prefix;
  remaining = w.remaining ++ more;
  parts = is ∙ ap (λ (x : List ℕ). x ++ more) w.parts ∙ append_assoc w.prefix w.remaining more;
  wrote = w.wrote;
}

-- the text of all is that of the first ones, and more
pub planned_more : (header : List ℕ) (m : Measure) (rs later : List DataRecord) →
    planned_text header m (rs ++ later) ≡ planned_text header m rs ++ records_text m later
planned_more header m rs later =
    ap (λ (x : List ℕ). header ++ x)
    (flat_map-append (record_text (second_of m.first) (2 * m.block_samples)) rs later)
    ∙ sym (append_assoc header (records_text m rs) (records_text m later))
