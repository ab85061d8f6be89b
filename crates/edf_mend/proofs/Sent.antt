-- The data records that a file gave, one after another.
use Rattle.std.proofs.Common.{◌≡◌, ℕ, ◌+◌, ◌*◌, ◌≤◌, List, [], ◌∷◌, length, Bool, true, false, refl}
use Rattle.std.proofs.Common.{sym, ap, ◌∙◌, subst, arith, ◌++◌, append-nil, append_assoc}
use Rattle.std.specs.List.{AllByRecursion, flat_map}
use Rattle.std.specs.Io.KnownBytes.{Consumes}
use Rattle.std.proofs.KnownBytes.{Consumes-nil, Consumes-trans}
use Rattle.edf_header.specs.Header.{Layout, IsLayout}
use Rattle.edf_header.specs.Signal.{samples_in_all}
use Rattle.edf_tal.specs.declared.place.Place.{Place}
use Rattle.edf_tal.specs.declared.place.Place.TheVariants.{First, After, Any}
use Rattle.edf_fragment.specs.Fragment.{DataRecord, place_after}
use Rattle.edf_tal.specs.Tal.{Annotation}
use Rattle.edf_tal.specs.Block.{BlocksParseTo}
use Rattle.edf_fragment.specs.Sound.{IsValidRecord, AreSoundFrom}
use Rattle.edf_fragment.specs.declared.streams.Input.{Ghosts}
use Rattle.edf_fragment.proofs.Layouts.{ordinary-len}
use Rattle.edf_canonical.specs.Source.{At, Gives}
use Rattle.edf_mend.specs.Body.{record_size, RecordReadsAs, RecordsReadAs, PlainRecordReadsAs}
use Rattle.edf_mend.specs.Changes.{FieldChange}
use Rattle.edf_mend.specs.Inside.{ReadsLeniently}
use Rattle.edf_mend.specs.declared.reading.LenientSource.{LenientSource}
use Rattle.edf_mend.specs.declared.reading.LenientFile.{LenientFile}

module _ {R : Type 0} (g : Ghosts R) where
  pub record GaveAll (from to : At LenientSource LenientFile R)
      (rs : List DataRecord) : Type 0 where
    pub pieces : List (List ℕ)
    pub read : Consumes (g.remaining from.input) (g.remaining to.input) (flat_map (λ p. p) pieces)
    pub changes : List FieldChange
    pub each : RecordsReadAs from.file.timed from.file.header from.file.place (from.file.given + 1)
        pieces rs changes
    pub changes_are : to.file.changes.items ≡ from.file.changes.items ++ changes
    pub valid : AllByRecursion IsValidRecord rs
    pub header : to.file.header ≡ from.file.header
    pub timed : to.file.timed ≡ from.file.timed

  pub gave-all : (from to : At LenientSource LenientFile R) (rs : List DataRecord) →
      Gives (ReadsLeniently g) from to rs → GaveAll from to rs
  gave-all from to [] same =
      subst (λ (x : At LenientSource LenientFile R). GaveAll from x []) (sym same)
      (record {
        pieces = [];
        read = Consumes-nil (g.remaining from.input);
        changes = [];
        each = refl;
        changes_are = sym (append-nil from.file.changes.items);
        valid = tt;
        header = refl;
        timed = refl;
      })
  gave-all from to (r ∷ rs) (mid, answer, more) =
      let later = gave-all mid to rs more in
      let one = answer.answers in
      let each = later.each in
      let a = subst (λ (t : Bool). RecordsReadAs t mid.file.header mid.file.place
      (mid.file.given + 1) later.pieces rs later.changes) answer.timed each in
      let b = subst (λ (l : Layout). RecordsReadAs from.file.timed l mid.file.place
      (mid.file.given + 1) later.pieces rs later.changes) answer.header a in
      let c = subst (λ (p : Place). RecordsReadAs from.file.timed from.file.header p
      (mid.file.given + 1) later.pieces rs later.changes) one.place b in
      let d = subst (λ (n : ℕ). RecordsReadAs from.file.timed from.file.header
      (place_after from.file.header r.start) (n + 1) later.pieces rs later.changes)
      one.given c in
      record {
        pieces = one.bytes ∷ later.pieces;
        read = Consumes-trans (g.remaining from.input) (g.remaining mid.input)
            (g.remaining to.input) one.bytes (flat_map (λ p. p) later.pieces) one.read later.read;
        changes = one.changes ++ later.changes;
        each = (one.changes, later.changes, one.len, one.is_read, d, refl);
        changes_are = later.changes_are
            ∙ ap (λ (l : List FieldChange). l ++ later.changes) one.changes_are
            ∙ append_assoc from.file.changes.items one.changes later.changes;
        valid = (one.valid, later.valid);
        header = later.header ∙ answer.header;
        timed = later.timed ∙ answer.timed;
      }

-- ---- what holds of them

-- from where on records at a place start
abbrev pub least_start : Place → ℕ
least_start First = 0
least_start (After before duration) = before + duration
least_start Any = 0

low-start : (bs : List (List ℕ)) (file_start : ℕ) (place : Place) (start : ℕ)
    (list : List Annotation) → BlocksParseTo bs file_start place start list →
    least_start place ≤ start
low-start bs file_start First start list read = omega arith
low-start bs file_start Any start list read = omega arith
low-start bs file_start (After before duration) start list read =
    omega (arith, read.fits_place, read.start_is)

plain-low : (l : Layout) (place : Place) (bytes : List ℕ) (r : DataRecord) →
    PlainRecordReadsAs l place bytes r → least_start place ≤ r.start
plain-low l First bytes r is = omega arith
plain-low l Any bytes r is = omega arith
plain-low l (After before duration) bytes r is = omega (arith, is.1)

read-low : (timed : Bool) (l : Layout) (place : Place) (nth : ℕ) (bytes : List ℕ) (r : DataRecord)
    (changes : List FieldChange) → RecordReadsAs timed l place nth bytes r changes →
    least_start place ≤ r.start
read-low true l place nth bytes r changes is = low-start _ _ _ _ _ is.parsed
read-low false l place nth bytes r changes is = plain-low l place bytes r is.0

read-samples : (timed : Bool) (l : Layout) (place : Place) (nth : ℕ) (bytes : List ℕ)
    (r : DataRecord) (changes : List FieldChange) → IsLayout l →
    length bytes ≡ record_size timed l → RecordReadsAs timed l place nth bytes r changes →
    length r.samples ≡ 2 * samples_in_all l.key.signals
read-samples true l place nth bytes r changes layout len is =
    omega (
      arith,
      ap (λ (x : List ℕ). length x) is.samples,
      layout.parts,
      ordinary-len l bytes layout len,
    )
read-samples false l place nth bytes r changes layout len is =
    omega (arith, ap (λ (x : List ℕ). length x) is.0.0, len)

pub read-sound : (timed : Bool) (l : Layout) (place : Place) (nth : ℕ) (pieces : List (List ℕ))
    (rs : List DataRecord) (changes : List FieldChange) → IsLayout l →
    RecordsReadAs timed l place nth pieces rs changes →
    AllByRecursion IsValidRecord rs → AreSoundFrom l.key (least_start place) rs
read-sound timed l place nth [] [] changes layout are valid = tt
read-sound timed l place nth [] (r ∷ rs) changes layout are valid = absurd are
read-sound timed l place nth (p ∷ ps) [] changes layout are valid = absurd are
read-sound timed l place nth (p ∷ ps) (r ∷ rs) changes layout are (one, valid) = (
  record {
    samples_len = read-samples timed l place nth p r are.0 layout are.2 are.3;
    start = one.start;
    limits = one.size.annotations;
    notes = one.notes;
  },
  read-low timed l place nth p r are.0 are.3,
  read-sound timed l (place_after l r.start) (nth + 1) ps rs are.1 layout are.4 valid,
)
