-- What the data records of a fragment have, and those that were read so far.
use Rattle.std.proofs.Common.{◌≡◌, ℕ, ◌+◌, ◌*◌, ◌^◌, ◌≤◌, ◌<◌, inl, inr, List, [], ◌∷◌, ◌++◌}
use Rattle.std.proofs.Common.{length, arith, sym, ap, ◌∙◌, subst, length-append, Option, None, Some}
use Rattle.std.proofs.Common.{Result, Ok, Err, IfOk, IfSome, ℤ, pos, negsuc, All}
use Rattle.std.specs.Prelude.{unsigned_abs, ◌+ℤ◌, ◌≤ℤ◌, ◌<ℤ◌}
use Rattle.std.proofs.lemmas.Bool.{cases_lt}
use Rattle.std.proofs.lemmas.Int.{ints}
use Rattle.std.proofs.lemmas.List.Elements.{All-nil, All-cons}
use Rattle.edf_field.specs.Number.{duration_of}
use Rattle.edf_header.specs.Signal.{samples_in_all}
use Rattle.edf_header.specs.Key.{Key, IsKey}
use Rattle.edf_header.specs.Header.{IsLayout, HeaderRecord, IsHeader, Layout, layout_of}
use Rattle.edf_header.proofs.Cited.{key-duration-some, header-has-layout, one-header}
use Rattle.edf_tal.specs.Tal.{Tal, Annotation, HasTimeKeepingTal, record_start, first_block_tals}
use Rattle.edf_tal.specs.Block.{BlocksParseTo, StartFitsPlace}
use Rattle.edf_header.specs.declared.limits.TheConstants.{MOST_BLOCK_BYTES, MOST_RECORDS}
use Rattle.edf_tal.specs.declared.place.Place.{Place}
use Rattle.edf_tal.specs.declared.place.Place.TheVariants.{First, After, Any}
use Rattle.edf_tal.proofs.Cited.{blocks-read-start, blocks-read-annotations}
use Rattle.edf_fragment.specs.Fragment.{DataRecord, IsDataRecord, BeginWithDataRecords, place_after}
use Rattle.edf_fragment.specs.Fragment.{ordinary_bytes, IsFragmentFile}
use Rattle.edf_fragment.specs.Sound.{IsValidRecord, IsSoundRecord, AreSoundFrom, FirstMayStart}
use Rattle.edf_fragment.specs.Reading.{ReadsHeader, IsNextResult}
use Rattle.edf_fragment.specs.Whole.{HasReadRecords}
use Rattle.edf_fragment.specs.declared.advance.Progress.{Progress}
use Rattle.edf_fragment.specs.declared.fault.FragmentFault.{FragmentFault}
use Rattle.edf_fragment.proofs.Layouts.{record-some, ordinary-len}
use Rattle.edf_fragment.proofs.OneFragment.{goes_on}
use Rattle.edf_fragment.proofs.Runs.{AreDataRecords-more, IsHeader-more}

-- ---- one data record

-- from where on records at a place start
abbrev least_start : Place → ℕ
least_start First = 0
least_start (After before duration) = before + duration
least_start Any = 0

low-start : (bs : List (List ℕ)) (file_start : ℕ) (place : Place) (start : ℕ)
    (list : List Annotation) → BlocksParseTo bs file_start place start list →
    least_start place ≤ start
low-start bs file_start First start list read = omega arith
low-start bs file_start Any start list read = omega arith
low-start bs file_start (After before duration) start list read =
    omega (arith, read.fits_place, read.start_is)

samples-len : (l : Layout) (place : Place) (bytes : List ℕ) (r : DataRecord) → IsLayout l →
    IsDataRecord l place bytes r → length r.samples ≡ 2 * samples_in_all l.key.signals
samples-len l place bytes r in_layout is =
    let all : length r.samples ≡ length (ordinary_bytes l bytes) =
    ap (λ (x : List ℕ). length x) is.samples_are in
    omega (arith, all, in_layout.parts, ordinary-len l bytes in_layout is.len)

sound-record : (l : Layout) (place : Place) (bytes : List ℕ) (r : DataRecord) → IsLayout l →
    IsDataRecord l place bytes r → IsSoundRecord l.key r
sound-record l place bytes r in_layout is = record {
  samples_len = samples-len l place bytes r in_layout is;
  start = blocks-read-start _ _ _ _ _ is.read;
  limits = is.read.limits;
  notes = blocks-read-annotations _ _ _ _ _ is.read;
}

-- such a record may be kept in memory
pub read-kept : (bs : List (List ℕ)) (file_start : ℕ) (place : Place) (start : ℕ) (samples : List ℕ)
    (list : List Annotation) → length samples ≤ MOST_BLOCK_BYTES
    → BlocksParseTo bs file_start place start list →
    IsValidRecord (record { start = start; samples = samples; annotations = list })
read-kept bs file_start place start samples list few read = record {
  size = record { samples = few; annotations = read.limits };
  start = blocks-read-start _ _ _ _ _ read;
  notes = blocks-read-annotations _ _ _ _ _ read;
}

-- the next record, where one is given
pub sound-next : (l : Layout) (from : Progress) (left rest : Option (List ℕ))
    (result : Result (Option DataRecord) FragmentFault) → IsLayout l → IsNextResult l from left rest
    result → IfOk result (λ next. IfSome next (λ r. IsSoundRecord l.key r))
sound-next l from left rest (Ok (Some r)) in_layout gives =
    sound-record l from.place gives.bytes r in_layout gives.is_record
sound-next l from left rest (Ok None) in_layout ends = tt
sound-next l from left rest (Err fault) in_layout is = tt

-- ---- all of them

are-sound : (l : Layout) (place : Place) (bytes : List ℕ) (rs : List DataRecord) (last : Place)
    (rest : List ℕ) → IsLayout l
    → BeginWithDataRecords l place bytes rs last rest → AreSoundFrom l.key (least_start place) rs
are-sound l place bytes [] last rest in_layout are = tt
are-sound l place bytes (r ∷ rs) last rest in_layout (front, back, parts, is, more) = (
  sound-record l place front r in_layout is,
  low-start _ _ _ _ _ is.read,
  are-sound l (place_after l r.start) back rs last rest in_layout more,
)

-- ---- the first of them

abs-below : (z : ℤ) (n : ℕ) → pos 0 ≤ℤ z → z <ℤ pos n → unsigned_abs z < n
abs-below (pos m) n from to = omega (arith, ints)
abs-below (negsuc m) n from to = absurd (omega (arith, ints))

-- it starts in the second that the header names
in-second : (file_start : ℕ) (ts : List Tal) → HasTimeKeepingTal ts →
    StartFitsPlace First file_start ts → record_start file_start ts < file_start + 10 ^ 9
in-second file_start [] timed keeps = absurd timed
in-second file_start (t ∷ ts) timed (from, to) =
    abs-below (pos file_start +ℤ t.onset) (file_start + 10 ^ 9) (omega (arith, ints))
    (omega (arith, ints))

first-start : (bs : List (List ℕ)) (file_start start : ℕ) (list : List Annotation) →
    BlocksParseTo bs file_start First start list → start < file_start + 10 ^ 9
first-start bs file_start start list read =
    rw (read.start_is) (in-second file_start
    (first_block_tals read.tals) read.timed read.fits_place)

-- so the key's recording may start with it: the part of the window that two digits name ends with a
-- second
may-begin : (l : Layout) (bytes : List ℕ) (rs : List DataRecord) (last : Place) (rest : List ℕ) →
    IsLayout l → BeginWithDataRecords l First bytes rs last rest → FirstMayStart l.key rs
may-begin l bytes [] last rest in_layout are = tt
may-begin l bytes (r ∷ rs) last rest in_layout (front, back, parts, is, more) =
    λ undated. omega (
      arith,
      first-start _ _ _ _ is.read,
      in_layout.may_start undated,
      in_layout.whole_second,
    )

-- ---- what the header says of them

-- the bounds of the header that bytes spell
spelled-layout : (bytes : List ℕ) (k : Key) (rs : List DataRecord) (s : IsFragmentFile bytes k rs) →
    IsLayout (layout_of s.header)
spelled-layout bytes k rs s = header-has-layout bytes s.header s.rest s.is_header

pub spelled-key : (bytes : List ℕ) (k : Key) (rs : List DataRecord) → IsFragmentFile bytes k rs →
    IsKey k
spelled-key bytes k rs s = subst IsKey (sym s.key) (spelled-layout bytes k rs s).key

pub spelled-lasts : (bytes : List ℕ) (k : Key) (rs : List DataRecord) → IsFragmentFile bytes k rs →
    0 < duration_of k.duration
spelled-lasts bytes k rs s = key-duration-some k (spelled-key bytes k rs s)

pub spelled-some : (bytes : List ℕ) (k : Key) (rs : List DataRecord) → IsFragmentFile bytes k rs →
    1 ≤ length rs
spelled-some bytes k rs s = omega (arith, s.least, (spelled-layout bytes k rs s).count.0)

pub spelled-few : (bytes : List ℕ) (k : Key) (rs : List DataRecord) → IsFragmentFile bytes k rs →
    length rs ≤ MOST_RECORDS
spelled-few bytes k rs s = omega (arith, s.most, (spelled-layout bytes k rs s).count.1)

pub spelled-sound : (bytes : List ℕ) (k : Key) (rs : List DataRecord) → IsFragmentFile bytes k rs →
    AreSoundFrom k 0 rs
spelled-sound bytes k rs s =
    subst (λ (x : Key). AreSoundFrom x 0 rs) (sym s.key) (are-sound (layout_of s.header) First
    s.rest rs s.next_place [] (spelled-layout bytes k rs s) s.are_records)

pub spelled-begins : (bytes : List ℕ) (k : Key) (rs : List DataRecord) → IsFragmentFile bytes k rs →
    FirstMayStart k rs
spelled-begins bytes k rs s =
    subst (λ (x : Key). FirstMayStart x rs) (sym s.key) (may-begin (layout_of s.header) s.rest rs
    s.next_place [] (spelled-layout bytes k rs s) s.are_records)

-- ---- those that were read so far

read-layout : (left rest : Option (List ℕ)) (l : Layout) → ReadsHeader left rest l → IsLayout l
read-layout left rest l h = subst IsLayout (sym h.layout_is)
    (header-has-layout h.bytes h.header [] h.is_header)

pub read-key : (left rest : Option (List ℕ)) (l : Layout) → ReadsHeader left rest l → IsKey l.key
read-key left rest l h = (read-layout left rest l h).key

pub read-sound : (left one two : Option (List ℕ)) (l : Layout) (rs : List DataRecord)
    (p : Progress) → ReadsHeader left one l → HasReadRecords l one two rs p →
    AreSoundFrom l.key 0 rs
read-sound left one two l rs p h b =
    are-sound l First b.bytes rs p.place [] (read-layout left one l h) b.are_records

pub read-begins : (left one two : Option (List ℕ)) (l : Layout) (rs : List DataRecord)
    (p : Progress) → ReadsHeader left one l → HasReadRecords l one two rs p → FirstMayStart l.key rs
read-begins left one two l rs p h b =
    may-begin l b.bytes rs p.place [] (read-layout left one l h) b.are_records

-- a list that begins with another
abbrev pub Begins : List DataRecord → List DataRecord → Type 0
Begins all rs = (later : List DataRecord) × (all ≡ rs ++ later)

-- no data record is there where nothing is left
none-after : (l : Layout) (p q : Place) (x : List ℕ) (rs : List DataRecord) → IsLayout l →
    BeginWithDataRecords l p [] rs q x → 0 < length rs → ⊥
none-after l p q x [] i are some = omega (arith, some)
none-after l p q x (r ∷ rs) i (front, back, parts, is, more) some =
    omega (
      arith,
      is.len,
      record-some l i,
      ap (λ (z : List ℕ). length z) parts
          ∙ length-append front back,
    )

-- data records that were read don't go on where the spelled ones stop: nothing is left there
not-past : (l : Layout) (f p q : Place) (b x : List ℕ) (rs all : List DataRecord) → IsLayout l →
    BeginWithDataRecords l f b rs p x → BeginWithDataRecords l f b all q [] → length rs ≤ length all
not-past l f p q b x rs all i read spelled =
    elim (cases_lt (length all) (length rs)) [
      | inl more ↦
          let on = goes_on l f q p b [] x all rs (omega (arith, more)) spelled read in
          let len : length rs ≡ length all + length on.others =
          ap (λ (z : List DataRecord). length z) on.all ∙ length-append all on.others in
          absurd (none-after l q p x on.others i on.are_records (omega (arith, more, len)))
      | inr few ↦ few
    ]

-- after the same header, in the same bytes
front-of : (a b c : List ℕ) (h g : HeaderRecord) (rest : List ℕ) (rs all : List DataRecord)
    (p q : Place) → IsHeader (a ++ (b ++ c)) g rest → IsHeader a h [] → BeginWithDataRecords
    (layout_of h) First b rs p [] → BeginWithDataRecords (layout_of g) First rest all q [] →
    ((layout_of g).key ≡ (layout_of h).key) × Begins all rs
front-of a b c h g rest rs all p q is read are spelled =
    let one = one-header (a ++ (b ++ c)) g h rest (b ++ c) is (IsHeader-more a (b ++ c) h read) in
    let l = layout_of h in
    let here = AreDataRecords-more l First p b [] c rs are in
    let there = subst (λ (x : HeaderRecord). BeginWithDataRecords (layout_of x) First
    (b ++ c) all q []) one.0 (subst (λ (x : List ℕ). BeginWithDataRecords (layout_of g) First x all
    q []) one.1 spelled) in
    let few = not-past l First p q (b ++ c) c rs all (header-has-layout a h [] read) here there in
    let on = goes_on l First p q (b ++ c) c [] rs all few here there in
    (ap (λ (x : HeaderRecord). (layout_of x).key) one.0, (on.others, on.all))

-- each has as many samples as the key says
pub sound_sizes : (k : Key) (low : ℕ) (rs : List DataRecord) → AreSoundFrom k low rs →
    All (λ r. length r.samples ≡ 2 * samples_in_all k.signals) rs
sound_sizes k low [] sound = All-nil (λ r. length r.samples ≡ 2 * samples_in_all k.signals)
sound_sizes k low (r ∷ rs) (one, lower, more) =
    All-cons (λ x. length x.samples ≡ 2 * samples_in_all k.signals) r rs one.samples_len
    (sound_sizes k (r.start + duration_of k.duration) rs more)

pub read-front : (all : List ℕ) (one two : Option (List ℕ)) (l : Layout) (rs : List DataRecord)
    (p : Progress) (k : Key) (others : List DataRecord) → ReadsHeader (Some all) one l →
    HasReadRecords l one two rs p → IsFragmentFile all k others → (k ≡ l.key) × Begins others rs
read-front all None two l rs p k others h b s = absurd h.read
read-front all (Some one) None l rs p k others h b s = absurd b.read
read-front all (Some one) (Some two) l rs p k others h b s =
    let parts : all ≡ h.bytes ++ (b.bytes ++ two) = h.read
    ∙ ap (λ (x : List ℕ). h.bytes ++ x) b.read in
    let are = subst (λ (x : Layout). BeginWithDataRecords x First b.bytes rs p.place []) h.layout_is
    b.are_records in
    let is = subst (λ (x : List ℕ). IsHeader x s.header s.rest) parts s.is_header in
    let front = front-of h.bytes b.bytes two h.header s.header s.rest rs others p.place s.next_place
    is h.is_header are s.are_records in
    (s.key ∙ front.0 ∙ ap (λ (x : Layout). x.key) (sym h.layout_is), front.1)
