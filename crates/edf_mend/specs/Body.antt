-- The data records of a file, and what a strict reading gets in their place.
use Rattle.std.specs.Prelude.{◌≡◌, ◌⊎◌, ℕ, ◌+◌, ◌≤◌, ◌==◌, List, [], ◌∷◌, ◌++◌, length, All, Bool}
use Rattle.std.specs.Prelude.{codes, true, false, IsUtf8, encode_utf8_all, IsTrue, ◌*◌, ◌<◌}
use Rattle.std.specs.Prelude.{if◌then◌else◌}
use Rattle.std.specs.List.{flat_map}
use Rattle.std.specs.Char.{is_ascii_digit}
use Rattle.edf_tal.specs.Tal.{IsText}
use Rattle.edf_header.specs.declared.header.Block.{Block}
use Rattle.edf_mend.specs.Changes.{FieldChange, changed}
use Rattle.edf_field.specs.Number.{IsNumber}
use Rattle.edf_header.specs.Fields.{header_bytes_field, count_field}
use Rattle.edf_header.specs.Header.{Layout}
use Rattle.edf_header.specs.Signal.{samples_in_all}
use Rattle.edf_tal.specs.Block.{BlocksParseTo}
use Rattle.edf_tal.specs.declared.place.Place.{Place}
use Rattle.edf_tal.specs.declared.place.Place.TheVariants.{First, After}
use Rattle.edf_fragment.specs.Fragment.{DataRecord, blocks, ordinary_bytes, place_after}
use Rattle.edf_mend.specs.Texts.{numeral, numeral_text}
use Rattle.edf_mend.specs.declared.wanted.Wanted.{Wanted}

-- A decimal is without its digits past the ninth behind the dot.
pub record IsCutOff (old new : List ℕ) : Type 0 where
  pub whole : List ℕ
  pub nine : List ℕ
  pub finer : List ℕ
  pub old_is : old ≡ whole ++ (46 ∷ (nine ++ finer))
  pub len : length nine ≡ 9
  pub digits : All (λ b. IsTrue (is_ascii_digit b)) finer
  pub new_is : new ≡ whole ++ (46 ∷ nine)

abbrev pub TimeReadsAs : List ℕ → List ℕ → Type 0
TimeReadsAs old new = (new ≡ old) ⊎ IsCutOff old new

-- An onset; or an onset, byte 21 and a duration.
abbrev pub TimesReadAs : List ℕ → List ℕ → Type 0
TimesReadAs old new = TimeReadsAs old new
    ⊎ ((onset : List ℕ) × (duration : List ℕ) × (first : List ℕ) × (second : List ℕ)
    × (old ≡ onset ++ (21 ∷ duration)) × (new ≡ first ++ (21 ∷ second))
    × TimeReadsAs onset first × TimeReadsAs duration second)

-- A text of UTF-8 stays; any other is one of Latin-1.
abbrev pub TextReadsAs : List ℕ → List ℕ → Type 0
TextReadsAs old new = (IsUtf8 old × (new ≡ old)) ⊎ ((¬ IsUtf8 old) × (new ≡ encode_utf8_all old))

-- The times of a list, or one of its texts, and the byte that ends it.
pub record Token : Type 0 where
  pub text : List ℕ
  pub stop : ℕ

abbrev pub tokens_bytes : List Token → List ℕ
tokens_bytes tokens = flat_map (λ t. t.text ++ t.stop ∷ []) tokens

abbrev pub PartReadsAs : Bool → List ℕ → List ℕ → Type 0
PartReadsAs true old new = TimesReadAs old new
PartReadsAs false old new = TextReadsAs old new

-- Tokens come in turn: the first of a list has its times, and a list ends with byte 0.
abbrev pub TokensReadAs : Bool → List Token → List Token → Bool → Type 0
TokensReadAs from [] [] to = to ≡ from
TokensReadAs from (old ∷ olds) (new ∷ news) to =
    IsText old.text × ((old.stop ≡ 0) ⊎ (old.stop ≡ 20)) × PartReadsAs from old.text new.text
    × (new.stop ≡ old.stop) × TokensReadAs (old.stop == 0) olds news to
TokensReadAs from olds news to = ⊥

-- What differs of tokens, which begin at this byte of a data record.
abbrev pub changes_of_tokens : ℕ → ℕ → List Token → List Token → List FieldChange
changes_of_tokens nth at (old ∷ olds) (new ∷ news) = changed 256 nth at old.text new.text
    ++ changes_of_tokens nth (at + length old.text + 1) olds news
changes_of_tokens nth at olds news = []

-- A block has its lists, each annotation of which is the same to the nanosecond and in UTF-8, and
-- then zeros or spaces. What differs is listed.
pub record BlockReadsAs (nth at : ℕ) (old new : List ℕ) (changes : List FieldChange) : Type 0 where
  pub olds : List Token
  pub news : List Token
  pub fill : List ℕ
  pub last : Bool
  pub old_is : old ≡ tokens_bytes olds ++ fill
  pub blank : All (λ b. (b ≡ 0) ⊎ (b ≡ 32)) fill
  pub each : TokensReadAs true olds news last
  pub new_is : new ≡ tokens_bytes news
  pub changes_are : changes ≡ changes_of_tokens nth at olds news

-- The blocks of a data record, which are so many bytes from its begin.
abbrev pub BlocksReadAs : ℕ → List Block → List (List ℕ) → List (List ℕ) → List FieldChange →
    Type 0
BlocksReadAs nth [] [] [] changes = changes ≡ []
BlocksReadAs nth (b ∷ bs) (old ∷ olds) (new ∷ news) changes = (one : List FieldChange)
    × (more : List FieldChange) × BlockReadsAs nth b.at old new one
    × BlocksReadAs nth bs olds news more × (changes ≡ one ++ more)
BlocksReadAs nth bs olds news changes = ⊥

-- A data record has so many bytes: with its blocks where it says when it starts, or samples alone.
abbrev pub record_size : Bool → Layout → ℕ
record_size timed l = if timed then l.record_bytes else 2 * samples_in_all l.key.signals

-- A data record says when it starts: its samples are those bytes, and its start and annotations
-- what a strict reading gets from its blocks. `RecordsReadAs` has its length.
pub record TimedRecordReadsAs (l : Layout) (place : Place) (nth : ℕ) (bytes : List ℕ)
    (r : DataRecord) (changes : List FieldChange) : Type 0 where
  pub samples : r.samples ≡ ordinary_bytes l bytes
  pub read : List (List ℕ)
  pub each : BlocksReadAs nth l.blocks (blocks l bytes) read changes
  pub parsed : BlocksParseTo read l.start place r.start r.annotations

-- One that doesn't starts with the file, or right after the one before.
abbrev pub next_start : Layout → Place → ℕ
next_start l (After before duration) = before + duration
next_start l place = l.start

abbrev pub PlainRecordReadsAs : Layout → Place → List ℕ → DataRecord → Type 0
PlainRecordReadsAs l place bytes r =
    (r.samples ≡ bytes) × (r.start ≡ next_start l place) × (r.annotations ≡ [])

-- It is the nth. What differs of its annotations is listed.
abbrev pub RecordReadsAs : Bool → Layout → Place → ℕ → List ℕ → DataRecord → List FieldChange →
    Type 0
RecordReadsAs true l place nth bytes r changes = TimedRecordReadsAs l place nth bytes r changes
RecordReadsAs false l place nth bytes r changes =
    PlainRecordReadsAs l place bytes r × (changes ≡ [])

-- They come in turn, and the first is the nth.
abbrev pub RecordsReadAs : Bool → Layout → Place → ℕ → List (List ℕ) → List DataRecord →
    List FieldChange → Type 0
RecordsReadAs timed l place nth [] [] changes = changes ≡ []
RecordsReadAs timed l place nth (bytes ∷ pieces) (r ∷ rs) changes = (one : List FieldChange)
    × (more : List FieldChange) × (length bytes ≡ record_size timed l)
    × RecordReadsAs timed l place nth bytes r one
    × RecordsReadAs timed l (place_after l r.start) (nth + 1) pieces rs more
    × (changes ≡ one ++ more)
RecordsReadAs timed l place nth pieces rs changes = ⊥

-- Nobody counted them: there is no digit, or 0, or -1.
abbrev pub IsUncounted : List ℕ → Type 0
IsUncounted count = All (λ b. is_ascii_digit b ≡ false) count
    ⊎ (IsNumber (numeral count) 0 ⊎ (numeral_text count ≡ codes "-1"))

-- There are as many as the header counts; or all count, since a person says so; or, where each says
-- when it starts, nobody counted them, or more are counted.
abbrev pub CountFits : Wanted → Bool → List ℕ → ℕ → Type 0
CountFits w timed count n = IsNumber (numeral count) n
    ⊎ ((w.all ≡ true) ⊎ ((timed ≡ true)
    × (IsUncounted count ⊎ ((m : ℕ) × IsNumber (numeral count) m × (n ≤ m)))))

-- The number of header bytes is that of the signals; or it is any, where the data records that the
-- header counts end with the file.
abbrev pub HeaderSizeFits : List ℕ → ℕ → ℕ → ℕ → Type 0
HeaderSizeFits fixed n records left_out =
    IsNumber (numeral (header_bytes_field fixed)) (256 + 256 * n)
    ⊎ (IsNumber (numeral (count_field fixed)) records × (left_out ≡ 0))

-- The bytes behind the header are whole data records, and less than one more, which is left out.
-- Where nothing says when a data record starts, no byte is, unless a person asks for all.
pub record BodyReadsAs (w : Wanted) (timed : Bool) (fixed : List ℕ) (n : ℕ) (l : Layout)
    (body : List ℕ) (records : List DataRecord) (left_out : ℕ) : Type 0 where
  pub pieces : List (List ℕ)
  pub tail : List ℕ
  pub parts : body ≡ flat_map (λ piece. piece) pieces ++ tail
  pub less : length tail < record_size timed l
  pub left_out_is : left_out ≡ length tail
  pub changes : List FieldChange
  pub each : RecordsReadAs timed l First 1 pieces records changes
  pub count : CountFits w timed (count_field fixed) (length records)
  pub sized : HeaderSizeFits fixed n (length records) left_out
  pub behind : timed ≡ false → w.all ≡ false → left_out ≡ 0
