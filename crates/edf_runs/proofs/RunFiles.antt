-- The file of a run: there is one, no other bytes are one, and it is read again.
use Rattle.std.proofs.Common.{◌≡◌, ℕ, ◌+◌, ◌-◌, ◌*◌, ◌≤◌, List, ◌++◌, length, take, drop, refl, sym}
use Rattle.std.proofs.Common.{ap, ◌∙◌, subst, arith, inl, append_assoc}
use Rattle.std.specs.Prelude.{codes}
use Rattle.std.proofs.lemmas.List.{drop_at, take-append-le, drop-append-le, take-append-drop}
use Rattle.std.proofs.lemmas.List.{drop-drop, length-append, length-take, length-take-le}
use Rattle.std.proofs.lemmas.List.{length-drop}
use Rattle.std.proofs.lemmas.List.Elements.{All-append, All-take, All-drop}
use Rattle.edf_time.specs.Civil.{IsCivil}
use Rattle.edf_field.specs.Number.{field, IsNumber, duration_of}
use Rattle.edf_field.specs.Text.{IsPrintable, IsRecording}
use Rattle.edf_header.specs.Fields.{startdate_field, starttime_field, reserved_field}
use Rattle.edf_header.specs.Header.{HeaderRecord, FixedPart, IsFixedHeader, IsHeader, IsCount}
use Rattle.edf_header.specs.Key.{Key, IsKey}
use Rattle.edf_header.proofs.SpelledTexts.{printable-by}
use Rattle.edf_header.specs.declared.limits.TheConstants.{MOST_RECORDS}
use Rattle.edf_fragment.specs.Fragment.{DataRecord, IsFragmentFile}
use Rattle.edf_fragment.specs.Sound.{AreSoundFrom, FirstMayStart}
use Rattle.edf_canonical.proofs.Files.{one-file, its-own}
use Rattle.edf_canonical.proofs.SomeFile.{some-file}
use Rattle.edf_runs.specs.Runs.{IsTouching}
use Rattle.edf_runs.specs.File.{marked_continuous, IsRunFile, IsContinuous}

-- ---- with another mark the fields before and after it are the same

-- bytes before others
front-field : (front x y : List ℕ) (at n : ℕ) → at + n ≤ length front →
    field (front ++ x) at n ≡ field (front ++ y) at n
front-field front x y at n within = one x ∙ sym (one y)
  where
    one : (z : List ℕ) → field (front ++ z) at n ≡ take n (drop at front)
    one z =
        ap (take n) (drop-append-le at front z (omega arith))
        ∙ take-append-le n (drop at front) z (omega (arith, length-drop at front))

-- bytes after others
back-field : (a b back : List ℕ) (before at n : ℕ) → length a ≡ before → length b ≡ before →
    before ≤ at → field (a ++ back) at n ≡ field (b ++ back) at n
back-field a b back before at n a-len b-len low = ap (take n) (one a a-len ∙ sym (one b b-len))
  where
    one : (z : List ℕ) → length z ≡ before → drop at (z ++ back) ≡ drop (at - before) back
    one z len =
        let all : before + (at - before) ≡ at = omega arith in
        ap (λ (m : ℕ). drop m (z ++ back)) (sym all)
        ∙ sym (drop-drop (at - before) before (z ++ back))
        ∙ ap (drop (at - before)) (drop_at z back before len)

-- the bytes before the mark, and those after it
abbrev before_mark : List ℕ → List ℕ
before_mark bytes = take 192 bytes

abbrev after_mark : List ℕ → List ℕ
after_mark bytes = drop 197 bytes

module _ (bytes : List ℕ) (long : 197 ≤ length bytes) where
  before-len : length (before_mark bytes) ≡ 192
  before-len = length-take-le 192 bytes (omega arith)

  -- the mark that was there
  abbrev old : List ℕ
  old = field bytes 192 5

  old-len : length old ≡ 5
  old-len = omega (arith, length-take 5 (drop 192 bytes), length-drop 192 bytes)

  parts : bytes ≡ before_mark bytes ++ (old ++ after_mark bytes)
  parts =
      sym (take-append-drop 192 bytes)
      ∙ ap (λ (l : List ℕ). before_mark bytes ++ l) (sym (take-append-drop 5 (drop 192 bytes))
      ∙ ap (λ (l : List ℕ). old ++ l) (drop-drop 5 192 bytes))

  -- the bytes before the mark, and then all others
  marked-is : marked_continuous bytes ≡ before_mark bytes ++ (codes "EDF+C" ++ after_mark bytes)
  marked-is = append_assoc (before_mark bytes) (codes "EDF+C") (after_mark bytes)

  early : (at n : ℕ) → at + n ≤ 192 → field (marked_continuous bytes) at n ≡ field bytes at n
  early at n within =
      ap (λ (l : List ℕ). field l at n) marked-is
      ∙ front-field (before_mark bytes) (codes "EDF+C" ++ after_mark bytes) (old
      ++ after_mark bytes) at n (omega (arith, before-len))
      ∙ ap (λ (l : List ℕ). field l at n) (sym parts)

  late : (at n : ℕ) → 197 ≤ at → field (marked_continuous bytes) at n ≡ field bytes at n
  late at n low =
      back-field (before_mark bytes ++ codes "EDF+C") (before_mark bytes
      ++ old) (after_mark bytes) 197 at n
      (omega (arith, before-len, length-append (before_mark bytes) (codes "EDF+C")))
      (omega (arith, before-len, old-len, length-append (before_mark bytes) old)) low
      ∙ ap (λ (l : List ℕ). field l at n) (append_assoc (before_mark bytes) old (after_mark bytes)
      ∙ sym parts)

  marked-mark : take 5 (reserved_field (marked_continuous bytes)) ≡ codes "EDF+C"
  marked-mark =
      ap (λ (l : List ℕ). take 5 (reserved_field l)) marked-is
      ∙ ap (λ (l : List ℕ). take 5 (take 44 l))
      (drop_at (before_mark bytes) (codes "EDF+C" ++ after_mark bytes) 192 before-len)

  pub marked-len : length (marked_continuous bytes) ≡ length bytes
  marked-len =
      ap length marked-is
      ∙ omega (
        arith,
        before-len,
        length-append (before_mark bytes) (codes "EDF+C" ++ after_mark bytes),
        length-append (codes "EDF+C") (after_mark bytes),
        length-drop 197 bytes,
      )

  -- what follows bytes that have the mark
  pub marked-front : (rest : List ℕ) → marked_continuous (bytes ++ rest) ≡ marked_continuous bytes
      ++ rest
  marked-front rest =
      ap (λ (l : List ℕ). (l ++ codes "EDF+C") ++ after_mark (bytes ++ rest))
      (take-append-le 192 bytes rest (omega arith))
      ∙ ap (λ (l : List ℕ). (before_mark bytes ++ codes "EDF+C")
      ++ l) (drop-append-le 197 bytes rest long)
      ∙ sym (append_assoc (before_mark bytes ++ codes "EDF+C") (after_mark bytes) rest)

-- ---- so the header says the same

marked-fixed : (bytes : List ℕ) (h : FixedPart) → IsFixedHeader bytes h →
    IsFixedHeader (marked_continuous bytes) h
marked-fixed bytes h is = record {
  len = marked-len bytes long ∙ is.len;
  printable = All-append IsPrintable (before_mark bytes ++ codes "EDF+C") (after_mark bytes)
      (All-append IsPrintable (before_mark bytes) (codes "EDF+C")
      (All-take IsPrintable 192 bytes is.printable) (printable-by (codes "EDF+C") refl))
      (All-drop IsPrintable 197 bytes is.printable);
  version = early bytes long 0 8 (omega arith) ∙ is.version;
  patient = is.patient ∙ sym (early bytes long 8 80 (omega arith));
  is_patient = is.is_patient;
  recording = subst (λ (l : List ℕ). IsRecording l h.startdate h.after)
      (sym (early bytes long 88 80 (omega arith))) is.recording;
  start = subst (λ (l : List ℕ). IsCivil l (starttime_field (marked_continuous bytes)) h.startdate
      h.start) (sym (early bytes long 168 8 (omega arith)))
      (subst (λ (l : List ℕ). IsCivil (startdate_field bytes) l h.startdate h.start)
      (sym (early bytes long 176 8 (omega arith))) is.start);
  header_bytes = subst (λ (l : List ℕ). IsNumber l (256 + 256 * h.signal_count))
      (sym (early bytes long 184 8 (omega arith))) is.header_bytes;
  reserved = inl (marked-mark bytes long);
  count = subst (λ (l : List ℕ). IsCount l h.count) (sym (late bytes long 236 8 (omega arith)))
      is.count;
  duration = is.duration ∙ sym (late bytes long 244 8 (omega arith));
  is_duration = is.is_duration;
  signals = subst (λ (l : List ℕ). IsNumber l h.signal_count)
      (sym (late bytes long 252 4 (omega arith))) is.signals;
  signals_from = is.signals_from;
  signals_to = is.signals_to;
}
  where
    long : 197 ≤ length bytes
    long = omega (arith, is.len)

marked-header : (bytes : List ℕ) (h : HeaderRecord) (rest : List ℕ) → IsHeader bytes h rest →
    IsHeader (marked_continuous bytes) h rest
marked-header bytes h rest is = record {
  first = marked_continuous is.first;
  second = is.second;
  parts = ap marked_continuous is.parts
      ∙ marked-front is.first (omega (arith, is.fixed.len)) (is.second ++ rest);
  fixed = marked-fixed is.first h.fixed is.fixed;
  signals = is.signals;
}

marked-spells : (bytes : List ℕ) (k : Key) (records : List DataRecord) →
    IsFragmentFile bytes k records →
    IsFragmentFile (marked_continuous bytes) k records
marked-spells bytes k records s = record {
  header = s.header;
  rest = s.rest;
  next_place = s.next_place;
  is_header = marked-header bytes s.header s.rest s.is_header;
  key = s.key;
  are_records = s.are_records;
  least = s.least;
  most = s.most;
}

long-header : (bytes : List ℕ) (h : HeaderRecord) (rest : List ℕ) → IsHeader bytes h rest →
    197 ≤ length bytes
long-header bytes h rest is = omega (
  arith,
  is.fixed.len,
  ap length is.parts,
  length-append is.first (is.second ++ rest),
)

-- ---- the laws

pub some-run-file : (k : Key) (run : List DataRecord) → IsKey k → AreSoundFrom k 0 run →
    FirstMayStart k run → 1 ≤ length run → length run ≤ MOST_RECORDS
    → IsTouching (duration_of k.duration) run → (file : List ℕ) × IsRunFile file k run
some-run-file k run key sound begins some few touching =
    let file = some-file k run key sound begins some few in (
      marked_continuous file.0,
      record {
        touching = touching;
        canonical = file.0;
        is_canonical =
            file.1;
        marked = refl;
      },
    )

pub one-run-file : (a b : List ℕ) (k : Key) (run : List DataRecord) → IsRunFile a k run →
    IsRunFile b k run → a ≡ b
one-run-file a b k run x y = x.marked
    ∙ ap marked_continuous (one-file x.canonical y.canonical k run x.is_canonical y.is_canonical)
    ∙ sym y.marked

pub run-file-spells : (file : List ℕ) (k : Key) (run : List DataRecord) → IsRunFile file k run →
    IsFragmentFile file k run
run-file-spells file k run is =
    subst (λ (l : List ℕ). IsFragmentFile l k run) (sym is.marked)
    (marked-spells is.canonical k run (its-own is.canonical k run is.is_canonical))

pub run-file-read : (file : List ℕ) (k : Key) (run : List DataRecord) → IsRunFile file k run →
    IsContinuous file k run
run-file-read file k run is =
    let s = its-own is.canonical k run is.is_canonical in
    record {
      mark = ap (λ (l : List ℕ). take 5 (reserved_field l)) is.marked
          ∙ marked-mark is.canonical (long-header is.canonical s.header s.rest s.is_header);
      spells = run-file-spells file k run is;
      no_gap = is.touching;
    }
