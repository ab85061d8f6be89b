-- Each list of bytes spells a fragment or has a first fault.
use Rattle.std.proofs.Common.{◌≡◌, ℕ, zero, suc, ◌+◌, ◌≤◌, ◌<◌, ◌⊎◌, inl, inr, List, [], ◌∷◌, ◌++◌}
use Rattle.std.proofs.Common.{length, take, drop, arith, refl, sym, ap, ◌∙◌, subst, length-append}
use Rattle.std.proofs.lemmas.Bool.{cases_lt}
use Rattle.std.proofs.lemmas.List.{length-take, take-append-drop}
use Rattle.edf_header.specs.Key.{Key}
use Rattle.edf_header.specs.Header.{HeaderRecord, IsHeader, Layout, layout_of, least_records}
use Rattle.edf_header.specs.Header.{most_records}
use Rattle.edf_header.proofs.Cited.{header-or-fault, header-has-layout}
use Rattle.edf_tal.specs.Tal.{Annotation}
use Rattle.edf_tal.specs.Block.{BlocksParseTo}
use Rattle.edf_tal.specs.declared.place.Place.{Place}
use Rattle.edf_tal.specs.declared.place.Place.TheVariants.{First}
use Rattle.edf_tal.proofs.Cited.{blocks-some-answer}
use Rattle.edf_fragment.specs.Fragment.{DataRecord, IsDataRecord, BeginWithDataRecords, place_after}
use Rattle.edf_fragment.specs.Fragment.{blocks, ordinary_bytes, IsFragmentFile}
use Rattle.edf_fragment.specs.Fault.{ParsedPrefix, IsFirstFault}
use Rattle.edf_fragment.specs.declared.fault.FragmentFault.{FragmentFault}
use Rattle.edf_fragment.specs.declared.fault.FragmentFault.TheVariants.{Header as BadHeader}
use Rattle.edf_fragment.specs.declared.fault.FragmentFault.TheVariants.{CutRecord, Tal, Trailing}
use Rattle.edf_fragment.specs.Parsed.{Parsed, Fragment, Fault, ParsesTo}
use Rattle.edf_fragment.proofs.Layouts.{least-most, blocks-front}
use Rattle.edf_fragment.proofs.OneFragment.{one-fragment, spelled-no-fault, one-first-fault}

-- one more data record, at the front of what is left
AreDataRecords-next : (l : Layout) (p q : Place) (b left front back : List ℕ) (rs : List DataRecord)
    (r : DataRecord) → BeginWithDataRecords l p b rs q left → left ≡ front ++ back → IsDataRecord l
    q front r → BeginWithDataRecords l p b (rs ++ r ∷ []) (place_after l r.start) back
AreDataRecords-next l p q b left front back [] r (place, rest) parts is = (
  front,
  back,
  sym rest ∙ parts,
  subst (λ (x : Place). IsDataRecord l x front r) place is,
  (refl, refl),
)
AreDataRecords-next l p q b left front back (x ∷ rs) r (first, others, halves, one, more) parts is =
    let next = AreDataRecords-next l (place_after l x.start) q others left front back rs r more
    parts is in
    (first, others, halves, one, next)

-- a key and data records, or a fault
abbrev pub HasAnswer : List ℕ → Type 0
HasAnswer b = ((k : Key) × (rs : List DataRecord) × IsFragmentFile b k rs)
    ⊎ ((e : FragmentFault) × IsFirstFault b e)

module _ (b : List ℕ) (h : HeaderRecord) (rest : List ℕ) (is : IsHeader b h rest) where
  -- so far
  abbrev up-to : (rs : List DataRecord) (last : Place) (left : List ℕ) →
      BeginWithDataRecords (layout_of h) First rest rs last left → ParsedPrefix b
  up-to rs last left are = record {
    header = h;
    rest = rest;
    records = rs;
    next_place = last;
    remaining = left;
    is_header = is;
    are_records = are;
  }

  -- nothing is left, and no more data records must come
  ended : (rs : List DataRecord) (last : Place) →
      BeginWithDataRecords (layout_of h) First rest rs last [] → least_records (layout_of h).count ≤
      length rs → length rs ≤ most_records (layout_of h).count → HasAnswer b
  ended rs last are least most =
      inl (
        (layout_of h).key,
        rs,
        record {
          header = h;
          rest = rest;
          next_place = last;
          is_header = is;
          key = refl;
          are_records = are;
          least = least;
          most = most;
        },
      )

  -- no more data records may be there
  at-end : (rs : List DataRecord) (last : Place) (left : List ℕ) →
      BeginWithDataRecords (layout_of h) First rest rs last left →
      length rs ≡ most_records (layout_of h).count → HasAnswer b
  at-end rs last [] are all = ended rs last are (omega (arith, all, least-most (layout_of h).count))
      (omega (arith, all))
  at-end rs last (x ∷ left) are all =
      inr (Trailing, record { up_to = up-to rs last (x ∷ left) are; all = all; more = omega arith })

  -- too few bytes are left for a data record
  at-cut : (rs : List DataRecord) (last : Place) (left : List ℕ) →
      BeginWithDataRecords (layout_of h) First rest rs last left → length rs < most_records
      (layout_of h).count → length left < (layout_of h).record_bytes → HasAnswer b
  at-cut rs last [] are low cut =
      elim (cases_lt (length rs) (least_records (layout_of h).count)) [
        | inl wanted ↦
            inr (
              CutRecord (length rs + 1),
              record {
                up_to = up-to rs last [] are;
                is_nth = refl;
                may_come = omega (arith, low);
                there = inl (omega (arith, wanted));
                cut = cut;
              },
            )
        | inr enough ↦ ended rs last are enough (omega (arith, low))
      ]
  at-cut rs last (x ∷ left) are low cut =
      inr (
        CutRecord (length rs + 1),
        record {
          up_to = up-to rs last (x ∷ left) are;
          is_nth = refl;
          may_come = omega (arith, low);
          there = inr (omega arith);
          cut = cut;
        },
      )

  -- the data record at the front of enough bytes
  next-record : (last : Place) (left : List ℕ) (start : ℕ) (list : List Annotation) →
      (layout_of h).record_bytes ≤ length left
      → BlocksParseTo (blocks (layout_of h) left) (layout_of h).start last start list
      → IsDataRecord (layout_of h) last (take (layout_of h).record_bytes left) (record {
        start = start;
        samples =
            ordinary_bytes (layout_of h) (take (layout_of h).record_bytes left);
        annotations = list;
      })
  next-record last left start list whole read =
      let l = layout_of h in
      let n = (layout_of h).record_bytes in
      let len : length (take n left) ≡ n = omega (arith, whole, length-take n left) in
      let parts : left ≡ take n left ++ drop n left = sym (take-append-drop n left) in
      let same : blocks l left ≡ blocks l (take n left) = ap (blocks l) parts
      ∙ blocks-front l (take n left) (drop n left) (header-has-layout b h rest is)
      (omega (arith, len)) in
      record {
        len = len;
        read = subst (λ (x : List (List ℕ)). BlocksParseTo x l.start last start list)
            same read;
        samples_are = refl;
      }

  -- what comes after some data records, where there may be n more
  read-on : (n : ℕ) (rs : List DataRecord) (last : Place) (left : List ℕ) →
      BeginWithDataRecords (layout_of h) First rest rs last left →
      length rs + n ≡ most_records (layout_of h).count → HasAnswer b
  read-on zero rs last left are all = at-end rs last left are (omega (arith, all))
  read-on (suc n) rs last left are all =
      elim (cases_lt (length left) (layout_of h).record_bytes) [
        | inl cut ↦ at-cut rs last left are (omega (arith, all)) cut
        | inr whole ↦ let file_start = (layout_of h).start in
            elim (blocks-some-answer (blocks (layout_of h) left) file_start last) [
              | inl r ↦
                  let size = (layout_of h).record_bytes in
                  let one = next-record last left r.0 r.1 whole r.2 in
                  let new : DataRecord = record {
                    start = r.0;
                    samples =
                        ordinary_bytes (layout_of h) (take size left);
                    annotations = r.1;
                  } in
                  read-on n (rs ++ new ∷ []) (place_after (layout_of h) r.0) (drop size left)
                  (AreDataRecords-next (layout_of h) First last rest left (take size left)
                  (drop size left) rs new are (sym (take-append-drop size left)) one)
                  (omega (arith, all, length-append rs (new ∷ [])))
              | inr f ↦ inr (
                Tal (length rs + 1) f.0,
                record {
                  up_to = up-to rs last left are;
                  is_nth = refl;
                  may_come = omega (arith, all);
                  whole = whole;
                  refused = f.1;
                },
              )
            ]
      ]

some-answer : (b : List ℕ) → HasAnswer b
some-answer b = elim (header-or-fault b) [
  | inl h ↦ read-on b h.0 h.1 h.2 (most_records (layout_of h.0).count) [] First h.1 (
    refl,
    refl,
  ) (omega arith)
  | inr f ↦ inr (BadHeader f.0, f.1)
]

-- what bytes amount to, and that they amount to nothing else
pub some-parse : (b : List ℕ) → (t : Parsed) × ParsesTo b t
some-parse b = elim (some-answer b) [
  | inl s ↦ (Fragment s.0 s.1, s.2)
  | inr f ↦ (Fault f.0, f.1)
]

pub one-parse : (b : List ℕ) (t u : Parsed) → ParsesTo b t → ParsesTo b u → t ≡ u
one-parse b (Fragment k rs) (Fragment j ss) x y =
    let same = one-fragment b k j rs ss x y in
    ap (λ (z : Key). Fragment z rs) same.key
    ∙ ap (λ (z : List DataRecord). Fragment j z) same.records
one-parse b (Fragment k rs) (Fault f) x y = absurd (spelled-no-fault b k rs f x y)
one-parse b (Fault e) (Fragment j ss) x y = absurd (spelled-no-fault b j ss e y x)
one-parse b (Fault e) (Fault f) x y =
    ap (λ (z : FragmentFault). Fault z) (one-first-fault b e f x y)
