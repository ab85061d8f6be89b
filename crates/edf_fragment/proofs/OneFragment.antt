-- Bytes spell one fragment at most, or have one first fault.
use Rattle.std.proofs.Common.{◌≡◌, ℕ, ◌+◌, ◌≤◌, ◌<◌, inl, inr, List, [], ◌∷◌, ◌++◌, length, arith}
use Rattle.std.proofs.Common.{refl, sym, ap, ◌∙◌, subst, append-nil, length-append}
use Rattle.std.proofs.lemmas.Bool.{cases_lt}
use Rattle.edf_header.specs.Key.{Key}
use Rattle.edf_header.specs.Header.{HeaderRecord, IsHeader, Layout, IsLayout, layout_of}
use Rattle.edf_header.specs.Header.{least_records, most_records}
use Rattle.edf_tal.specs.Block.{BlocksHaveFirstFault}
use Rattle.edf_tal.specs.declared.place.Place.{Place}
use Rattle.edf_tal.specs.declared.place.Place.TheVariants.{First}
use Rattle.edf_tal.specs.declared.place.TalFault.{TalFault}
use Rattle.edf_tal.proofs.Cited.{blocks-one-read, blocks-read-no-fault, blocks-one-fault}
use Rattle.edf_fragment.specs.Fragment.{DataRecord, IsDataRecord, BeginWithDataRecords, place_after}
use Rattle.edf_fragment.specs.Fragment.{blocks, IsFragmentFile}
use Rattle.edf_fragment.specs.Fault.{ParsedPrefix, IsCutRecord, IsRefusedRecord, HasTrailingBytes}
use Rattle.edf_fragment.specs.Fault.{IsFirstFault}
use Rattle.edf_fragment.specs.declared.fault.FragmentFault.{FragmentFault}
use Rattle.edf_fragment.specs.declared.fault.FragmentFault.TheVariants.{Header as BadHeader}
use Rattle.edf_fragment.specs.declared.fault.FragmentFault.TheVariants.{CutRecord, Tal, Trailing}
use Rattle.edf_header.specs.declared.fault.HeaderFault.{HeaderFault}
use Rattle.edf_fragment.proofs.Layouts.{record-some, blocks-front}
use Rattle.edf_header.proofs.Cited.{header-has-layout, one-header, header-no-fault}
use Rattle.edf_header.proofs.Cited.{one-header-fault}
use Rattle.edf_fragment.proofs.Fronts.{same_front}

-- ---- one data record

pub one-record : (l : Layout) (p : Place) (b : List ℕ) (r s : DataRecord) → IsDataRecord l p b r →
    IsDataRecord l p b s → r ≡ s
one-record l p b r s x y =
    let same = blocks-one-read (blocks l b) l.start p r.start s.start r.annotations s.annotations
    x.read y.read in
    let samples : r.samples ≡ s.samples = x.samples_are ∙ sym y.samples_are in
    λ i. record { start = same.start i; samples = samples i; annotations = same.list i }

-- data records go on where others stop
pub record GoesOn (l : Layout) (rs ss : List DataRecord) (p q : Place) (x y : List ℕ) : Type 0 where
  pub others : List DataRecord
  pub all : ss ≡ rs ++ others
  pub are_records : BeginWithDataRecords l p x others q y

pub goes_on : (l : Layout) (f p q : Place) (b x y : List ℕ) (rs ss : List DataRecord) →
    length rs ≤ length ss
    → BeginWithDataRecords l f b rs p x → BeginWithDataRecords l f b ss q y → GoesOn l rs ss p q x y
goes_on l f p q b x y [] ss few (place, rest) more = record {
  others = ss;
  all = refl;
  are_records = subst (λ (z : List ℕ). BeginWithDataRecords l p z ss q y) (sym rest)
      (subst (λ (z : Place). BeginWithDataRecords l z b ss q y) (sym place) more);
}
goes_on l f p q b x y (r ∷ rs) [] few are more = absurd (omega arith)
goes_on l f p q b x y (r ∷ rs) (s ∷ ss) few (front, back, parts, one, are) (
  front2,
  back2,
  parts2,
  one2,
  are2,
) =
    let same = same_front b front back front2 back2 parts parts2 (one.len ∙ sym one2.len) in
    let first : r ≡ s = one-record l f front2 r s
    (subst (λ (z : List ℕ). IsDataRecord l f z r) same.front one) one2 in
    let here = subst (λ (z : DataRecord). BeginWithDataRecords l
    (place_after l z.start) back rs p x) first are in
    let there = subst (λ (z : List ℕ). BeginWithDataRecords l (place_after l s.start) z rs p x)
    same.back here in
    let rest = goes_on l (place_after l s.start) p q back2 x y rs ss (omega arith) there are2 in
    let all : s ∷ ss ≡ (r ∷ rs) ++ rest.others = ap (λ (z : List DataRecord). s ∷ z) rest.all
    ∙ ap (λ (z : DataRecord). z ∷ (rs ++ rest.others)) (sym first) in
    record { others = rest.others; all = all; are_records = rest.are_records }

-- ---- where data records stop

-- no more data records may be there, or none is at the front
pub record IsStuck (l : Layout) (rs : List DataRecord) (p : Place) (x : List ℕ) : Type 0 where
  pub within : length rs ≤ most_records l.count
  pub none : length rs < most_records l.count → (front back : List ℕ) (r : DataRecord) → x ≡ front
      ++ back → ¬ IsDataRecord l p front r

-- the same data records, place and rest
pub record SameRun (rs ss : List DataRecord) (p q : Place) (x y : List ℕ) : Type 0 where
  pub records : rs ≡ ss
  pub place : p ≡ q
  pub rest : x ≡ y

stops : (l : Layout) (rs ss others : List DataRecord) (p q : Place) (x y : List ℕ) → ss ≡ rs
    ++ others → IsStuck l rs p x → length ss ≤ most_records l.count
    → BeginWithDataRecords l p x others q y → SameRun rs ss p q x y
stops l rs ss [] p q x y all stuck few (place, rest) =
    record { records = sym (all ∙ append-nil rs); place = sym place; rest = sym rest }
stops l rs ss (r ∷ others) p q x y all stuck few (front, back, parts, one, more) =
    let len : length ss ≡ length rs + length (r ∷ others) =
    ap (λ (z : List DataRecord). length z) all ∙ length-append rs (r ∷ others) in
    absurd (stuck.none (omega arith) front back r parts one)

swapped : (rs ss : List DataRecord) (p q : Place) (x y : List ℕ) → SameRun ss rs q p y x →
    SameRun rs ss p q x y
swapped rs ss p q x y s = record { records = sym s.records; place = sym s.place; rest = sym s.rest }

pub one-run : (l : Layout) (f p q : Place) (b x y : List ℕ) (rs ss : List DataRecord) →
    BeginWithDataRecords l f b rs p x → BeginWithDataRecords l f b ss q y
    → IsStuck l rs p x → IsStuck l ss q y → SameRun rs ss p q x y
one-run l f p q b x y rs ss a c stuck stuck2 =
    elim (cases_lt (length ss) (length rs)) [
      | inl more ↦
          let on = goes_on l f q p b y x ss rs (omega arith) c a in
          swapped rs ss p q x y (stops l ss rs on.others q p y x on.all stuck2 stuck.within
          on.are_records)
      | inr few ↦
          let on = goes_on l f p q b x y rs ss few a c in
          stops l rs ss on.others p q x y on.all stuck stuck2.within on.are_records
    ]

-- ---- where a fragment or a fault stops

cut-stuck : (b : List ℕ) (nth : ℕ) (p : IsCutRecord b nth) →
    IsStuck (layout_of p.up_to.header) p.up_to.records p.up_to.next_place p.up_to.remaining
cut-stuck b nth p = record {
  within = omega (arith, p.is_nth, p.may_come);
  none = λ low front back r parts is. omega (
    arith,
    is.len,
    p.cut,
    ap (λ (z : List ℕ). length z) parts ∙ length-append front back,
  );
}

-- the layout of the header that was read
layout-up-to : (b : List ℕ) (u : ParsedPrefix b) → IsLayout (layout_of u.header)
layout-up-to b u = header-has-layout b u.header u.rest u.is_header

block-stuck : (b : List ℕ) (nth : ℕ) (e : TalFault) (p : IsRefusedRecord b nth e) →
    IsStuck (layout_of p.up_to.header) p.up_to.records p.up_to.next_place p.up_to.remaining
block-stuck b nth e p =
    let l = layout_of p.up_to.header in
    record {
      within = omega (arith, p.is_nth, p.may_come);
      none = λ low front back r parts is.
          let same : blocks l p.up_to.remaining ≡ blocks l front = ap (blocks l) parts
          ∙ blocks-front l front back (layout-up-to b p.up_to) (omega (arith, is.len)) in
          blocks-read-no-fault (blocks l front) l.start p.up_to.next_place r.start r.annotations e
          is.read (subst (λ (z : List (List ℕ)). BlocksHaveFirstFault z l.start p.up_to.next_place
          e) same p.refused);
    }

all-stuck : (l : Layout) (rs : List DataRecord) (p : Place) (x : List ℕ) →
    length rs ≡ most_records l.count → IsStuck l rs p x
all-stuck l rs p x all = record {
  within = omega (arith, all);
  none =
      λ low. absurd (omega (arith, all, low));
}

trailing-stuck : (b : List ℕ) (p : HasTrailingBytes b) →
    IsStuck (layout_of p.up_to.header) p.up_to.records p.up_to.next_place p.up_to.remaining
trailing-stuck b p = all-stuck (layout_of p.up_to.header) p.up_to.records p.up_to.next_place
    p.up_to.remaining p.all

-- nothing is left for a data record
none-stuck : (l : Layout) (rs : List DataRecord) (p : Place) → IsLayout l →
    length rs ≤ most_records l.count → IsStuck l rs p []
none-stuck l rs p i within = record {
  within = within;
  none = λ low front back r parts is. omega (
    arith,
    is.len,
    record-some l i,
    ap (λ (z : List ℕ). length z) parts ∙ length-append front back,
  );
}

abbrev spelled : (b : List ℕ) (k : Key) (rs : List DataRecord) → IsFragmentFile b k rs →
    ParsedPrefix b
spelled b k rs s = record {
  header = s.header;
  rest = s.rest;
  records = rs;
  next_place = s.next_place;
  remaining = [];
  is_header = s.is_header;
  are_records = s.are_records;
}

spelled-stuck : (b : List ℕ) (k : Key) (rs : List DataRecord) (s : IsFragmentFile b k rs) →
    IsStuck (layout_of s.header) rs s.next_place []
spelled-stuck b k rs s = none-stuck (layout_of s.header) rs s.next_place
    (layout-up-to b (spelled b k rs s)) s.most

-- ---- two readings of the same bytes

pub record SameEnd (h g : HeaderRecord) (rs ss : List DataRecord) (p q : Place)
    (x y : List ℕ) : Type 0 where
  pub header : h ≡ g
  pub run : SameRun rs ss p q x y

same-end : (b r s : List ℕ) (h g : HeaderRecord) (rs ss : List DataRecord) (p q : Place)
    (x y : List ℕ) → IsHeader b h r → IsHeader b g s → BeginWithDataRecords (layout_of h) First r rs
    p x → BeginWithDataRecords (layout_of g) First s ss q y → IsStuck (layout_of h) rs p x → IsStuck
    (layout_of g) ss q y → SameEnd h g rs ss p q x y
same-end b r s h g rs ss p q x y is is2 are are2 stuck stuck2 =
    let one = one-header b h g r s is is2 in
    let there = subst (λ (z : List ℕ). BeginWithDataRecords (layout_of g) First z rs p x) one.1
    (subst (λ (z : HeaderRecord). BeginWithDataRecords (layout_of z) First r rs p x) one.0 are) in
    let stuck1 = subst (λ (z : HeaderRecord). IsStuck (layout_of z) rs p x) one.0 stuck in
    record {
      header = one.0;
      run = one-run (layout_of g) First p q s x y rs ss there are2 stuck1
          stuck2;
    }

-- the numbers that two readings share
record SameNumbers (h g : HeaderRecord) (rs ss : List DataRecord) (x y : List ℕ) : Type 0 where
  given : length rs ≡ length ss
  least : least_records (layout_of h).count ≡ least_records (layout_of g).count
  most : most_records (layout_of h).count ≡ most_records (layout_of g).count
  size : (layout_of h).record_bytes ≡ (layout_of g).record_bytes
  remaining : length x ≡ length y

numbers : (h g : HeaderRecord) (rs ss : List DataRecord) (p q : Place) (x y : List ℕ) →
    SameEnd h g rs ss p q x y → SameNumbers h g rs ss x y
numbers h g rs ss p q x y e = record {
  given = ap (λ (z : List DataRecord). length z) e.run.records;
  least = ap (λ (z : HeaderRecord). least_records (layout_of z).count) e.header;
  most = ap (λ (z : HeaderRecord). most_records (layout_of z).count) e.header;
  size = ap (λ (z : HeaderRecord). (layout_of z).record_bytes) e.header;
  remaining = ap (λ (z : List ℕ). length z) e.run.rest;
}

-- two readings of the same bytes that both stop
both : (b : List ℕ) (u v : ParsedPrefix b) →
    IsStuck (layout_of u.header) u.records u.next_place u.remaining → IsStuck (layout_of v.header)
    v.records v.next_place v.remaining → SameEnd u.header v.header u.records v.records u.next_place
    v.next_place u.remaining v.remaining
both b u v s t = same-end b u.rest v.rest u.header v.header u.records v.records u.next_place
    v.next_place u.remaining v.remaining u.is_header v.is_header u.are_records v.are_records s t

both-numbers : (b : List ℕ) (u v : ParsedPrefix b) →
    IsStuck (layout_of u.header) u.records u.next_place u.remaining →
    IsStuck (layout_of v.header) v.records v.next_place v.remaining
    → SameNumbers u.header v.header u.records v.records u.remaining v.remaining
both-numbers b u v s t = numbers u.header v.header u.records v.records u.next_place v.next_place
    u.remaining v.remaining (both b u v s t)

-- ---- the laws

pub record SameFragment (k j : Key) (rs ss : List DataRecord) : Type 0 where
  pub key : k ≡ j
  pub records : rs ≡ ss

pub one-fragment : (b : List ℕ) (k j : Key) (rs ss : List DataRecord) → IsFragmentFile b k rs →
    IsFragmentFile b j ss → SameFragment k j rs ss
one-fragment b k j rs ss s t =
    let e = both b (spelled b k rs s) (spelled b j ss t) (spelled-stuck b k rs s)
    (spelled-stuck b j ss t) in
    record {
      key = s.key ∙ ap (λ (z : HeaderRecord). (layout_of z).key) e.header ∙ sym t.key;
      records = e.run.records;
    }

cut-trailing : (b : List ℕ) (n : ℕ) → IsCutRecord b n → ¬ HasTrailingBytes b
cut-trailing b n p q =
    let e = both-numbers b p.up_to q.up_to (cut-stuck b n p) (trailing-stuck b q) in
    omega (arith, e.given, e.most, p.is_nth, p.may_come, q.all)

block-trailing : (b : List ℕ) (n : ℕ) (f : TalFault) → IsRefusedRecord b n f → ¬ HasTrailingBytes b
block-trailing b n f p q =
    let e = both-numbers b p.up_to q.up_to (block-stuck b n f p) (trailing-stuck b q) in
    omega (arith, e.given, e.most, p.is_nth, p.may_come, q.all)

cut-block : (b : List ℕ) (n m : ℕ) (f : TalFault) → IsCutRecord b n → ¬ IsRefusedRecord b m f
cut-block b n m f p q =
    let e = both-numbers b p.up_to q.up_to (cut-stuck b n p) (block-stuck b m f q) in
    omega (arith, e.size, e.remaining, p.cut, q.whole)

one-cut : (b : List ℕ) (n m : ℕ) → IsCutRecord b n → IsCutRecord b m → n ≡ m
one-cut b n m p q =
    let e = both-numbers b p.up_to q.up_to (cut-stuck b n p) (cut-stuck b m q) in
    omega (arith, e.given, p.is_nth, q.is_nth)

record SameBlock (n m : ℕ) (e f : TalFault) : Type 0 where
  nth : n ≡ m
  fault : e ≡ f

one-refused : (b : List ℕ) (n m : ℕ) (e f : TalFault) → IsRefusedRecord b n e →
    IsRefusedRecord b m f → SameBlock n m e f
one-refused b n m e f p q =
    let s = both b p.up_to q.up_to (block-stuck b n e p) (block-stuck b m f q) in
    let k = both-numbers b p.up_to q.up_to (block-stuck b n e p) (block-stuck b m f q) in
    let g = q.up_to.header in
    let here = subst (λ (z : HeaderRecord).
    BlocksHaveFirstFault (blocks (layout_of z) p.up_to.remaining)
    (layout_of z).start p.up_to.next_place e) s.header p.refused in
    let place = subst (λ (z : Place). BlocksHaveFirstFault (blocks (layout_of g) p.up_to.remaining)
    (layout_of g).start z e) s.run.place here in
    let there = subst (λ (z : List ℕ). BlocksHaveFirstFault (blocks (layout_of g) z)
    (layout_of g).start q.up_to.next_place e) s.run.rest place in
    record {
      nth = omega (arith, k.given, p.is_nth, q.is_nth);
      fault =
          blocks-one-fault (blocks (layout_of g) q.up_to.remaining)
          (layout_of g).start q.up_to.next_place e f there q.refused;
    }

pub one-first-fault : (b : List ℕ) (e f : FragmentFault) → IsFirstFault b e → IsFirstFault b f →
    e ≡ f
one-first-fault b (BadHeader e) (BadHeader f) p q =
    ap (λ (z : HeaderFault). BadHeader z) (one-header-fault b e f p q)
one-first-fault b (BadHeader e) (CutRecord m) p q =
    absurd (header-no-fault b q.up_to.header q.up_to.rest e q.up_to.is_header p)
one-first-fault b (BadHeader e) (Tal m f) p q =
    absurd (header-no-fault b q.up_to.header q.up_to.rest e q.up_to.is_header p)
one-first-fault b (BadHeader e) Trailing p q =
    absurd (header-no-fault b q.up_to.header q.up_to.rest e q.up_to.is_header p)
one-first-fault b (BadHeader e) f p q = absurd q
one-first-fault b (CutRecord n) (BadHeader f) p q =
    absurd (header-no-fault b p.up_to.header p.up_to.rest f p.up_to.is_header q)
one-first-fault b (CutRecord n) (CutRecord m) p q = ap (λ (z : ℕ). CutRecord z) (one-cut b n m p q)
one-first-fault b (CutRecord n) (Tal m f) p q = absurd (cut-block b n m f p q)
one-first-fault b (CutRecord n) Trailing p q = absurd (cut-trailing b n p q)
one-first-fault b (CutRecord n) f p q = absurd q
one-first-fault b (Tal n e) (BadHeader f) p q =
    absurd (header-no-fault b p.up_to.header p.up_to.rest f p.up_to.is_header q)
one-first-fault b (Tal n e) (CutRecord m) p q = absurd (cut-block b m n e q p)
one-first-fault b (Tal n e) (Tal m f) p q =
    let s = one-refused b n m e f p q in
    ap (λ (z : ℕ). Tal z e) s.nth ∙ ap (λ (z : TalFault). Tal m z) s.fault
one-first-fault b (Tal n e) Trailing p q = absurd (block-trailing b n e p q)
one-first-fault b (Tal n e) f p q = absurd q
one-first-fault b Trailing (BadHeader f) p q =
    absurd (header-no-fault b p.up_to.header p.up_to.rest f p.up_to.is_header q)
one-first-fault b Trailing (CutRecord m) p q = absurd (cut-trailing b m q p)
one-first-fault b Trailing (Tal m f) p q = absurd (block-trailing b m f q p)
one-first-fault b Trailing Trailing p q = refl
one-first-fault b Trailing f p q = absurd q
one-first-fault b e f p q = absurd p

-- a data record that is cut must come, or a byte of it is there
spelled-cut : (b : List ℕ) (k : Key) (rs : List DataRecord) (n : ℕ) → IsFragmentFile b k rs →
    ¬ IsCutRecord b n
spelled-cut b k rs n s f =
    let e = both-numbers b (spelled b k rs s) f.up_to (spelled-stuck b k rs s) (cut-stuck b n f) in
    elim f.there [
      | inl wanted ↦ omega (arith, e.given, e.least, s.least, f.is_nth, wanted)
      | inr some ↦ omega (arith, e.remaining, some)
    ]

pub spelled-no-fault : (b : List ℕ) (k : Key) (rs : List DataRecord) (e : FragmentFault) →
    IsFragmentFile b k rs → ¬ IsFirstFault b e
spelled-no-fault b k rs (BadHeader e) s f = header-no-fault b s.header s.rest e s.is_header f
spelled-no-fault b k rs (CutRecord n) s f = spelled-cut b k rs n s f
spelled-no-fault b k rs (Tal n g) s f =
    let e = both-numbers b (spelled b k rs s) f.up_to (spelled-stuck b k rs s)
    (block-stuck b n g f) in
    omega (
      arith,
      e.remaining,
      f.whole,
      record-some (layout_of f.up_to.header) (layout-up-to b f.up_to),
    )
spelled-no-fault b k rs Trailing s f =
    let e = both-numbers b (spelled b k rs s) f.up_to (spelled-stuck b k rs s)
    (trailing-stuck b f) in
    omega (arith, e.remaining, f.more)
spelled-no-fault b k rs e s f = f
