-- The cut file of a stretch's time has just its data records.
use Rattle.std.proofs.Common.{◌≡◌, ℕ, zero, suc, ◌+◌, ◌<◌, ◌≤◌, List, [], ◌∷◌, ◌++◌, All, Contains}
use Rattle.std.proofs.Common.{sym, ap, ◌∙◌, subst, arith, append_assoc, append-nil, min, max}
use Rattle.std.specs.Prelude.{Bool, true, false, nat_lt, filter}
use Rattle.std.proofs.lemmas.Bool.{lt-ltb, le-ltb}
use Rattle.std.proofs.lemmas.List.Elements.{All-nil, All-cons, filter-append, Contains-append_right}
use Rattle.edf_field.specs.Number.{duration_of}
use Rattle.edf_header.proofs.Cited.{key-duration-some}
use Rattle.edf_header.specs.Key.{Key, IsKey}
use Rattle.edf_fragment.specs.Fragment.{DataRecord}
use Rattle.edf_fragment.specs.Sound.{AreSoundFrom}
use Rattle.edf_fragment.proofs.Sound.{spelled-key, spelled-sound}
use Rattle.edf_runs.specs.Compared.{HasWord, IsMet, IsStretch, AreStretches}
use Rattle.edf_runs.specs.ComparedLaws.{StretchesAreCut}
use Rattle.edf_runs.specs.Cut.{between}
use Rattle.edf_runs.specs.Inside.Spaced.{Spaced}
use Rattle.edf_runs.specs.declared.stretch.Stretch.{Stretch}
use Rattle.edf_runs.specs.declared.stretch.Word.{Word}
use Rattle.edf_runs.proofs.ByOnset.{spaced-sound}
use Rattle.edf_runs.proofs.Filtered.{filter-all, filter-none}
use Rattle.edf_runs.proofs.Members.{contains-first}
use Rattle.edf_runs.proofs.Words.{from-low}

module _ (Has : Word → DataRecord → Type 0) (d : ℕ) (s : Stretch) where
  record Found (records : List DataRecord) : Type 0 where
    some : List DataRecord
    stretch : IsStretch Has d s some
    before : List DataRecord
    after : List DataRecord
    parts : records ≡ before ++ (some ++ after)

  found : (all : List Stretch) (records : List DataRecord) → AreStretches Has d all records →
      Contains all s → Found records
  found [] records are has = absurd (omega (arith, has.1))
  found (t ∷ ts) records (some, others, parts, stretch, begins, more) (zero, lt, same) = record {
    some = some;
    stretch = subst (λ (x : Stretch). IsStretch Has d x some) same stretch;
    before = [];
    after = others;
    parts = parts;
  }
  found (t ∷ ts) records (some, others, parts, stretch, begins, more) (suc i, lt, same) =
      let f = found ts others more (i, omega (arith, lt), same) in
      record {
        some = f.some;
        stretch = f.stretch;
        before = some ++ f.before;
        after = f.after;
        parts = parts ∙ ap (λ (l : List DataRecord). some ++ l) f.parts
            ∙ sym (append_assoc some f.before (f.some ++ f.after));
      }

module _ (d from to : ℕ) where
  abbrev meets : DataRecord → Bool
  meets x = nat_lt (max from x.start) (min to (x.start + d))

  none-before : (low : ℕ) (before : List DataRecord) (r : DataRecord) (more : List DataRecord) →
      Spaced d low (before ++ r ∷ more) → from ≡ r.start → All (λ x. meets x ≡ false) before
  none-before low [] r more spaced is = All-nil (λ x. meets x ≡ false)
  none-before low (x ∷ xs) r more spaced is =
      let le = from-low d (x.start + d) (xs ++ r ∷ more) r spaced.1
      (Contains-append_right xs (r ∷ more) r (contains-first r more)) in
      All-cons (λ y. meets y ≡ false) x xs
      (le-ltb (max from x.start) (min to (x.start + d)) (omega (arith, le, is)))
      (none-before (x.start + d) xs r more spaced.1 is)

  none-after : (low : ℕ) (after : List DataRecord) → Spaced d low after → to ≤ low →
      All (λ x. meets x ≡ false) after
  none-after low [] spaced le = All-nil (λ x. meets x ≡ false)
  none-after low (x ∷ xs) spaced le = All-cons (λ y. meets y ≡ false) x xs
      (le-ltb (max from x.start) (min to (x.start + d)) (omega (arith, le, spaced.0)))
      (none-after (x.start + d) xs spaced.1 (omega (arith, le, spaced.0)))

  -- those up to the last
  all-some : (low : ℕ) (ones : List DataRecord) (last : DataRecord) (after : List DataRecord) →
      0 < d → Spaced d low ((ones ++ last ∷ []) ++ after) → from ≤ low → to ≡ last.start + d →
      All (λ x. meets x ≡ true) (ones ++ last ∷ [])
  all-some low [] last after lasts spaced le is =
      All-cons (λ y. meets y ≡ true) last []
      (lt-ltb (max from last.start) (min to (last.start + d))
      (omega (arith, lasts, spaced.0, le, is)))
      (All-nil (λ y. meets y ≡ true))
  all-some low (x ∷ xs) last after lasts spaced le is =
      let far = from-low d (x.start + d) (xs ++ last ∷ after) last
      (subst (λ (l : List DataRecord). Spaced d (x.start + d) l)
      (append_assoc xs (last ∷ []) after) spaced.1)
      (Contains-append_right xs (last ∷ after) last (contains-first last after)) in
      All-cons (λ y. meets y ≡ true) x (xs ++ last ∷ [])
      (lt-ltb (max from x.start) (min to (x.start + d))
      (omega (arith, lasts, spaced.0, le, is, far)))
      (all-some (x.start + d) xs last after lasts spaced.1 (omega (arith, le, spaced.0)) is)

  spaced-behind : (low : ℕ) (ones : List DataRecord) (last : DataRecord)
      (after : List DataRecord) → Spaced d low ((ones ++ last ∷ []) ++ after) →
      Spaced d (last.start + d) after
  spaced-behind low [] last after spaced = spaced.1
  spaced-behind low (x ∷ xs) last after spaced =
      spaced-behind (x.start + d) xs last after spaced.1

spaced-later : (d low : ℕ) (before : List DataRecord) (r : DataRecord) (more : List DataRecord) →
    Spaced d low (before ++ r ∷ more) → Spaced d r.start (r ∷ more)
spaced-later d low [] r more spaced = (omega arith, spaced.1)
spaced-later d low (x ∷ xs) r more spaced = spaced-later d (x.start + d) xs r more spaced.1

module _ (Has : Word → DataRecord → Type 0) (d : ℕ) (s : Stretch) (records : List DataRecord)
    (lasts : 0 < d) (spaced : Spaced d 0 records) (f : Found Has d s records) where
  just-these : between d s.from s.to records ≡ f.some
  just-these =
      let m = meets d s.from s.to in
      let r = f.stretch.from.0 in
      let ones = f.stretch.from.1 in
      let front : f.some ≡ r ∷ ones = f.stretch.from.2 in
      let heads = f.stretch.to.0 in
      let last = f.stretch.to.1 in
      let back : f.some ≡ heads ++ last ∷ [] = f.stretch.to.2 in
      let all : Spaced d 0 (f.before ++ r ∷ (ones ++ f.after)) =
      subst (λ (l : List DataRecord). Spaced d 0 l)
      (f.parts ∙ ap (λ (l : List DataRecord). f.before ++ (l ++ f.after)) front) spaced in
      let here : Spaced d s.from ((heads ++ last ∷ []) ++ f.after) =
      subst (λ (n : ℕ). Spaced d n ((heads ++ last ∷ []) ++ f.after)) (sym f.stretch.from.3)
      (subst (λ (l : List DataRecord). Spaced d r.start (l ++ f.after)) (sym front ∙ back)
      (spaced-later d 0 f.before r (ones ++ f.after) all)) in
      let behind : Spaced d s.to f.after =
      subst (λ (n : ℕ). Spaced d n f.after) (sym f.stretch.to.3)
      (spaced-behind d s.from s.to s.from heads last f.after here) in
      let a = filter-none m f.before
      (none-before d s.from s.to 0 f.before r (ones ++ f.after) all f.stretch.from.3) in
      let b = filter-all m f.some (subst (λ (l : List DataRecord). All (λ x. m x ≡ true) l)
      (sym back) (all-some d s.from s.to s.from heads last f.after lasts here (omega arith)
      f.stretch.to.3)) in
      let c = filter-none m f.after (none-after d s.from s.to s.to f.after behind (omega arith)) in
      ap (λ (l : List DataRecord). filter m l) f.parts
      ∙ filter-append m f.before (f.some ++ f.after)
      ∙ ap (λ (l : List DataRecord). l ++ filter m (f.some ++ f.after)) a
      ∙ filter-append m f.some f.after
      ∙ ap (λ (l : List DataRecord). l ++ filter m f.after) b
      ∙ ap (λ (l : List DataRecord). f.some ++ l) c ∙ append-nil f.some

module _ (Has : Word → DataRecord → Type 0) (k : Key) (all : List Stretch) (s : Stretch)
    (records : List DataRecord) (key : IsKey k) (sound : AreSoundFrom k 0 records) where
  stretch-is-cut : AreStretches Has (duration_of k.duration) all records → Contains all s →
      IsStretch Has (duration_of k.duration) s
      (between (duration_of k.duration) s.from s.to records)
  stretch-is-cut are has =
      let d = duration_of k.duration in
      let f = found Has d s all records are has in
      subst (IsStretch Has d s) (sym (just-these Has d s records (key-duration-some k key)
      (spaced-sound k 0 records sound) f)) f.stretch

pub stretches-are-cut : StretchesAreCut
stretches-are-cut left rest left' rest' c is d s same =
    let k = is.layout.key in
    let key = spelled-key is.read.bytes k is.firsts is.read.is_file in
    let first = spelled-sound is.read.bytes k is.firsts is.read.is_file in
    let second = subst (λ (x : Key). AreSoundFrom x 0 is.seconds) (sym is.same)
    (spelled-sound is.read'.bytes is.layout'.key is.seconds is.read'.is_file) in (
      λ has. subst (λ (n : ℕ). IsStretch (HasWord n is.firsts) n s
          (between n s.from s.to is.seconds)) (sym same)
          (stretch-is-cut (HasWord (duration_of k.duration) is.firsts) k c.words.items s is.seconds
          key second is.words has),
      λ has. subst (λ (n : ℕ). IsStretch (IsMet is.seconds) n s
          (between n s.from s.to is.firsts)) (sym same)
          (stretch-is-cut (IsMet is.seconds) k c.firsts.items s is.firsts key first is.met has),
    )
