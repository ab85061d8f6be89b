-- The cut file of all time is the canonical file.
use Rattle.std.proofs.Common.{◌≡◌, ℕ, ◌-◌, ◌^◌, List, ap, ◌∙◌, subst, sym, Option, inl, inr}
use Rattle.std.specs.Prelude.{IfOk, IfErr, MatchResult, Result, Ok, Err}
use Rattle.edf_field.specs.Number.{duration_of}
use Rattle.edf_header.specs.Key.{Key, IsKey, MayStart}
use Rattle.edf_fragment.specs.Fragment.{DataRecord}
use Rattle.edf_fragment.specs.Sound.{AreSoundFrom, FirstMayStart}
use Rattle.edf_fragment.proofs.Sound.{spelled-sound}
use Rattle.edf_canonical.specs.File.{IsCanonicalFile}
use Rattle.edf_canonical.specs.Measure.{IsMeasured}
use Rattle.edf_runs.specs.Canonical.{IsCanonicalWritten, IsCanonicalUnwritten}
use Rattle.edf_runs.specs.Cut.{between, IsCutFile}
use Rattle.edf_runs.specs.CutFiles.{IsCutWritten, IsCutUnwritten}
use Rattle.edf_runs.specs.Outline.{IsOutline}
use Rattle.edf_runs.specs.declared.cut.Cut.{Cut}
use Rattle.edf_runs.specs.declared.fault.WriteFault.{WriteFault}
use Rattle.edf_runs.proofs.CutLaws.{has-all}
use Rattle.edf_runs.proofs.Noted.{are-sound}

module _ (again before after : Option (List ℕ)) (cut : Cut) (k : Key) (ones : List DataRecord)
    (is : IsOutline k ones cut.outline.now) (key : IsKey k) (from : cut.window.from ≡ 0)
    (to : cut.window.to ≡ 2 ^ 64 - 1) where
  all-time : (records : List DataRecord) → AreSoundFrom k 0 records →
      between (duration_of k.duration) cut.window.from cut.window.to records ≡ records
  all-time records sound =
      let d = duration_of k.duration in
      ap (λ (n : ℕ). between d n cut.window.to records) from
      ∙ ap (λ (n : ℕ). between d 0 n records) to ∙ has-all k records key sound

  whole-file : (file : List ℕ) (records : List DataRecord) → AreSoundFrom k 0 records →
      IsCutFile file k records cut.window.from cut.window.to → IsCanonicalFile file k records
  whole-file file records sound is-cut =
      subst (IsCanonicalFile file k) (all-time records sound) is-cut

  all-written : (rest : Option (List ℕ)) (len : ℕ) →
      IsCutWritten again rest before after cut k ones len →
      IsCanonicalWritten again rest before after k ones len
  all-written rest len w = record {
    layout = w.layout;
    same = w.same;
    others = w.others;
    read = w.read;
    records = w.records;
    joined = w.joined;
    file = w.file;
    is_file = whole-file w.file w.records w.sound w.is_file;
    wrote = w.wrote;
    len_is = w.len_is;
  }

  module _ (plan : IsMeasured (between (duration_of k.duration) 0 (2 ^ 64 - 1) ones) cut.measure)
    where
      planned : IsMeasured (between (duration_of k.duration) cut.window.from cut.window.to ones)
          cut.measure
      planned =
          let d = duration_of k.duration in
          subst (λ (n : ℕ). IsMeasured (between d n cut.window.to ones) cut.measure) (sym from)
          (subst (λ (n : ℕ). IsMeasured (between d 0 n ones) cut.measure) (sym to) plan)

      begins : MayStart cut.outline.now.identity cut.measure.first
      begins =
          let m = subst (λ (l : List DataRecord). IsMeasured l cut.measure) (has-all k ones key
          is.sound) plan in
          subst (λ (x : Key). MayStart x cut.measure.first) (sym is.identity)
          (subst (MayStart k) (sym m.start) (subst (FirstMayStart k) m.parts is.begins))

      all-unwritten : (fault : WriteFault) → IsCutUnwritten again before after cut fault →
          IsCanonicalUnwritten again before after k ones fault
      all-unwritten fault w = record {
        dated = λ same. (w.undated same).1 begins;
        unchanged = λ bytes others records known spells joined.
            let u = w.unchanged bytes k ones others records known spells is joined planned in
            let sound = are-sound k ones others records joined is.sound
            (spelled-sound bytes k others spells) in (
              u.0,
              elim u.1 [
                | inl keeps ↦ inl keeps
                | inr some ↦ inr (some.0, whole-file some.0 records sound some.1, some.2)
              ],
            );
      }

      pub canonical-answer : (rest : Option (List ℕ)) (result : Result ℕ WriteFault) → IfOk result
          (λ len. (x : Key) (rs : List DataRecord) → IsOutline x rs cut.outline.now →
          IsCutWritten again rest before after cut x rs len) →
          IfErr result (IsCutUnwritten again before after cut) → MatchResult result
          (IsCanonicalWritten again rest before after k ones)
          (IsCanonicalUnwritten again before after k ones)
      canonical-answer rest (Ok len) written refused = all-written rest len (written k ones is)
      canonical-answer rest (Err fault) written refused = all-unwritten fault refused
