-- What went out of a file of which a time is cut.
use Rattle.std.proofs.Common.{◌≡◌, List, ℕ, inl, inr, ◌⊎◌, refl, sym, subst, ap, ◌∙◌}
use Rattle.std.proofs.Common.{Option, Some}
use Rattle.std.specs.Prelude.{None}
use Rattle.std.specs.Io.KnownBytes.{Keeps}
use Rattle.edf_field.specs.Number.{duration_of}
use Rattle.edf_header.specs.Key.{Key, MayStart}
use Rattle.edf_fragment.specs.Fragment.{DataRecord, IsFragmentFile}
use Rattle.edf_fragment.specs.Sound.{FirstMayStart}
use Rattle.edf_fragment.specs.Whole.{ReadsFragment}
use Rattle.edf_fragment.proofs.Fragments.{fragment_of_all}
use Rattle.edf_fragment.proofs.OneFragment.{one-fragment}
use Rattle.edf_cli.specs.Output.{OutputChange}
use Rattle.edf_canonical.specs.Measure.{IsMeasured}
use Rattle.edf_runs.specs.Cut.{between, IsCutFile}
use Rattle.edf_runs.specs.CutFiles.{IsCutPlan, IsCutWritten, IsCutUnwritten}
use Rattle.edf_runs.specs.Outline.{ReadsOutline, IsOutline}
use Rattle.edf_runs.specs.declared.cut.Cut.{Cut}
use Rattle.edf_runs.specs.declared.fault.WriteFault.{WriteFault}
use Rattle.edf_runs.specs.declared.fault.WriteFault.TheVariants.{Undated, Memory}
use Rattle.edf_runs.specs.declared.outline.Outline.{Outline}
use Rattle.edf_runs.proofs.Noted.{joined-self}
use Rattle.edfruns_command.specs.Filling.{StopsInCut, WritesCut, LacksCut}

-- an outline of known bytes is of what they spell
outline-known : (all : List ℕ) (bytes rest : Option (List ℕ)) (outline : Outline) (k : Key)
    (records : List DataRecord) → bytes ≡ Some all → ReadsOutline bytes rest outline →
    IsFragmentFile all k records → IsOutline k records outline
outline-known all bytes rest outline k records known one is =
    let read = fragment_of_all all rest one.layout one.records
    (subst (λ (b : Option (List ℕ)). ReadsFragment b rest one.layout one.records) known one.read) in
    let same = one-fragment all one.layout.key k one.records records read is in
    subst (λ (l : List DataRecord). IsOutline k l outline) same.records
    (subst (λ (x : Key). IsOutline x one.records outline) same.key one.is_outline)

module _ (w : OutputChange) (bytes rest : Option (List ℕ)) (outline : Outline)
    (one : ReadsOutline bytes rest outline) (from to : ℕ) where
  pub none-cut : IsCutPlan outline from to None → LacksCut w bytes from to
  none-cut plan = record {
    layout = one.layout;
    records = one.records;
    rest = rest;
    read = one.read;
    none = λ may. plan.1 one.layout.key one.records one.is_outline;
  }

  module _ (cut : Cut) (plan : IsCutPlan outline from to (Some cut)) where
    begin : cut.window.from ≡ from
    begin = (plan.1 one.layout.key one.records one.is_outline).0

    end : cut.window.to ≡ to
    end = (plan.1 one.layout.key one.records one.is_outline).1

    -- what is true of a cut's own window is of the time that was asked for
    asked : (P : ℕ → ℕ → Type 0) → P cut.window.from cut.window.to → P from to
    asked P is = subst (λ (n : ℕ). P n to) begin (subst (λ (n : ℕ). P cut.window.from n) end is)

    own : (P : ℕ → ℕ → Type 0) → P from to → P cut.window.from cut.window.to
    own P is = subst (λ (n : ℕ). P n cut.window.to) (sym begin)
        (subst (λ (n : ℕ). P from n) (sym end) is)

    pub wrote-cut : (rest' : Option (List ℕ)) (len : ℕ) →
        IsCutWritten bytes rest' w.before w.after cut one.layout.key one.records len →
        WritesCut w bytes from to
    wrote-cut rest' len is = record {
      key = one.layout.key;
      records = is.records;
      read = record {
        layout = one.layout;
        layout' = is.layout;
        keys = (refl, is.same);
        rest = rest;
        rest' = rest';
        ones = one.records;
        others = is.others;
        read = one.read;
        reread = is.read;
        joined = is.joined;
      };
      file = is.file;
      is_file = asked (IsCutFile is.file one.layout.key is.records) is.is_file;
      wrote = is.wrote;
    }

    undated-cut : ¬ MayStart cut.outline.now.identity cut.measure.first → LacksCut w bytes from to
    undated-cut not =
        let measured = (plan.1 one.layout.key one.records one.is_outline).2 in
        let same = ap (λ (o : Outline). o.identity) plan.0 ∙ one.is_outline.identity in
        record {
          layout = one.layout;
          records = one.records;
          rest = rest;
          read = one.read;
          none = λ may. absurd (not
              (subst (λ (k : Key). MayStart k cut.measure.first) (sym same)
              (subst (λ (s : ℕ). MayStart one.layout.key s) (sym measured.start)
              (subst (FirstMayStart one.layout.key) measured.parts may))));
        }

    module _ (fault : WriteFault)
        (stopped : (Keeps w.before w.after × (fault ≡ Memory))
        ⊎ IsCutUnwritten bytes w.before w.after cut fault) where
      pub stopped-cut : StopsInCut w bytes from to
      stopped-cut all k records known is =
          let of = outline-known all bytes rest outline k records known one is in
          let mine = subst (λ (o : Outline). IsOutline k records o) (sym plan.0) of in
          let measured = own (λ (a b : ℕ). IsMeasured (between (duration_of k.duration) a b records)
          cut.measure) (plan.1 k records of).2 in
          elim stopped [
            | inl keeps ↦ inl keeps.0
            | inr stop ↦ elim (stop.unchanged all k records records records known is mine
                (joined-self records) measured).1 [
                  | inl keeps ↦ inl keeps
                  | inr (file, is-file, prefix) ↦
                      inr (file, asked (IsCutFile file k records) is-file, prefix)
                ]
          ]

      -- a cut that no header can begin leaves nothing
      pub unbegun-cut : fault ≡ Undated → Keeps w.before w.after × LacksCut w bytes from to
      unbegun-cut undated = elim stopped [
        | inl keeps ↦ absurd (let e = keeps.1 in cc)
        | inr stop ↦
            ((stop.undated undated).0, undated-cut (stop.undated undated).1)
      ]
