use Rattle.std.proofs.Common.{◌≡◌, ◌*◌, List, ℕ, length, take, arith, refl, sym, ap, subst, ◌∙◌}
use Rattle.std.proofs.Common.{take_at, rules}
use Rattle.std.proofs.lemmas.List.{take_all, length-take}
use Rattle.std.specs.Io.KnownBytes.{Consumes}
use Rattle.edf_fragment.proofs.HeaderParts.{told_second}
use Rattle.edf_fragment.proofs.Steps.{fewer}
use Rattle.edf_fragment.proofs.opening.read_signal_headers.Goals.{in-Full, in-Cut}
use Rattle.edf_fragment.proofs.opening.read_signal_headers.Goals as goal

-- what is there of the buffer, all of it or a front
pub returns-in-Ok-read_signals : goal.returns-in-Ok-read_signals
returns-in-Ok-read_signals g c =
    let buf = c.fill.new.buf in
    let there = c.match-fill.there in
    let slice = c.as_slice.result.now in
    let len : length buf ≡ c.in-Ok.bytes.len = omega arith in
    let same : slice ≡ buf = c.as_slice.ensures.value ∙ take_at buf _ c.in-Ok.bytes.len len in
    let ok = c.in-Ok-read_signals.ensures in
    let read : Consumes (g.R.Input.remaining c.args.input.now)
    (g.R.Input.remaining c.fill.new.input) (take there slice) = elim c.match-fill.branch [
      | in-Full w ↦
          let all : there ≡ length buf = omega arith in
          let bytes : take there slice ≡ buf = ap (take there) same
          ∙ take_all there buf (omega arith) in
          subst (Consumes _ _) (sym bytes) (w.in-Full.ensures.full refl)
      | in-Cut w ↦
          let cut = w.in-Cut.ensures.cut w.in-Cut.at refl in
          let bytes : take there slice ≡ take w.in-Cut.at buf = ap (take there) same
          ∙ ap (λ (m : ℕ). take m buf) w.there-is in
          subst (Consumes _ _) (sym bytes) cut.1
    ] in
    record {
      step = record {
        bytes = take there slice;
        header = ok.0;
        read = read;
        are_signals = ok.1;
        same = ok.2;
        layout_is = ok.3;
      };
      counted = search rules;
    }

pub returns : goal.returns
returns g c =
    let buf = c.fill.new.buf in
    let n = c.args.fixed.signal_count in
    let there = c.match-fill.there in
    let slice = c.as_slice.result.now in
    let len : length buf ≡ c.in-Ok.bytes.len = omega arith in
    let room : length buf ≡ 256 * n = omega (arith, c.in-Ok.ensures.len) in
    let same : slice ≡ buf = c.as_slice.ensures.value ∙ take_at buf _ c.in-Ok.bytes.len len in
    let told = told_second _ _ n (take there slice) _ _ in
    record {
      step = elim c.match-fill.branch [
        | in-Full w ↦
            let all : there ≡ length buf = omega arith in
            let bytes : take there slice ≡ buf = ap (take there) same
            ∙ take_all there buf (omega arith) in
            let count : length (take there slice) ≡ 256 * n = ap (λ (x : List ℕ). length x) bytes
            ∙ room in
            told (omega arith) (subst (Consumes _ _) (sym bytes) (w.in-Full.ensures.full refl))
            (λ low. absurd (omega arith))
            c.header_refusal.ensures.memory c.header_refusal.ensures.other c.in-Err.ensures
        | in-Cut w ↦
            let cut = w.in-Cut.ensures.cut w.in-Cut.at refl in
            let bytes : take there slice ≡ take w.in-Cut.at buf = ap (take there) same
            ∙ ap (λ (m : ℕ). take m buf) w.there-is in
            let count : length (take there slice) ≡ length (take w.in-Cut.at buf) =
            ap (λ (x : List ℕ). length x) bytes in
            told (omega (arith, length-take w.in-Cut.at buf))
            (subst (Consumes _ _) (sym bytes) cut.1) (λ low. cut.2)
            c.header_refusal.ensures.memory c.header_refusal.ensures.other c.in-Err.ensures
      ];
      counted = search rules;
    }

pub returns-in-Failed : goal.returns-in-Failed
returns-in-Failed g c = record {
  step = fewer _ _ _ _ (omega (arith, c.in-Ok.ensures.len)) (c.in-Failed.ensures.stopped refl);
  counted = search rules;
}
