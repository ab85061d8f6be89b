-- How lines of runs begin.
use Rattle.std.proofs.Common.{◌≡◌, ℕ, ◌-◌, List, [], ◌++◌, ap, ◌∙◌, append-nil, codes, decimal}
use Rattle.std.proofs.Common.{Option}
use Rattle.edf_time.specs.Decimal.{short}
use Rattle.edf_runs.specs.declared.run.Run.{Run}
use Rattle.edfruns_command.specs.Lines.{end_of, gap_text, run_front}
use Rattle.edf_cli.proofs.Parts.{four-parts}

-- its parts are these
pub front-of : (spell : ℕ → List ℕ) (d number : ℕ) (run : Run) (next : Option Run)
    (a s t g front : List ℕ)
    → a ≡ decimal number ++ (codes " records=" ++ (decimal run.records ++ codes " first=")) →
    s ≡ spell run.first → t ≡ short (end_of d run - run.first) → g ≡ gap_text d run next →
    front ≡ a ++ (s ++ (codes " seconds=" ++ (t ++ (g ++ [])))) →
    front ≡ run_front spell d number run next
front-of spell d number run next a s t g front ea es et eg is =
    let parts : List ℕ → List ℕ → List ℕ → List ℕ = λ s t g.
    s ++ (codes " seconds=" ++ (t ++ g)) in
    let start = spell run.first in
    let seconds = short (end_of d run - run.first) in
    is
    ∙ ap (λ (x : List ℕ). a ++ parts s t x) (append-nil g ∙ eg)
    ∙ ap (λ (x : List ℕ). a ++ parts s x (gap_text d run next)) et
    ∙ ap (λ (x : List ℕ). a ++ parts x seconds (gap_text d run next)) es
    ∙ ap (λ (x : List ℕ). x ++ parts start seconds (gap_text d run next)) ea
    ∙ four-parts (decimal number) (codes " records=") (decimal run.records) (codes " first=")
    (parts start seconds (gap_text d run next))
