-- The lines of runs, one line more.
use Rattle.std.proofs.Common.{◌≡◌, ℕ, zero, suc, ◌+◌, ◌<◌, List, [], ◌∷◌, ◌++◌, length, drop}
use Rattle.std.proofs.Common.{get_or, refl}
use Rattle.std.proofs.Common.{sym, ap, ◌∙◌, append_assoc}
use Rattle.std.specs.Prelude.{slice_get}
use Rattle.std.proofs.lemmas.List.{drop_more}
use Rattle.edf_field.specs.Number.{duration_of}
use Rattle.edf_header.specs.Key.{Key}
use Rattle.edf_runs.specs.declared.run.Run.{Run}
use Rattle.edfruns_command.specs.Lines.{line_end, run_front, run_lines}

next-of : (runs : List Run) (at : ℕ) → slice_get (drop at runs) 0 ≡ slice_get runs at
next-of runs zero = refl
next-of [] (suc at) = refl
next-of (r ∷ rs) (suc at) = next-of rs at

-- the line of the run at a place, behind a text, and then the others
pub line-more : (spell : ℕ → List ℕ) (k : Key) (label text : List ℕ) (runs : List Run) (at : ℕ)
    (run : Run) (front end : List ℕ) → at < length runs → run ≡ get_or runs at run →
    front ≡ run_front spell (duration_of k.duration) (at + 1) run (slice_get runs (at + 1)) →
    end ≡ line_end k →
    (((text ++ label) ++ front) ++ end)
    ++ run_lines spell k label ((at + 1) + 1) (drop (at + 1) runs)
    ≡ text ++ run_lines spell k label (at + 1) (drop at runs)
line-more spell k label text runs at run front end lt is goes ends =
    let later = run_lines spell k label ((at + 1) + 1) (drop (at + 1) runs) in
    let here : drop at runs ≡ run ∷ drop (at + 1) runs =
    drop_more runs at run lt ∙ ap (λ (r : Run). r ∷ drop (at + 1) runs) (sym is) in
    append_assoc ((text ++ label) ++ front) end later
    ∙ append_assoc (text ++ label) front (end ++ later)
    ∙ append_assoc text label (front ++ (end ++ later))
    ∙ ap (λ (t : List ℕ). text ++ (label ++ (front ++ (t ++ later)))) ends
    ∙ ap (λ (t : List ℕ). text ++ (label ++ (t ++ (line_end k ++ later)))) (goes
    ∙ ap (run_front spell (duration_of k.duration) (at + 1) run) (sym (next-of runs (at + 1))))
    ∙ ap (λ (rs : List Run). text ++ run_lines spell k label (at + 1) rs) (sym here)
