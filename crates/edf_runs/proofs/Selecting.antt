-- Data records of an outline that are read again, one after another, and those of a time of them.
use Rattle.std.proofs.Common.{◌≡◌, List, [], ◌∷◌, ◌++◌, refl, sym, ap, ◌∙◌, subst, append_assoc}
use Rattle.std.proofs.Common.{append-nil, Option, Some, None, Result, Ok, Err, map}
use Rattle.std.specs.Prelude.{Bool, true, false, cond, ◌+◌, ℕ, min, max, nat_lt}
use Rattle.std.specs.List.{AllByRecursion}
use Rattle.std.proofs.lemmas.List.{map-append}
use Rattle.edf_header.specs.Header.{Layout}
use Rattle.edf_tal.specs.Block.{IsWithinLimits}
use Rattle.edf_fragment.specs.Fragment.{DataRecord}
use Rattle.edf_fragment.specs.declared.open_fragment.OpenFragment.{OpenFragment}
use Rattle.edf_fragment.specs.declared.streams.Input.{Ghosts}
use Rattle.edf_fragment.proofs.Fragments.{one_more_read}
use Rattle.edf_canonical.specs.Source.{At, Gives}
use Rattle.edf_canonical.proofs.Sourced.{gives-all}
use Rattle.edf_runs.specs.Again.{CountsRereads}
use Rattle.edf_runs.specs.Inside.Selecting.{noted, in_window, selected, HasRead, HasLimits}
use Rattle.edf_runs.specs.Inside.Selecting.{NotesNext, Passes, GivesSelected, EndsReading}
use Rattle.edf_runs.specs.Inside.Selecting.{AnswersNoted, TakesFirst}
use Rattle.edf_runs.specs.declared.cut.Window.{Window}
use Rattle.edf_runs.specs.declared.cut_source.CutSource.{CutSource}
use Rattle.edf_runs.specs.declared.fault.WriteFault.{WriteFault}
use Rattle.edf_runs.specs.declared.spots.Spots.{Spots}
use Rattle.edf_runs.proofs.StillThere.{still-end}

-- what a window says of a start
pub window-test : (from to : Window) (start read : ℕ) (result b : Bool) → to ≡ from →
    read ≡ start → result ≡ nat_lt (max to.from read) (min to.to (read + to.duration)) →
    result ≡ b → nat_lt (max from.from start) (min from.to (start + from.duration)) ≡ b
window-test from to start read result b same is says was =
    ap (λ (w : Window). nat_lt (max w.from start) (min w.to (start + w.duration))) (sym same)
    ∙ ap (λ (n : ℕ). nat_lt (max to.from n) (min to.to (n + to.duration))) (sym is)
    ∙ sym says ∙ was

-- one data record is of a time, or not
pub one-selected : (w : Window) (r : DataRecord) (rs : List DataRecord) (b : Bool) →
    nat_lt (max w.from r.start) (min w.to (r.start + w.duration)) ≡ b →
    in_window w (r ∷ rs) ≡ cond b (r ∷ []) [] ++ in_window w rs
one-selected w r rs true is = ap (λ b. cond b (r ∷ in_window w rs) (in_window w rs)) is
one-selected w r rs false is = ap (λ b. cond b (r ∷ in_window w rs) (in_window w rs)) is

-- the first data record has the annotations of the first spot
pub first-limits : (from to : Spots) (bare : DataRecord) (later : List DataRecord) →
    TakesFirst from to bare → map (λ (r : DataRecord). r.start) later ≡ from.starts.now →
    AllByRecursion HasLimits (noted from later) → IsWithinLimits bare.annotations
first-limits from to bare [] taken starts limits =
    let e : ◌≡◌ {A = List ℕ} [] (bare.start ∷ to.starts.now) = starts ∙ taken.starts in cc
first-limits from to bare (r ∷ rs) taken starts limits =
    subst IsWithinLimits (sym taken.annotations) limits.0

module _ {R : Type 0} (g : Ghosts R) where
  pub none-passed : (x : At CutSource OpenFragment R) → Passes g x x []
  none-passed x = record {
    window = refl;
    header = refl;
    counted = refl;
    more = [];
    taken = refl;
    read = λ begin before has. subst (λ (l : List DataRecord). HasRead x.file.header begin
        (g.remaining x.input) l x.file.progress) (sym (append-nil before)) has;
    gives = λ future. refl;
    limits = λ future each. each;
  }

  pub note-passed : (from to : At CutSource OpenFragment R) (r : DataRecord) (b : Bool) →
      NotesNext g from to r →
      nat_lt (max from.source.window.from r.start)
      (min from.source.window.to (r.start + from.source.window.duration)) ≡ b →
      Passes g from to (cond b (r ∷ []) [])
  note-passed from to r b n is = record {
    window = n.window;
    header = n.header;
    counted = n.counted;
    more = n.read ∷ [];
    taken = n.taken;
    read = λ begin before has.
        let more = one_more_read from.file.header begin (g.remaining from.input)
        (g.remaining to.input) before from.file.progress to.file.progress n.read has.read has.going
        n.step.is_answer in record { going = more.1; read = more.0 };
    gives = λ future. ap (in_window from.source.window) (n.gives future)
        ∙ one-selected from.source.window r (noted to.source.spots future) b is
        ∙ ap (λ (w : Window). cond b (r ∷ []) [] ++ in_window w (noted to.source.spots future))
        (sym n.window);
    limits = λ future each. (subst (AllByRecursion HasLimits) (n.gives future) each).1;
  }

  -- no spot is left
  pub no-more : (from to : At CutSource OpenFragment R)
      (result : Result (Option DataRecord) WriteFault) → from.source.spots.starts.now ≡ [] →
      EndsReading from.file.header from.file.progress to.file.progress (g.remaining from.input)
      (g.remaining to.input) result → CountsRereads (g.failures from.input) (g.failures to.input)
      result → AnswersNoted g from to result
  no-more from to (Ok (Some r)) none ends counted = absurd ends
  no-more from to (Ok None) none ends counted =
      record { counted = counted; none = none; end = ends }
  no-more from to (Err fault) none ends counted = record {
    counted = counted;
    unchanged = λ begin before has still limits. still-end from.file.header begin
        (g.remaining from.input) (g.remaining to.input) before from.file.progress to.file.progress
        from.source.spots.starts.now has still ends.0 fault none ends.1 ends.2;
  }

  pub passes-then : (a b c : At CutSource OpenFragment R) (x y : List DataRecord) →
      Passes g a b x → Passes g b c y → Passes g a c (x ++ y)
  passes-then a b c x y p q = record {
    window = q.window ∙ p.window;
    header = q.header ∙ p.header;
    counted = q.counted ∙ p.counted;
    more = p.more ++ q.more;
    taken = p.taken
        ∙ ap (λ (l : List ℕ). map (λ (r : DataRecord). r.start) p.more ++ l) q.taken
        ∙ sym (append_assoc (map (λ (r : DataRecord). r.start) p.more)
        (map (λ (r : DataRecord). r.start) q.more) c.source.spots.starts.now)
        ∙ ap (λ (l : List ℕ). l ++ c.source.spots.starts.now)
        (sym (map-append (λ (r : DataRecord). r.start) p.more q.more));
    read = λ begin before has.
        let mid = subst (λ (l : Layout). HasRead l begin (g.remaining b.input)
        (before ++ p.more) b.file.progress) (sym p.header) (p.read begin before has) in
        subst (λ (l : List DataRecord). HasRead a.file.header begin (g.remaining c.input) l
        c.file.progress) (append_assoc before p.more q.more)
        (subst (λ (l : Layout). HasRead l begin (g.remaining c.input) ((before ++ p.more)
        ++ q.more) c.file.progress) p.header (q.read begin (before ++ p.more) mid));
    gives = λ future. ap (selected a.source) (append_assoc p.more q.more future)
        ∙ p.gives (q.more ++ future)
        ∙ ap (λ (l : List DataRecord). x ++ l) (q.gives future)
        ∙ sym (append_assoc x y (selected c.source future));
    limits = λ future each. q.limits future (p.limits (q.more ++ future)
        (subst (λ (l : List DataRecord). AllByRecursion HasLimits (noted a.source.spots l))
        (append_assoc p.more q.more future) each));
  }

  pub all-passed : (from mid : At CutSource OpenFragment R) (rs : List DataRecord) →
      Gives (GivesSelected g) from mid rs → Passes g from mid rs
  all-passed from mid rs gave = gives-all (GivesSelected g) (λ now given. Passes g from now given)
      (λ mid to given r p step. passes-then from mid to given (r ∷ []) p step) from mid [] rs
      (none-passed from) gave
