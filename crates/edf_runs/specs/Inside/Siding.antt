-- Two files are read side by side.
use Rattle.std.specs.Prelude.{◌≡◌, ℕ, ◌+◌, ◌-◌, ◌*◌, ◌<◌, List, [], ◌∷◌, ◌++◌, Option, Some, None}
use Rattle.std.specs.Prelude.{Result, Ok, Err, MatchResult, Bool, true, false}
use Rattle.edf_header.specs.Header.{Layout, most_records}
use Rattle.edf_fragment.specs.Fragment.{DataRecord}
use Rattle.edf_fragment.specs.Inside.Steps.{ReadsRecords}
use Rattle.edf_fragment.specs.Whole.{HasReadRecords, FailsAfterRecords}
use Rattle.edf_fragment.specs.declared.advance.Progress.{Progress}
use Rattle.edf_fragment.specs.declared.advance.ReaderState.TheVariants.{Reading}
use Rattle.edf_fragment.specs.declared.fault.FragmentFault.{FragmentFault}
use Rattle.edf_fragment.specs.declared.open_fragment.OpenFragment.{OpenFragment}
use Rattle.edf_fragment.specs.declared.streams.Input.{Ghosts}
use Rattle.edf_runs.specs.Inside.Comparing.{IsAfter, IsPassed}
use Rattle.edf_runs.specs.declared.sides.SideFault.{SideFault}
use Rattle.edf_runs.specs.declared.sides.SideFault.TheVariants.{First as OfFirst}
use Rattle.edf_runs.specs.declared.sides.SideFault.TheVariants.{Second as OfSecond, Memory}
use Rattle.edf_runs.specs.declared.sides.Sides.{Sides}
use Rattle.edf_runs.specs.declared.sides.Step.{Step}
use Rattle.edf_runs.specs.declared.sides.Step.TheVariants.{First, Second, Both, Neither}

-- It is the first, the second or both that start before all others.
abbrev pub IsStep : Option DataRecord → Option DataRecord → Step → Type 0
IsStep first second First = (f : DataRecord) × (first ≡ Some f) × IsAfter f.start second
IsStep first second Second = (s : DataRecord) × (second ≡ Some s) × IsAfter s.start first
IsStep first second Both = (f : DataRecord) × (s : DataRecord) × (first ≡ Some f)
    × (second ≡ Some s) × (f.start ≡ s.start)
IsStep first second Neither = (first ≡ None) × (second ≡ None)

-- Of a file these data records were passed, and one more was read, or the file ended.
abbrev pub IsSide : Layout → Option (List ℕ) → Option (List ℕ) → Progress → List DataRecord →
    Option DataRecord → Type 0
IsSide l from now p passed None = ReadsRecords l from now passed
IsSide l from now p passed (Some r) =
    HasReadRecords l from now (passed ++ r ∷ []) p × (p.state ≡ Reading)

abbrev pub is_passed : Sides → List DataRecord → List DataRecord → Option DataRecord →
    Option DataRecord → Type 0
is_passed sides p q next next' = IsPassed sides.duration sides.passed sides.firsts.items
    sides.seconds.items p q next next'

-- Both go on with what came next.
abbrev pub KeepsNext : Sides → Sides → Type 0
KeepsNext old new = (new.duration ≡ old.duration) × (new.first ≡ old.first)
    × (new.second ≡ old.second)

-- The next data record of the first, the second or both was passed.
abbrev pub PassesFirst : Sides → Sides → Type 0
PassesFirst old new = KeepsNext old new
    × ((f : DataRecord) (p q : List DataRecord) (next : Option DataRecord) → old.first ≡ Some f →
    IsAfter f.start old.second → is_passed old p q old.first old.second →
    is_passed new (p ++ f ∷ []) q next old.second)

abbrev pub PassesSecond : Sides → Sides → Type 0
PassesSecond old new = KeepsNext old new
    × ((s : DataRecord) (p q : List DataRecord) (next : Option DataRecord) → old.second ≡ Some s →
    IsAfter s.start old.first → is_passed old p q old.first old.second →
    is_passed new p (q ++ s ∷ []) old.first next)

abbrev pub PassesBoth : Sides → Sides → Type 0
PassesBoth old new = KeepsNext old new
    × ((f s : DataRecord) (p q : List DataRecord) (next next' : Option DataRecord) →
    old.first ≡ Some f → old.second ≡ Some s → f.start ≡ s.start →
    is_passed old p q old.first old.second →
    is_passed new (p ++ f ∷ []) (q ++ s ∷ []) next next')

-- Two files, and what remains of each.
pub record Files : Type 0 where
  pub layout : Layout
  pub layout' : Layout
  pub now : Option (List ℕ)
  pub now' : Option (List ℕ)
  pub progress : Progress
  pub progress' : Progress

abbrev pub files : {R S : Type 0} → Ghosts R → Ghosts S → Layout → Layout → OpenFragment → R →
    OpenFragment → S → Files
files g h l l' first input second input' = record {
  layout = l;
  layout' = l';
  now = g.remaining input;
  now' = h.remaining input';
  progress = first.progress;
  progress' = second.progress;
}

-- These data records of both were passed.
pub record AreSides (from from' : Option (List ℕ)) (f : Files) (sides : Sides)
    (p q : List DataRecord) : Type 0 where
  pub first : IsSide f.layout from f.now f.progress p sides.first
  pub second : IsSide f.layout' from' f.now' f.progress' q sides.second
  pub passed : is_passed sides p q sides.first sides.second

-- How many data records may still come, twice, and what is not passed.
abbrev pub pending : Option DataRecord → ℕ
pending None = 0
pending (Some r) = 1

abbrev pub left_of : Layout → Progress → Option DataRecord → ℕ
left_of l p next = 2 * (most_records l.count - p.given) + pending next

abbrev pub left_of_both : Files → Sides → ℕ
left_of_both f sides = left_of f.layout f.progress sides.first
    + left_of f.layout' f.progress' sides.second

-- One more answer of a file of which these data records were passed.
abbrev pub ReadsSide : Layout → Option (List ℕ) → Option (List ℕ) → Progress → Progress →
    Result (Option DataRecord) FragmentFault → Type 0
ReadsSide l mid now p q result = (from : Option (List ℕ)) (passed : List DataRecord) →
    HasReadRecords l from mid passed p → p.state ≡ Reading → MatchResult result
    (λ next. IsSide l from now q passed next × (q.given ≡ p.given + pending next))
    (FailsAfterRecords l from now)

-- One or both were passed, or nothing comes next.
abbrev pub Advances : Option (List ℕ) → Option (List ℕ) → Files → Files → Sides → Sides →
    List DataRecord → List DataRecord → Result Bool SideFault → Type 0
Advances from from' f g old sides p q (Ok true) = ((p' : List DataRecord) × (q' : List DataRecord)
    × AreSides from from' g sides p' q') × (left_of_both g sides < left_of_both f old)
Advances from from' f g old sides p q (Ok false) = ReadsRecords g.layout from g.now p
    × ReadsRecords g.layout' from' g.now' q × is_passed sides p q None None
Advances from from' f g old sides p q (Err (OfFirst fault)) =
    FailsAfterRecords g.layout from g.now fault
Advances from from' f g old sides p q (Err (OfSecond fault)) =
    FailsAfterRecords g.layout' from' g.now' fault
Advances from from' f g old sides p q (Err Memory) = Unit {0}

abbrev pub IsSideFault : Layout → Layout → Option (List ℕ) → Option (List ℕ) → Option (List ℕ) →
    Option (List ℕ) → SideFault → Type 0
IsSideFault l l' left rest left' rest' (OfFirst fault) = FailsAfterRecords l left rest fault
IsSideFault l l' left rest left' rest' (OfSecond fault) = FailsAfterRecords l' left' rest' fault
IsSideFault l l' left rest left' rest' Memory = Unit {0}
