-- What a session needs to know of the work of any command.
use Rattle.std.proofs.Common.{◌≡◌, ◌⊎◌, ◌∙◌, ℕ, List, Option, Some, None, sym, ap, subst, inl, inr}
use Rattle.sqlite_trees.specs.declared.store.Store.{Ghosts}
use Rattle.edf_store.specs.Held.{KeepsHoldings}
use Rattle.edf_store.proofs.Begun.{stays_same}
use Rattle.edf_intake.specs.Submitted.{IsSubmitAnswer}
use Rattle.edf_serve.specs.Exchange.{IsWorked}
use Rattle.edf_serve.specs.Files.{Paths, opens, IsPlace, LiesBelow}
use Rattle.edf_serve.specs.Line.{LineAsked}
use Rattle.edf_serve.specs.Line.LineAsked.{take, list}
use Rattle.edf_serve.specs.Taking.{SubmitsFile}
use Rattle.edf_serve.specs.Work.{Point, Work, Submission}

module _ {S : Type 0} (g : Ghosts S) (folder : Option (List ℕ)) (w : Work S) where
  -- nothing was submitted: the store holds what it held
  pub record SubmitsNone : Type 0 where
    pub none : w.submission ≡ None
    pub stays : KeepsHoldings g w.old.store w.new.store
    pub paths : w.new.paths ≡ w.old.paths

  -- or one file was, which was opened for that, and lies below the folder
  pub record SubmitsOne : Type 0 where
    pub it : Submission
    pub is_it : w.submission ≡ Some it
    pub submitted : IsSubmitAnswer g w.old.store w.new.store it.from it.to it.answer
    pub given : it.from.remaining ≡ w.old.paths.bytes it.path
    pub below : LiesBelow folder it.path
    pub paths : w.new.paths ≡ opens w.old.paths it.path

  abbrev pub IsOrderly : Type 0
  IsOrderly = SubmitsNone ⊎ SubmitsOne

-- the place of a name lies below the folder
lies : (paths : Paths) (folder : Option (List ℕ)) (name path : List ℕ) →
    IsPlace paths folder name (Some path) → LiesBelow folder path
lies paths None name path place = tt
lies paths (Some folder) name path place = (name, place.0.0, place.0.1)

module _ {S : Type 0} (g : Ghosts S) (folder : Option (List ℕ)) (w : Work S) where
  submits : (name path : List ℕ) → IsPlace w.old.paths folder name (Some path) →
      SubmitsFile g w name path → SubmitsOne g folder w
  submits name path place t = record {
    it = t.it;
    is_it = t.is_it.0;
    submitted = t.submitted;
    given = t.given ∙ ap w.old.paths.bytes (sym t.is_it.2);
    below = subst (LiesBelow folder) (sym t.is_it.2) (lies w.old.paths folder name path place);
    paths = ap (λ (p : Point S). p.paths) t.same ∙ ap (opens w.old.paths) (sym t.is_it.2);
  }

  same : w.new.store ≡ w.old.store → KeepsHoldings g w.old.store w.new.store
  same is = subst (KeepsHoldings g w.old.store) (sym is) (stays_same g w.old.store)

  pub orderly : (asked : Option LineAsked) → IsWorked g folder w asked → IsOrderly g folder w
  orderly None is = inl (record {
    none = is.1.0;
    stays = same (ap (λ (p : Point S). p.store) is.0);
    paths = ap (λ (p : Point S). p.paths) is.0;
  })
  orderly (Some (take name)) (inl (path, place, t)) = inr (submits name path place t)
  orderly (Some (take name)) (inr n) = inl (record {
    none = n.1.0;
    stays = same (ap (λ (p : Point S). p.store) n.0);
    paths = ap (λ (p : Point S). p.paths) n.0;
  })
  orderly (Some list) is = inl (record {
    none = is.1.0;
    stays = is.1.1.2.stays;
    paths = ap (λ (p : Point S). p.paths) is.0;
  })
