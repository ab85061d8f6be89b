-- A session that is broken off and begun again.
use Rattle.std.proofs.Common.{List, [], ◌∷◌, ◌++◌, subst, map}
use Rattle.std.specs.List.{AllZip}
use Rattle.sqlite_trees.specs.declared.store.Store.{Ghosts}
use Rattle.edf_fragment.specs.Call.{InputState}
use Rattle.edf_fragment.specs.Parsed.{Parsed}
use Rattle.edf_holdings.specs.Laws.{AreWellFormed}
use Rattle.edf_holdings.specs.Reply.{after}
use Rattle.edf_holdings.proofs.Once.{from_the_front}
use Rattle.edf_holdings.proofs.Settled.{sound_front}
use Rattle.edf_holdings.proofs.ParsedIsWellFormed.{parsed_is_well_formed}
use Rattle.edf_store.specs.Held.{Holds}
use Rattle.edf_intake.specs.Batch.{WillParseTo}
use Rattle.edf_intake.proofs.Batches.{answers_all}
use Rattle.edf_serve.specs.Laws.{BrokenOffEndsAlike}
use Rattle.edf_serve.specs.Work.{Submission}

are-sound : (froms : List InputState) (tolds : List Parsed) → AllZip WillParseTo froms tolds →
    AreWellFormed tolds
are-sound [] [] known = tt
are-sound [] (x ∷ xs) known = absurd known
are-sound (f ∷ fs) [] known = absurd known
are-sound (f ∷ fs) (x ∷ xs) known =
    (parsed_is_well_formed known.0.0 x known.0.2, are-sound fs xs known.1)

pub broken_off : {S : Type 0} (g : Ghosts S) → BrokenOffEndsAlike g
broken_off g old new all front rest given h sound held submitted told replies =
    let froms = map (λ (s : Submission). s.from) all in
    let later = (answers_all g old new froms (map (λ (s : Submission). s.to) all)
    (map (λ (s : Submission). s.answer) all) submitted.submitted (front ++ rest) given told replies
    (after old.cap h front) held).1 in
    subst (Holds g new) (from_the_front old.cap h front rest sound
    (sound_front front rest (are-sound froms (front ++ rest) told))) later
