-- What the lines of a session do in turn, what they submit together, and how it ends.
use Rattle.std.specs.Prelude.{◌≡◌, ◌⊎◌, ℕ, List, [], ◌∷◌, ◌++◌, length, map, Option, Some, None}
use Rattle.std.specs.Prelude.{option_map}
use Rattle.std.specs.List.{AllByRecursion}
use Rattle.std.specs.Option.{option_to_list}
use Rattle.sqlite_trees.specs.declared.store.Store.{Ghosts}
use Rattle.edf_store.specs.Held.{StoreModel}
use Rattle.edf_intake.specs.Batch.{AreSubmittedAsList}
use Rattle.edf_cli.specs.Status.{worse}
use Rattle.edf_cli.specs.declared.status.Status.{Status}
use Rattle.edf_cli.specs.declared.status.Status.TheVariants.{Trouble}
use Rattle.edf_serve.specs.Files.{LiesBelow}
use Rattle.edf_serve.specs.Lines.{Coming, IsNext}
use Rattle.edf_serve.specs.Exchange.{Exchange, IsServed}
use Rattle.edf_serve.specs.Work.{Point, Submission}
use Rattle.edf_serve.specs.declared.answering.End.{End}
use Rattle.edf_serve.specs.declared.answering.End.TheVariants as end
use Rattle.edf_serve.specs.declared.lines.Next.TheVariants as next

-- the status of a session that ends so: trouble, but at the end of the input, and at a line that
-- was too long
abbrev pub status_at : End → Status → Status
status_at end.Ended worst = worst
status_at end.TooLong worst = worst
status_at other worst = Trouble

-- what was submitted for lines, of which the last stands first, in their order
abbrev pub submissions : {S : Type 0} → List (Exchange S) → List Submission
submissions [] = []
submissions (x ∷ before) = submissions before ++ option_to_list x.work.submission

-- all of it together, as `submit_all` has it: what is held in the end is what the list leaves, the
-- answers are the replies to it, and a crash leaves what some first of them leave
pub record AreSubmittedInTurn {S : Type 0} (g : Ghosts S) (old new : StoreModel S)
    (all : List Submission) : Type 0 where
  pub cap : new.cap ≡ old.cap
  pub submitted : AreSubmittedAsList g old new (map (λ (s : Submission). s.from) all)
      (map (λ (s : Submission). s.to) all) (map (λ (s : Submission). s.answer) all)

-- the input ended; or it could not be read
abbrev pub EndsInput : Coming → Coming → End → Type 0
EndsInput before after end.Ended = IsNext before after next.Ended
EndsInput before after end.Unread = IsNext before after next.Failed
EndsInput before after other = ⊥

-- a session between two lines, and what is to come of its input
pub record Moment (S : Type 0) : Type 0 where
  pub at : Point S
  pub coming : Coming

module _ {S : Type 0} (g : Ghosts S) (folder : Option (List ℕ)) where
  -- one line was read, its command was done, and it was answered
  pub record IsExchange (a b : Moment S) (x : Exchange S) : Type 0 where
    pub came : IsNext a.coming b.coming next.Line × (x.line ≡ b.coming.line)
    pub point : Point S
    pub served : IsServed g x point folder a.at
    pub worst : b.at ≡ record point { worst = worse point.worst x.answered.status }

  -- a line is answered, after which the session goes on, or ends so; or no line came, and it ends
  abbrev pub IsStep : Moment S → Moment S → Option (Exchange S) → Option End → Type 0
  IsStep a b (Some x) goes = IsExchange a b x × (x.answered.after ≡ goes)
  IsStep a b None goes = (why : End) × (goes ≡ Some why) × EndsInput a.coming b.coming why
      × (b.at ≡ a.at)

  -- lines were answered one after the other, the last first, and the session went on after each
  abbrev pub AreExchanges : Moment S → List (Exchange S) → Moment S → Type 0
  AreExchanges a [] b = b ≡ a
  AreExchanges a (x ∷ before) b = (mid : Moment S) × AreExchanges a before mid
      × IsStep mid b (Some x) None

  -- A whole session, and its lines with their answers, the last first. While the input gives a
  -- line, the line is answered, up to where an answer did not go out, the session was stopped, the
  -- store was lost or a line was too long, or as many were answered as can be counted. Every end
  -- but that of the input, and at a line that was too long, is trouble.
  pub record IsSession (a b : Moment S) (all : List (Exchange S)) (why : End) : Type 0 where
    pub mid : Moment S
    pub before : List (Exchange S)
    pub answered : AreExchanges a before mid
    pub last : Moment S
    pub ends : ((x : Option (Exchange S)) × IsStep mid last x (Some why)
        × (all ≡ option_to_list x ++ before))
        ⊎ ((why ≡ end.Stopped) × (last ≡ mid) × (all ≡ before)
        × (length before ≡ 18446744073709551615))
    pub status : b ≡ record last { at = record last.at { worst = status_at why last.at.worst } }

  -- The files of all lines were submitted as one list, and just those were opened, each with the
  -- bytes of its path. Where there is a folder, all paths lie below it.
  pub record IsWholeSession (a b : Moment S) (why : End) : Type 0 where
    pub all : List (Exchange S)
    pub session : IsSession a b all why
    pub submitted : AreSubmittedInTurn g a.at.store b.at.store (submissions all)
    pub opened : b.at.paths ≡ record a.at.paths {
      opened = option_map (λ (before : List (List ℕ)). before
          ++ map (λ (s : Submission). s.path) (submissions all)) a.at.paths.opened;
    }
    pub given : AllByRecursion (λ (s : Submission). (s.from.remaining ≡ a.at.paths.bytes s.path)
        × LiesBelow folder s.path) (submissions all)
