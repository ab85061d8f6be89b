-- What turns do to an open store and to what its files hold, and many runs, one after another. A
-- turn is that of one file: the bytes that it gave, what they parse to, and its answer.
use Rattle.std.specs.Prelude.{◌≡◌, ◌⊎◌, ℕ, List, [], ◌∷◌, ◌++◌, map, Option}
use Rattle.std.specs.List.{AllByRecursion}
use Rattle.sqlite_trees.specs.declared.store.Store.{Ghosts}
use Rattle.sqlite_wal.specs.Recovery.{Image}
use Rattle.sqlite.specs.State.{HasCleanDisk, Survives}
use Rattle.edf_fragment.specs.Parsed.{Parsed}
use Rattle.edf_holdings.specs.Holdings.{Holdings}
use Rattle.edf_holdings.specs.Reply.{after, replies}
use Rattle.edf_holdings.specs.Laws.{AreWellFormed}
use Rattle.edf_store.specs.Held.{StoreModel, at, Holds, KeepsOtherTables}
use Rattle.edf_intake.specs.Refusal.{IsInDoubt}
use Rattle.edf_intake.specs.Input.{ReadsAs}
use Rattle.edf_intake.specs.Batch.{Turn, IsConsistentTurn, submissions_in, replies_in}
use Rattle.edf_intake.specs.Batch.{MayRemainAfterCrash}
use Rattle.edf_export.specs.Headline.{Headline}
use Rattle.edfstore_files.specs.Files.{FilesHold}

-- The store was handed these files in turn, and nothing else changed what it holds: each that
-- was parsed got the reply to it, and what is held then is the result of them all. After a crash
-- there is what there could be before, or the result of a prefix of them.
pub record TakesTurns {S : Type 0} (g : Ghosts S) (old new : StoreModel S) (turns : List Turn) :
    Type 0 where
  pub cap : new.cap ≡ old.cap
  pub each : AllByRecursion IsConsistentTurn turns
  pub replies_are : HasCleanDisk (at g new) → (h : Holdings) → Holds g old h →
      replies_in turns ≡ replies old.cap h (submissions_in turns)
  pub holdings : (h : Holdings) → Holds g old h →
      Holds g new (after old.cap h (submissions_in turns))
  pub others : KeepsOtherTables (at g old) (at g new)
  pub crash : Survives (at g old) (at g new) (λ rows. (h : Holdings) → Holds g old h →
      MayRemainAfterCrash old.cap h turns rows)

-- what a prefix of these turns submitted, and perhaps the next, whose answer is E41 or E42
pub record IsSubmittedPrefix (turns : List Turn) (submissions : List Parsed) : Type 0 where
  pub first : List Turn
  pub rest : List Turn
  pub splits : turns ≡ first ++ rest
  pub are : (submissions ≡ submissions_in first) ⊎ ((t : Turn) × (later : List Turn)
      × (submission : Parsed) × (rest ≡ t ∷ later) × IsInDoubt t.answer
      × ReadsAs t.from t.to submission × (submissions ≡ submissions_in first ++ (submission ∷ [])))

-- the bytes that the files gave, where these are known
abbrev pub given_in : List Turn → List (Option (List ℕ))
given_in turns = map (λ (t : Turn). t.from.remaining) turns

-- ---- many runs

-- The end of a run, or of a session over one opening of the store: it was closed, and these were
-- its turns; it changed nothing, as where its store was refused; or it was interrupted, by a crash
-- or since its files were released unclosed, and took a prefix of files that gave these bytes.
pub data PastRun : Type 0 where
  ended : List Turn → PastRun
  idle : PastRun
  interrupted : List (Option (List ℕ)) → PastRun

-- What it submitted, over files that hold h: all that its files parse to, and its replies are those
-- to this list; nothing; or what a prefix of them parses to, without those answered from E40 on.
abbrev pub MaySubmit : ℕ → PastRun → Holdings → List Parsed → Type 0
MaySubmit cap (ended turns) h submissions = AllByRecursion IsConsistentTurn turns
    × (submissions ≡ submissions_in turns) × (replies_in turns ≡ replies cap h submissions)
MaySubmit cap idle h submissions = submissions ≡ []
MaySubmit cap (interrupted given) h submissions = (turns : List Turn)
    × (rest : List (Option (List ℕ))) × (given ≡ given_in turns ++ rest)
    × AllByRecursion IsConsistentTurn turns × (submissions ≡ submissions_in turns)

-- the files then hold the result of such submissions to what they held
abbrev pub LeadsTo : ℕ → (Holdings → List Parsed → Type 0) → Image → Image → Type 0
LeadsTo cap Submits start end = (h : Holdings) → FilesHold cap start h →
    ∥ ((submissions : List Parsed) × Submits h submissions
    × FilesHold cap end (after cap h submissions)) ∥₁

abbrev pub StepsBy : ℕ → PastRun → Image → Image → Type 0
StepsBy cap run = LeadsTo cap (MaySubmit cap run)

-- each begins with the files of the one before, as that ended or crashed
abbrev pub Follow : ℕ → List PastRun → Image → Image → Type 0
Follow cap [] start end = start ≡ end
Follow cap (run ∷ later) start end = (mid : Image) × StepsBy cap run start mid
    × Follow cap later mid end

-- what all of them submitted, in their order, over files that hold h
abbrev pub AreSubmittedBy : ℕ → Holdings → List PastRun → List Parsed → Type 0
AreSubmittedBy cap h [] submissions = submissions ≡ []
AreSubmittedBy cap h (run ∷ later) submissions = (first : List Parsed) × (more : List Parsed)
    × MaySubmit cap run h first × (submissions ≡ first ++ more)
    × AreSubmittedBy cap (after cap h first) later more

-- after all of them the files hold the result of those submissions, and the headline is true of it
pub record HeadlineAfterRuns (cap : ℕ) (runs : List PastRun) (h : Holdings) (end : Image) : Type 0
  where
    pub submissions : List Parsed
    pub submitted : AreSubmittedBy cap h runs submissions
    pub sound : AreWellFormed submissions
    pub holds : FilesHold cap end (after cap h submissions)
    pub headline : Headline cap h submissions
