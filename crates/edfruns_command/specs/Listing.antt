-- What is found where the runs of a file are listed, and what is written where it has none.
use Rattle.std.specs.Prelude.{◌≡◌, ℕ, ◌≤◌, List, ◌++◌, Option, replicate}
use Rattle.edf_fragment.specs.Whole.{ReadsFragmentFault}
use Rattle.edf_fragment.specs.declared.fault.FragmentFault.{FragmentFault}
use Rattle.edf_cli.specs.Output.{OutputChange, Explains}
use Rattle.edf_cli.specs.Text.{memory_line}
use Rattle.edf_cli.specs.declared.status.Status.{Status}
use Rattle.edf_cli.specs.declared.status.Status.TheVariants.{Done, Trouble}
use Rattle.edf_runs.specs.Read.{ReadsRuns}
use Rattle.edf_runs.specs.declared.run_list.Listing.{Listing}
use Rattle.edfruns_command.specs.Lines.{file_refused_line, file_refused_status}

-- the file's name was opened again and again, `most` times at most, and just so often where all
-- was done
pub record OpensAgain (before after : List (List ℕ)) (name : List ℕ) (most : ℕ)
    (status : Status) : Type 0 where
  pub times : ℕ
  pub few : times ≤ most
  pub opened : after ≡ before ++ replicate times name
  pub all : status ≡ Done → times ≡ most

-- the file was read to its end, and these are its runs
pub record HasRuns (bytes : Option (List ℕ)) (listing : Listing) : Type 0 where
  pub rest : Option (List ℕ)
  pub read : ReadsRuns bytes rest listing

-- it was read up to this fault
pub record HasFault (bytes : Option (List ℕ)) (fault : FragmentFault) : Type 0 where
  pub rest : Option (List ℕ)
  pub met : ReadsFragmentFault bytes rest fault

module _ (out err : OutputChange) (bytes : Option (List ℕ)) (name : List ℕ) (status : Status) where
  -- memory ran out, and nothing went to `out`
  abbrev pub LacksMemory : Type 0
  LacksMemory = Explains out err (memory_line name) Trouble status

  -- the file was refused
  pub record RefusesFile : Type 0 where
    pub fault : FragmentFault
    pub met : HasFault bytes fault
    pub said : Explains out err (file_refused_line name fault) (file_refused_status fault) status
