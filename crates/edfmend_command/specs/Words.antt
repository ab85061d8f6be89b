-- What the words after the program's name ask for: IN OUT or IN --dry-run, and options. clap reads
-- the words; this is what is made of what it found.
use Rattle.std.specs.Prelude.{◌≡◌, ◌≢◌, ◌⊎◌, ℕ, List, codes, Option, Some, None, Bool, true, false}
use Rattle.std.specs.Prelude.{IfSome}
use Rattle.edf_time.specs.Civil.{IsDateText, IsTimeText}
use Rattle.edf_mend.specs.Texts.{IsCode}
use Rattle.edf_mend.specs.declared.wanted.Who.{Who}
use Rattle.edf_mend.specs.declared.wanted.Who.TheVariants.{AsNamed, Given, Replaced, Hidden}
use Rattle.edf_cli.specs.declared.words.CommandFault.{CommandFault}
use Rattle.edf_cli.specs.declared.words.CommandFault.TheVariants.{Usage}
use Rattle.edfmend_command.specs.Run.{Asked}

-- the values of the words, each once at most: IN, OUT, whether --dry-run, and of --patient,
-- --set-patient, --deidentify, --startdate, --starttime, and whether --all
pub record Values : Type 0 where
  pub input : List ℕ
  pub output : Option (List ℕ)
  pub dry : Bool
  pub patient : Option (List ℕ)
  pub set_patient : Option (List ℕ)
  pub deidentify : Option (List ℕ)
  pub startdate : Option (List ℕ)
  pub starttime : Option (List ℕ)
  pub all : Bool

-- one of the three codes at most
abbrev pub AreCodes : Option (List ℕ) → Option (List ℕ) → Option (List ℕ) → Who → Type 0
AreCodes None None None who = who ≡ AsNamed
AreCodes (Some code) None None who = IsCode code × (who ≡ Given code)
AreCodes None (Some code) None who = IsCode code × (who ≡ Replaced code)
AreCodes None None (Some code) who = IsCode code × (who ≡ Hidden code)
AreCodes patient set hidden who = ⊥

-- a date dd.mm.yy, a time hh.mm.ss
abbrev pub IsDateWord : List ℕ → Type 0
IsDateWord text = (days : ℕ) × IsDateText text days

abbrev pub IsTimeWord : List ℕ → Type 0
IsTimeWord text = (seconds : ℕ) × IsTimeText text seconds

-- IN is read twice, so it is not `-`; and there is OUT, or nothing is written
abbrev pub AreNames : Values → Type 0
AreNames v = (v.input ≢ codes "-")
    × (((v.dry ≡ true) × (v.output ≡ None)) ⊎ ((v.dry ≡ false) × (v.output ≢ None)))

-- the words ask for this
pub record Mean (v : Values) (asked : Asked) : Type 0 where
  pub names : AreNames v
  pub input : asked.input ≡ v.input
  pub output : asked.output ≡ v.output
  pub who : AreCodes v.patient v.set_patient v.deidentify asked.wanted.who
  pub startdate : (asked.wanted.startdate ≡ v.startdate) × IfSome v.startdate IsDateWord
  pub starttime : (asked.wanted.starttime ≡ v.starttime) × IfSome v.starttime IsTimeWord
  pub all : asked.wanted.all ≡ v.all

-- or they ask for nothing that can be done
abbrev pub MeanNothing : Values → Type 0
MeanNothing v = (asked : Asked) → ¬ Mean v asked

-- which is answered so, with how the command is used
abbrev pub IsNothing : CommandFault → Type 0
IsNothing (Usage text) = Unit {0}
IsNothing why = ⊥
