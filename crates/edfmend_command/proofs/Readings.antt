-- What two readings find of the same bytes.
use Rattle.std.proofs.Common.{◌≡◌, ◌≢◌, ◌⊎◌, ℕ, List, [], Option, Some, None}
use Rattle.std.proofs.Common.{inl, inr, refl, sym, ap, ◌∙◌, subst, length, ◌++◌, ◌∷◌, Bool, true, false, not}
use Rattle.std.specs.Bool.{MatchBool}
use Rattle.std.specs.Prelude.{IfSome, IfOk, IfErr, Result, Ok, Err, MatchOption, MatchResult}
use Rattle.std.proofs.KnownBytes.{Consumes-whole}
use Rattle.edf_fragment.proofs.Fragments.{fragment_of_all}
use Rattle.edf_fragment.proofs.OneFragment.{spelled-no-fault}
use Rattle.edf_fragment.specs.Fragment.{IsFragmentFile}
use Rattle.edf_fragment.specs.Whole.{ReadsFragmentFault}
use Rattle.edf_fragment.specs.declared.fault.FragmentFault.{FragmentFault}
use Rattle.edf_canonical.proofs.Files.{its-own}
use Rattle.edf_runs.specs.Canonical.{IsCanonicalWritten, IsCanonicalUnwritten}
use Rattle.edf_runs.specs.Outline.{IsMiscounted, ReadsOutline}
use Rattle.edf_runs.specs.declared.fault.WriteFault.{WriteFault}
use Rattle.edf_runs.specs.declared.outline.Outline.{Outline}
use Rattle.edf_runs.proofs.Counted.{no-file}
use Rattle.edf_runs.proofs.Noted.{joined-self}
use Rattle.edf_runs.proofs.SameRead.{same-is-read}
use Rattle.edf_mend.specs.Mends.{MendsTo, AsksNothing}
use Rattle.edf_mend.specs.declared.fault.MendFault.{MendFault}
use Rattle.edf_mend.specs.declared.mending.Mended.{Mended}
use Rattle.edf_mend.specs.declared.wanted.Wanted.{Wanted}
use Rattle.edfmend_command.specs.Inside.{PlansGood, PlansStrictly, MendsAs}
use Rattle.edf_cli.specs.Made.{MadeFile, removed, not_removed}
use Rattle.edfmend_command.specs.Run.{IsGood, IsToMend, IsNotMended, IsTrouble, LeavesPart}
use Rattle.edf_fragment.specs.declared.fault.FragmentFault.TheVariants as fragment
use Rattle.edf_runs.specs.declared.fault.WriteFault.TheVariants as write

-- ---- a first reading

-- a fault of form says that the file is no good one
pub no-good : (left rest : Option (List ℕ)) (why : FragmentFault) →
    ReadsFragmentFault left rest why → why ≢ fragment.Read → why ≢ fragment.Memory →
    IfSome left (λ file. ¬ IsGood file)
no-good None rest why x read memory = tt
no-good (Some file) rest fragment.Read x read memory = absurd (read refl)
no-good (Some file) rest fragment.Memory x read memory = absurd (memory refl)
no-good (Some file) rest fragment.Failed x read memory = absurd x.first
no-good (Some file) rest (fragment.Header fault) x read memory =
    λ good. spelled-no-fault file good.0 good.1 (fragment.Header fault) good.2 x.first
no-good (Some file) rest (fragment.CutRecord nth) x read memory =
    λ good. spelled-no-fault file good.0 good.1 (fragment.CutRecord nth) good.2 x.first
no-good (Some file) rest (fragment.Tal nth fault) x read memory =
    λ good. spelled-no-fault file good.0 good.1 (fragment.Tal nth fault) good.2 x.first
no-good (Some file) rest fragment.Trailing x read memory =
    λ good. spelled-no-fault file good.0 good.1 fragment.Trailing good.2 x.first

pub planned : (left rest : Option (List ℕ)) (bytes : Option ℕ) (found : Option Outline) →
    IfSome bytes (λ n. IfSome left (λ file. length file ≡ n)) →
    MatchOption found (IsMiscounted bytes left rest) (ReadsOutline left rest) →
    PlansStrictly left found
planned left rest bytes (Some outline) told x = (rest, x)
planned None rest bytes None told x = tt
planned (Some file) rest bytes None told x = λ good.
    let size : length file ≡ x.size =
    subst (λ (b : Option ℕ). IfSome b (λ n. length file ≡ n)) x.is_known told in
    no-file bytes (Some file) rest x
    (x.is_known ∙ ap (λ (n : ℕ). Some n) (sym size)) good.0 good.1 good.2

pub asked-or-bad : (bytes : Option (List ℕ)) (w : Wanted) →
    IfSome bytes (λ file. ¬ IsGood file) → IsToMend bytes w
asked-or-bad None w bad = tt
asked-or-bad (Some file) w bad = λ nothing. bad

pub asked : (bytes : Option (List ℕ)) (w : Wanted) → (AsksNothing w → ⊥) → IsToMend bytes w
asked None w something = tt
asked (Some file) w something = λ nothing good. something nothing

-- ---- a second reading

-- trouble says nothing of the bytes
pub troubled : (bytes : Option (List ℕ)) (w : Wanted) (why : MendFault) → IsTrouble why →
    IsNotMended bytes w why
troubled None w why trouble = tt
troubled (Some file) w why trouble = λ nothing good. trouble

pub not-mended : (bytes : Option (List ℕ)) (w : Wanted) (why : MendFault) → IsToMend bytes w →
    IsNotMended bytes w why
not-mended None w why to_mend = tt
not-mended (Some file) w why to_mend = λ nothing good. absurd (to_mend nothing good)

pub none-mended : {A : Type 0} (bytes : Option (List ℕ)) (w : Wanted) (r : Result A MendFault) →
    IsToMend bytes w → IfErr r (IsNotMended bytes w)
none-mended bytes w (Ok x) to_mend = tt
none-mended bytes w (Err why) to_mend = not-mended bytes w why to_mend

module _ (left rest before after : Option (List ℕ)) (w : Wanted) where
  pub leniently : (result : Result Mended MendFault) →
      IfOk result (λ m. MendsTo w left rest before after m.changes.items m.left_out) →
      IsToMend left w →
      MatchResult result (MendsAs left w false before after) (IsNotMended left w)
  leniently (Ok mended) x to_mend = record {
    new = x.new;
    is_mended = record {
      old = x.old;
      old_is = Consumes-whole left rest x.old (λ known. known ≡ x.old) x.read x.end refl;
      made = (to_mend, x.mends);
    };
    wrote = x.wrote;
  }
  leniently (Err why) x to_mend = not-mended left w why to_mend

-- of bytes that are known both readings spell the same; of others the canonical file is one
module _ (outline : Outline) (rest before after : Option (List ℕ)) (len : ℕ) where
  abbrev Written : (left : Option (List ℕ)) → PlansGood left outline → Type 0
  Written left good =
      IsCanonicalWritten left rest before after good.1.layout.key good.1.records len

  old-of : (left : Option (List ℕ)) (good : PlansGood left outline) → (x : Written left good) →
      (old : List ℕ) × IfSome left (λ known. known ≡ old)
      × IsFragmentFile old good.1.layout.key x.records
  old-of None good x = (x.file, tt, its-own x.file good.1.layout.key x.records x.is_file)
  old-of (Some file) good x = (
    file,
    refl,
    same-is-read file good.1.layout.key x.records (record {
      layout = good.1.layout;
      layout' = x.layout;
      keys = (refl, x.same);
      rest = good.0;
      rest' = rest;
      ones = good.1.records;
      others = x.others;
      read = good.1.read;
      reread = x.read;
      joined = x.joined;
    }),
  )

  pub strictly : (left : Option (List ℕ)) (w : Wanted) → AsksNothing w →
      (good : PlansGood left outline) → (mended : Mended) → mended.changes.items ≡ [] →
      mended.left_out ≡ 0 → Written left good → MendsAs left w true before after mended
  strictly left w nothing good mended same whole x =
      let old = old-of left good x in
      record {
        new = x.file;
        is_mended = record {
          old = old.0;
          old_is = old.1;
          made = record {
            nothing = nothing;
            key = good.1.layout.key;
            records = x.records;
            good = old.2;
            canonical = x.is_file;
            same = same;
            whole = whole;
          };
        };
        wrote = x.wrote;
      }

-- the same bytes are told unchanged, so only trouble is left
trouble-left : (fault : WriteFault) (why : MendFault) →
    (fault ≡ write.Changed) ⊎ ((fault ≡ write.Undated) ⊎ IsTrouble why) →
    fault ≢ write.Changed → fault ≢ write.Undated → IsTrouble why
trouble-left fault why (inl is) same dated = absurd (same is)
trouble-left fault why (inr (inl is)) same dated = absurd (dated is)
trouble-left fault why (inr (inr trouble)) same dated = trouble

pub not-strictly : (left before after : Option (List ℕ)) (w : Wanted) (outline : Outline)
    (fault : WriteFault) (why : MendFault) → (good : PlansGood left outline) →
    IsCanonicalUnwritten left before after good.1.layout.key good.1.records fault →
    (fault ≡ write.Changed) ⊎ ((fault ≡ write.Undated) ⊎ IsTrouble why) → IsNotMended left w why
not-strictly None before after w outline fault why good fails met = tt
not-strictly (Some file) before after w outline fault why good fails met = λ nothing is_good.
    let one = good.1 in
    let spells = fragment_of_all file good.0 one.layout one.records one.read in
    trouble-left fault why met (fails.unchanged file one.records one.records refl spells
    (joined-self one.records)).0 fails.dated

-- ---- a part of a file

pub part-removed : (before mid after : List MadeFile) (part : MadeFile) (is_gone : Bool) →
    mid ≡ before ++ (part ∷ []) → part.whole ≡ false → MatchBool is_gone
    (after ≡ before ++ (removed part ∷ [])) (after ≡ before ++ (not_removed part ∷ [])) →
    LeavesPart before after part.name (not is_gone)
part-removed before mid after part true is half gone = inr (part, refl, half, gone)
part-removed before mid after part false is half gone = inr (part, refl, half, gone)
