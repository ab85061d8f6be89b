-- The faults of identity bytes, one row after another.
use Rattle.std.proofs.Common.{◌≡◌, ℕ, ◌+◌, ◌-◌, ◌*◌, ◌≤◌, ◌<◌, List, [], ◌++◌, length, take, drop}
use Rattle.std.proofs.Common.{arith, sym, subst, inl, inr}
use Rattle.std.proofs.lemmas.Bool.{cases_lt}
use Rattle.edf_header.specs.Identity.{HasLength, HasMark, IsCleanKey, KeyFails}
use Rattle.edf_header.specs.Identity.{identity_fault_order, signals_at}
use Rattle.edf_header.specs.Key.{IsKey, Key, key_at, key_bytes}
use Rattle.edf_field.specs.Number.{field, IsDuration}
use Rattle.edf_header.specs.Inside.Shape.{IsKeyPrefix, check_order}
use Rattle.edf_header.specs.Signal.{IsFirstBad, Passes, rows_of, samples_in_all}
use Rattle.edf_field.specs.Text.{IsPrintable, IsPatient, FollowsStartdate}
use Rattle.std.specs.Prelude.{All}
use Rattle.std.specs.List.{flat_map}
use Rattle.edf_header.specs.declared.signal_checks.Check.{Check}
use Rattle.edf_header.specs.declared.signal_checks.Check.TheVariants.{Label as CheckLabel}
use Rattle.edf_header.specs.declared.signal_checks.Check.TheVariants.{Annotations as CheckAnnotations}
use Rattle.edf_header.specs.declared.signal_checks.Check.TheVariants.{Physical as CheckPhysical}
use Rattle.edf_header.specs.declared.signal_checks.Check.TheVariants.{Digital as CheckDigital}
use Rattle.edf_header.specs.declared.signal_checks.Check.TheVariants.{Samples as CheckSamples}
use Rattle.edf_header.specs.declared.identity.IdentityFault.{IdentityFault}
use Rattle.edf_header.specs.declared.limits.TheConstants.{MOST_BLOCK_BYTES, MOST_ORDINARY_SIGNALS}
use Rattle.edf_header.specs.declared.identity.IdentityFault.TheVariants.{Length, Unprintable}
use Rattle.edf_header.specs.declared.identity.IdentityFault.TheVariants.{Patient, Recording}
use Rattle.edf_header.specs.declared.identity.IdentityFault.TheVariants.{Duration, Label, Physical}
use Rattle.edf_header.specs.declared.identity.IdentityFault.TheVariants.{Digital, Samples, Size}
use Rattle.edf_header.specs.declared.identity.IdentityFault.TheVariants.{Memory}
use Rattle.edf_header.proofs.Held.{sliced, count-is, shaped, sized, key-length, key-mark}
use Rattle.edf_header.proofs.Keys.{bytes-back, key-back}

pub not-bad : {X : Type 0} (P : X → Type 0) (d : X) (xs : List X) (at : ℕ) → All P xs →
    ¬ IsFirstBad P xs at
not-bad P d xs at all bad = bad.bad d (all at d bad.within)

positive : (e : IdentityFault) → ¬ (identity_fault_order e < 1)
positive Length lt = omega arith
positive e lt = omega arith

-- one row after another
pub clean-4 : (b : List ℕ) → HasLength b → All IsPrintable b → IsPatient (field b 0 80) →
    IsCleanKey b 4
clean-4 b len printable patient Patient lt bad = bad patient
clean-4 b len printable patient Length lt bad = bad len
clean-4 b len printable patient (Unprintable offset) lt bad =
    not-bad IsPrintable 0 b offset printable bad
clean-4 b len printable patient e lt bad = absurd (omega arith)

pub clean-5 : (b : List ℕ) → HasLength b → All IsPrintable b → IsPatient (field b 0 80) → HasMark b
    × FollowsStartdate (key_at b).after → IsCleanKey b 5
clean-5 b len printable patient recording Recording lt bad = bad recording
clean-5 b len printable patient recording Patient lt bad = bad patient
clean-5 b len printable patient recording Length lt bad = bad len
clean-5 b len printable patient recording (Unprintable offset) lt bad =
    not-bad IsPrintable 0 b offset printable bad
clean-5 b len printable patient recording e lt bad = absurd (omega arith)

pub clean-6 : (b : List ℕ) → IsKeyPrefix b → IsCleanKey b 6
clean-6 b f Duration lt bad = bad f.duration.0 f.duration.1
clean-6 b f Recording lt bad = bad (f.mark, f.after)
clean-6 b f Patient lt bad = bad f.patient
clean-6 b f Length lt bad = bad f.len
clean-6 b f (Unprintable offset) lt bad = not-bad IsPrintable 0 b offset f.printable bad
clean-6 b f e lt bad = absurd (omega arith)

-- past the row of a check that all signals pass
past : (check : Check) (b : List ℕ) → All (Passes check) (signals_at b) → (e : IdentityFault) →
    identity_fault_order e ≡ check_order check → ¬ KeyFails b e
past CheckLabel b all (Label s) eq bad =
    not-bad (Passes CheckLabel) [] (signals_at b) bad.0 all bad.1
past CheckLabel b all e eq bad = absurd (omega arith)
past CheckAnnotations b all e eq bad = positive e (omega arith)
past CheckPhysical b all (Physical s) eq bad =
    not-bad (Passes CheckPhysical) [] (signals_at b) bad.0 all bad.1
past CheckPhysical b all e eq bad = absurd (omega arith)
past CheckDigital b all (Digital s) eq bad =
    not-bad (Passes CheckDigital) [] (signals_at b) bad.0 all bad.1
past CheckDigital b all e eq bad = absurd (omega arith)
past CheckSamples b all (Samples s) eq bad =
    not-bad (Passes CheckSamples) [] (signals_at b) bad.0 all bad.1
past CheckSamples b all e eq bad = absurd (omega arith)

pub all-passed : (check : Check) (b : List ℕ) → IsCleanKey b (check_order check) →
    All (Passes check) (rows_of (take (length b - 158) (drop 158 b)))
    → All (Passes check) (signals_at b) × IsCleanKey b (check_order check + 1)
all-passed check b clean all =
    let here = subst (All (Passes check)) (sliced b) all in (
      here,
      λ e lt bad. elim (cases_lt (identity_fault_order e) (check_order check)) [
        | inl below ↦ clean e below bad
        | inr le ↦ past check b here e (omega arith) bad
      ],
    )

pub bad-at : (check : Check) (b : List ℕ) (at : ℕ) →
    IsFirstBad (Passes check) (rows_of (take (length b - 158) (drop 158 b))) at →
    IsFirstBad (Passes check) (signals_at b) at
bad-at check b at bad = subst (λ (l : List (List ℕ)). IsFirstBad (Passes check) l at) (sliced b) bad

pub at-small : (check : Check) (b : List ℕ) (at : ℕ) → HasLength b →
    IsFirstBad (Passes check) (rows_of (take (length b - 158) (drop 158 b))) at →
    at < MOST_ORDINARY_SIGNALS
at-small check b at len bad = omega (
  arith,
  (bad-at check b at bad).within,
  count-is b len.0 len.3,
  len.2,
)

-- past the size
pub clean-11 : (b : List ℕ) → IsCleanKey b 10 →
    2 * samples_in_all (signals_at b) ≤ MOST_BLOCK_BYTES →
    IsCleanKey b 11
clean-11 b clean size Size lt bad = absurd (omega (arith, bad))
clean-11 b clean size Memory lt bad = absurd (omega arith)
clean-11 b clean size e lt bad = clean e (omega arith) bad

pub is-key : (b : List ℕ) → IsKeyPrefix b → All (Passes CheckLabel) (signals_at b) →
    All (Passes CheckPhysical) (signals_at b) → All (Passes CheckDigital) (signals_at b) →
    All (Passes CheckSamples) (signals_at b)
    → 2 * samples_in_all (signals_at b) ≤ MOST_BLOCK_BYTES → (key_bytes (key_at b) ≡ b)
    × IsKey (key_at b)
is-key b f l p d s size =
    let back = bytes-back b (shaped b f.len f.mark) in
    let n : length (signals_at b) ≡ f.len.0 = count-is b f.len.0 f.len.3 in (
      back,
      record {
        sized = sized b f.len;
        printable = subst (All IsPrintable) (sym back) f.printable;
        patient = f.patient;
        after = f.after;
        duration = f.duration;
        signals_from = omega (arith, f.len.1);
        signals_to = omega (arith, f.len.2);
        signals = λ i x lt. record {
          label = l i x lt;
          physical = p i x lt (l i x lt);
          digital =
              d i x lt (l i x lt);
        };
        each_samples = s;
        size = size;
      },
    )

front-of : (k : Key) → IsKey k → IsKeyPrefix (key_bytes k)
front-of k i =
    let back = key-back k i.sized in
    record {
      len = (length k.signals, i.signals_from, i.signals_to, key-length k i.sized);
      printable = i.printable;
      patient = subst (λ (k : Key). IsPatient k.patient) (sym back) i.patient;
      mark = key-mark k.dated k.patient k.after (k.duration
          ++ flat_map (λ (s : List ℕ). s) k.signals) i.sized.patient i.sized.after;
      after = subst (λ (k : Key). FollowsStartdate k.after) (sym back) i.after;
      duration = (
        i.duration.0,
        subst (λ (k : Key). IsDuration k.duration i.duration.0) (sym back)
            i.duration.1,
      );
    }

-- the signals of a key pass each check
passed : (k : Key) → IsKey k → (check : Check) → All (Passes check) k.signals
passed k i CheckLabel at d lt = (i.signals at d lt).label
passed k i CheckAnnotations at d lt = λ label. absurd ((i.signals at d lt).label label)
passed k i CheckPhysical at d lt = λ label. (i.signals at d lt).physical
passed k i CheckDigital at d lt = λ label. (i.signals at d lt).digital
passed k i CheckSamples at d lt = i.each_samples at d lt

clean-by : (b : List ℕ) → IsKeyPrefix b → ((check : Check) → All (Passes check) (signals_at b)) →
    IsCleanKey b 10
clean-by b f all (Label s) lt bad =
    not-bad (Passes CheckLabel) [] (signals_at b) bad.0 (all CheckLabel) bad.1
clean-by b f all (Physical s) lt bad =
    not-bad (Passes CheckPhysical) [] (signals_at b) bad.0 (all CheckPhysical) bad.1
clean-by b f all (Digital s) lt bad =
    not-bad (Passes CheckDigital) [] (signals_at b) bad.0 (all CheckDigital) bad.1
clean-by b f all (Samples s) lt bad =
    not-bad (Passes CheckSamples) [] (signals_at b) bad.0 (all CheckSamples) bad.1
clean-by b f all Size lt bad = absurd (omega arith)
clean-by b f all Memory lt bad = absurd (omega arith)
clean-by b f all e lt bad = clean-6 b f e (omega arith) bad

-- the bytes of a key have no fault
pub key-clean : (k : Key) → IsKey k → IsCleanKey (key_bytes k) 11
key-clean k i =
    let back = key-back k i.sized in
    clean-11 (key_bytes k) (clean-by (key_bytes k) (front-of k i)
    (λ check. subst (λ (k : Key). All (Passes check) k.signals) (sym back) (passed k i check)))
    (subst (λ (k : Key). 2 * samples_in_all k.signals ≤ MOST_BLOCK_BYTES) (sym back) i.size)
