-- That a recording may take a data record, by its count and what is near.
use Rattle.std.proofs.Common.{◌≡◌, ℕ, ◌<◌, ℤ, List, [], length, sym, ap, ◌∙◌, arith}
use Rattle.sqlite.specs.State.{State, HasCleanDisk}
use Rattle.edf_header.specs.Key.{Key, MayStart}
use Rattle.edf_fragment.specs.Fragment.{DataRecord}
use Rattle.edf_fragment.specs.Sound.{IsSoundRecord}
use Rattle.edf_store.specs.Transaction.{SeesSome, StillSees, HasRowId, IsCountIn, AreNearIn}
use Rattle.edf_store.specs.Transaction.{MayAddIn}
use Rattle.edf_store.proofs.Whole.{seen_before}

-- the count was taken between the first two states, and the near ones between the last two
pub may_take : (cap : ℕ) (a b c : State) (was_a : HasCleanDisk b →
    HasCleanDisk a) (was_b : HasCleanDisk c → HasCleanDisk b) → SeesSome cap a → StillSees cap a b →
    StillSees cap b c
    → (id : ℤ) (k : Key) (r : DataRecord) (count : ℕ) (records : List DataRecord) →
    HasRowId a id k →
    (HasCleanDisk b → IsCountIn cap a id count) →
    (HasCleanDisk c → AreNearIn cap b id r.start records)
    → records ≡ [] → count < cap → IsSoundRecord k r → (count ≡ 0 → MayStart k r.start) →
    MayAddIn cap c id r
may_take cap a b c was_a was_b running ab bc id k r count records under counts near none few sound
    begins = record {
      key = k;
      is_under = bc.ids id k (ab.ids id k under);
      sound = sound;
      spare = λ clean h seen.
          let in_b = seen_before cap b c was_b ab.running bc clean h seen in
          let in_a = seen_before cap a b was_a running ab (was_b clean) h in_b in
          record {
            none_near = sym (near clean h k in_b (ab.ids id k under)) ∙ none;
            below_cap = let n = counts (was_b clean) h k in_a under in omega (arith, n, few);
            first = λ empty. begins (counts (was_b clean) h k in_a under
                ∙ ap (λ (l : List DataRecord). length l) empty);
          };
    }
