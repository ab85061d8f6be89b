-- What the calls of a transaction make of what it sees.
use Rattle.std.proofs.Common.{◌≡◌, ℕ, ◌≤◌, ℤ, pos, false, true, List, [], ◌∷◌, map, length, min}
use Rattle.std.proofs.Common.{filter, ◌-ℤ◌, ◌+ℤ◌, Contains, inl, inr, IsTrue, refl, sym, ap, subst}
use Rattle.std.proofs.Common.{◌∙◌, arith, Some, None}
use Rattle.sqlite.specs.Tree.{Trees}
use Rattle.sqlite.specs.Effect.{Database}
use Rattle.sqlite.specs.State.{State, HasCleanDisk, Survives, KeepsCommit, IsUnchanged, Shows}
use Rattle.sqlite.proofs.StateLemmas.{survives_weaker}
use Rattle.sqlite_value.specs.Order.{Row, column}
use Rattle.sqlite_rules.specs.Edit.{next_rowid}
use Rattle.edf_field.specs.Number.{duration_of}
use Rattle.edf_header.specs.Key.{Key, IsKey, key_bytes}
use Rattle.edf_tal.specs.Canonical.{tals_text}
use Rattle.edf_fragment.specs.Fragment.{DataRecord}
use Rattle.edf_holdings.specs.Holdings.{Holdings, IsSound, with_records}
use Rattle.edf_holdings.specs.Clash.{overlapping, intervals_overlap}
use Rattle.edf_fragment.specs.Sound.{IsSoundRecord}
use Rattle.edf_holdings.proofs.Near.{near_two}
use Rattle.edf_holdings.proofs.Joining.{IsGood-from_sound}
use Rattle.edf_holdings.proofs.Added.{add_stays_sound}
use Rattle.std.specs.List.{AllByRecursion}
use Rattle.std.proofs.lemmas.List.Elements.{recursion_from_All}
use Rattle.sqlite_keyed.proofs.ListLemmas.{all-filter}
use Rattle.edf_tables.specs.Row.{cells, named_cells, HasRecord, HasRecording}
use Rattle.edf_tables.specs.Records.{records_of, shown_record, starts_between, IsReady}
use Rattle.edf_tables.specs.Recordings.{named, IsIdIn}
use Rattle.edf_tables.proofs.Keeping.{keeps_then, same_left}
use Rattle.edf_tables.proofs.Held.{record_inside, recording_inside, recording_keeps}
use Rattle.edf_header.specs.declared.limits.TheConstants.{MOST_RECORDS}
use Rattle.edf_rows.specs.Cells.{record_cells, recording_cells, records_in}
use Rattle.edf_rows.specs.Rows.{HasRecordingRow, RepresentCommitted}
use Rattle.edf_rows.proofs.Rows.{same-recordings}
use Rattle.edf_store.specs.Held.{AreHeld, IsSoundStore}
use Rattle.edf_store.specs.Transaction.{AreSeen, SeesSome, IsTransactionOf, HasRowId, StillSees}
use Rattle.edf_store.specs.Transaction.{IsCountIn, AreNearIn, AddsNoRecordingIn}
use Rattle.edf_store.specs.Transaction.{AddsOnlyRecordingIn, MayAddIn, IsAddedIn}
use Rattle.edf_store.specs.Transaction.{IsSelectedOrInsertedIn, EachHasRecordIn, AreSeenRows}
use Rattle.edf_tables.specs.Schema.{HasBoth}
use Rattle.edf_store.proofs.Held.{still_inside, still_under, others_on, sees_on}
use Rattle.edf_store.proofs.Standing.{one_key, stand_more, there_too}
use Rattle.edf_store.proofs.Found.{found, stand_named, there_now, there_still, there_cases}
use Rattle.edf_store.proofs.Near.{count_shown, near_shown, rows_rising}

pub none_made : (old new : State) → (HasCleanDisk new → IsUnchanged old new) →
    AddsNoRecordingIn old new
none_made old new same clean id k it =
    subst (λ (d : Database). HasRecordingRow d.trees id k) (same clean).0.now_is it

pub none_added : (old new : State) (row : Row) → (HasCleanDisk new → HasRecord old new row) →
    AddsNoRecordingIn old new
none_added old new row has clean id k it = record {
  row = subst (λ (rows : List Row). Contains (map (λ row. column row 0 ∷ column row 2 ∷ []) rows)
      (recording_cells id k)) (has clean).recordings it.row;
  key = it.key;
}

module _ (cap : ℕ) (old new : State) (P : Trees → Type 0) (s : Survives old new P) where
  was_clean : HasCleanDisk new → HasCleanDisk old
  was_clean clean = omega (arith, s.clean)

  -- the count of the rows is that of the records
  pub count_is : (id : ℤ) (count n : ℕ) → HasCleanDisk new → cap ≤ MOST_RECORDS →
      count ≡ min (length (records_of id (old.now.trees 2))) 9223372036854775807 → n ≡ count →
      IsCountIn cap old id n
  count_is id count n clean small is same h k seen under =
      let it = seen (was_clean clean) in
      let rows = count_shown old.now.trees h id k it.stand (under.there (was_clean clean)) in
      let few = it.sound.within_cap k in
      omega (arith, small, is, same, rows, few)

  -- the rows near are those of the records near
  pub near_is : (id : ℤ) (start d : ℕ) (k : Key) (records : List DataRecord) → HasCleanDisk new →
      HasRowId old id k → d ≡ duration_of k.duration
      → ((h : Holdings) → IsTransactionOf cap old h → IsKey k →
      map shown_record (filter (starts_between (pos start -ℤ pos d) (pos start +ℤ pos d))
      (records_of id (old.now.trees 2))) ≡ map record_cells (overlapping d start (h k)) →
      records ≡ overlapping d start (h k)) → AreNearIn cap old id start records
  near_is id start d k records clean mine same read h q seen under =
      let it = seen (was_clean clean) in
      let key : k ≡ q = one_key old.now.trees h it.stand id k q (mine.there (was_clean clean))
      (under.there (was_clean clean)) in
      let answer = read h it mine.key (near_shown old.now.trees h id k start d it.stand
      (mine.there (was_clean clean))) in
      subst (λ (p : Key). records ≡ overlapping (duration_of p.duration) start (h p)) key
      (subst (λ n. records ≡ overlapping n start (h k)) same answer)

  pub added_in : (id : ℤ) (r : DataRecord) → (HasCleanDisk new → HasRecord old new
      (cells id (pos r.start) r.samples (tals_text 0 r.start r.annotations))) →
      MayAddIn cap old id r → SeesSome cap old → IsAddedIn cap old new id r
  added_in id r has may running = record {
    running = λ clean. let it = running (was_clean clean) in
        (with_records may.key (r ∷ []) it.0, more it.0 may.key clean it.1 may.is_under);
    holdings = λ h k seen under clean. more h k clean (seen (was_clean clean)) under;
    ids = λ m q under. record {
      key = under.key;
      there =
          λ clean. there_again m q clean (under.there (was_clean clean));
    };
    only = none_added old new _ has;
  }
    where
      there_again : (m : ℤ) (q : Key) → HasCleanDisk new → HasRecordingRow old.now.trees m q →
          HasRecordingRow new.now.trees m q
      there_again m q clean is =
          let it = running (was_clean clean) in
          let mine = may.is_under.there (was_clean clean) in
          let spare = may.spare (was_clean clean) it.0 (λ _. it.1) in
          there_too old new id may.key r it.0 (has clean) it.1.stand mine spare.none_near m q is

      more : (h : Holdings) (k : Key) → HasCleanDisk new → IsTransactionOf cap old h →
          HasRowId old id k → IsTransactionOf cap new (with_records k (r ∷ []) h)
      more h k clean it under =
          let mine = may.is_under.there (was_clean clean) in
          let key : may.key ≡ k = one_key old.now.trees h it.stand id may.key k mine
          (under.there (was_clean clean)) in
          let spare = may.spare (was_clean clean) h (λ _. it) in
          subst (λ (q : Key). IsTransactionOf cap new (with_records q (r ∷ []) h)) key (record {
            is_open = (has clean).shown.is_open;
            inside = record_inside old new _ (has clean);
            stand = stand_more old new id may.key r h (has clean) it.stand mine spare.none_near;
            sound = add_stays_sound cap h may.key r it.sound may.is_under.key may.sound
                spare.none_near spare.below_cap spare.first;
            others = others_on old new (has clean).others (has clean).shown.committed_is it.others;
          })

  -- what is seen is kept where each recording holds a record
  kept_of : EachHasRecordIn cap old → HasCleanDisk old → (h : Holdings) →
      IsTransactionOf cap old h → RepresentCommitted cap old.now.trees h
  kept_of whole clean h it = record {
    stand = it.stand;
    sound = it.sound;
    each = λ id k is none. whole clean h id k (λ _. it) (record { key = is.key; there = λ _. is })
        (no_records (h k) (sym (it.stand.held id k is) ∙ none));
  }
    where
      no_records : (xs : List DataRecord) → map record_cells xs ≡ [] → xs ≡ []
      no_records [] e = refl
      no_records (x ∷ xs) e = absurd (let n : ◌≡◌ {A = ℕ} (length (map record_cells (x ∷ xs))) 0 =
          ap length e in omega (arith, n))

  pub committed_held : (HasCleanDisk new → Shows old new old.now old.now false) →
      EachHasRecordIn cap old → (h : Holdings) → AreSeen cap old h → AreHeld cap new h
  committed_held shows whole h seen clean is_open =
      subst (λ (d : Database). RepresentCommitted cap d.trees h) (sym (shows clean).committed_is)
      (kept_of whole (was_clean clean) h (seen (was_clean clean)))

  pub committed_sound : (HasCleanDisk new → Shows old new old.now old.now false) →
      EachHasRecordIn cap old → SeesSome cap old → IsSoundStore cap old → IsSoundStore cap new
  committed_sound shows whole running sound = record {
    cap_from = sound.cap_from;
    cap_to = sound.cap_to;
    schema = λ clean is_open. subst (λ (d : Database). HasBoth d.schema)
        (sym (shows clean).committed_is) (running (was_clean clean)).1.inside.schema;
    holdings = λ clean is_open. let it = running (was_clean clean) in
        (it.0, committed_held shows whole it.0 (λ _. it.1) clean is_open);
  }

-- a commit leaves what the transaction saw, in a crash too
pub seen_survives : (cap : ℕ) (old new : State) → Survives old new (λ db. db ≡ old.now.trees) →
    EachHasRecordIn cap old → Survives old new (AreSeenRows cap old)
seen_survives cap old new s whole =
    survives_weaker old new _ (AreSeenRows cap old) (λ clean db made h seen.
    let old_clean : HasCleanDisk old = omega (arith, s.clean) in
    subst (λ (t : Trees). RepresentCommitted cap t h) (sym made)
    (kept_of cap old new _ s whole old_clean h (seen old_clean))) s

module _ (cap : ℕ) (a b : State) (id : ℤ) (k : Key) (bytes : List ℕ) (is : bytes ≡ key_bytes k)
    (key : IsKey k) (one : Survives a b (λ _. ⊥)) (same : HasCleanDisk b →
    IsUnchanged a b) (running : SeesSome cap a) where
  -- a recording is found
  found_in : (HasCleanDisk b → IsIdIn (named bytes (a.now.trees 0)) (Some id)) → HasRowId b id k
  found_in has = record {
    key = key;
    there = λ clean.
        let it = running (omega (arith, one.clean)) in
        subst (λ (d : Database). HasRecordingRow d.trees id k) (sym (same clean).0.now_is)
        (found a.now.trees it.0 id k it.1.stand key
        (subst (λ (l : List ℕ). IsIdIn (named l (a.now.trees 0)) (Some id)) is (has clean)));
  }

  pub is_found : (HasCleanDisk b → IsIdIn (named bytes (a.now.trees 0)) (Some id)) →
      IsSelectedOrInsertedIn cap a b k id
  is_found has = record {
    has_row_id = found_in has;
    same = sees_on cap a b _ one same running;
    only = λ clean m q it. inl (none_made a b same clean m q it);
  }

  -- or made
  module _ (c : State) (two : Survives b c (λ _. ⊥)) (none : HasCleanDisk b →
      IsIdIn (named bytes (a.now.trees 0)) None)
      (made : HasCleanDisk c → HasRecording b c (named_cells bytes)
      × (id ≡ next_rowid (b.now.trees 0))) where
    clean_b : HasCleanDisk c → HasCleanDisk b
    clean_b clean = omega (arith, two.clean)

    clean_a : HasCleanDisk c → HasCleanDisk a
    clean_a clean = omega (arith, one.clean, two.clean)

    has : HasCleanDisk c → HasRecording b c (named_cells (key_bytes k))
    has clean = subst (λ (l : List ℕ). HasRecording b c (named_cells l)) is (made clean).0

    unnamed : HasCleanDisk c → named (key_bytes k) (b.now.trees 0) ≡ []
    unnamed clean = subst (λ (d : Database). named (key_bytes k) (d.trees 0) ≡ [])
        (sym (same (clean_b clean)).0.now_is)
        (subst (λ (l : List ℕ). named l (a.now.trees 0) ≡ []) is (none (clean_b clean)))

    moved : (h : Holdings) → HasCleanDisk c → IsTransactionOf cap a h → IsTransactionOf cap c h
    moved h clean it =
        let then = still_inside cap a b h (same (clean_b clean)) it in
        record {
          is_open = (has clean).shown.is_open;
          inside = recording_inside b c _ (has clean);
          stand = stand_named b c id k h (has clean) (made clean).1 then.stand key (unnamed clean);
          sound = it.sound;
          others = others_on b c (has clean).others (has clean).shown.committed_is then.others;
        }

    still_there : (m : ℤ) (q : Key) → HasCleanDisk c → HasRecordingRow b.now.trees m q →
        HasRecordingRow c.now.trees m q
    still_there m q clean it =
        let had = running (clean_a clean) in
        there_still b c id k had.0 (has clean) (made clean).1
        (still_inside cap a b had.0 (same (clean_b clean)) had.1).stand key (unnamed clean) m q it

    made_under : HasRowId c id k
    made_under = record {
      key = key;
      there = λ clean. let had = running (clean_a clean) in
          there_now b c id k had.0 (has clean) (made clean).1
          (still_inside cap a b had.0 (same (clean_b clean)) had.1).stand key (unnamed clean);
    }

    made_sees : StillSees cap a c
    made_sees = record {
      running = λ clean. let it = running (clean_a clean) in (it.0, moved it.0 clean it.1);
      holdings = λ h seen clean. moved h clean (seen (clean_a clean));
      ids = λ m q under. let on = still_under a b _ one same m q under in
          record {
            key = under.key;
            there = λ clean. still_there m q clean (on.there (clean_b clean));
          };
    }

    made_only : AddsOnlyRecordingIn k a c
    made_only clean m q it =
        let had = running (clean_a clean) in
        elim (there_cases b c id k had.0 (has clean) (made clean).1
        (still_inside cap a b had.0 (same (clean_b clean)) had.1).stand key (unnamed clean) m q
        it) [
          | inl p ↦ inr (sym (same-recordings id m k q key it.key
              (sym (ap (λ n. recording_cells n k) (sym (made clean).1)) ∙ p)).1)
          | inr was ↦ inl (subst (λ (d : Database). HasRecordingRow d.trees m q)
              (same (clean_b clean)).0.now_is was)
        ]

    pub is_made : IsSelectedOrInsertedIn cap a c k id
    is_made = record { has_row_id = made_under; same = made_sees; only = made_only }

    pub made_keeps : HasCleanDisk c → KeepsCommit a c
    made_keeps clean = keeps_then a b c (same_left a b (same (clean_b clean)))
        (recording_keeps b c _ (has clean))

-- the rows of a recording that is there rise
pub ready_in : (cap : ℕ) (s : State) (id : ℤ) (k : Key) → HasRowId s id k → SeesSome cap s →
    HasCleanDisk s → IsReady id s
ready_in cap s id k under running clean =
    let it = running clean in
    record {
      schema = it.1.inside.schema;
      rising =
          rows_rising s.now.trees cap it.0 id k it.1.stand it.1.sound (under.there clean);
    }

-- at most two are near
pub two_near : (cap : ℕ) (s : State) (id : ℤ) (k : Key) (start : ℕ) (records : List DataRecord) →
    HasRowId s id k → SeesSome cap s → HasCleanDisk s → AreNearIn cap s id start records →
    length records ≤ 2
two_near cap s id k start records under running clean near =
    let it = running clean in
    let most = near_two (duration_of k.duration) 0 start (it.0 k)
    ((IsGood-from_sound cap it.0 it.1.sound).apart k) in
    omega (arith, most, ap length (near it.0 k (λ _. it.1) under))

pub sound_near : (cap : ℕ) (h : Holdings) (k : Key) (d start : ℕ) → IsSound cap h →
    AllByRecursion (IsSoundRecord k) (overlapping d start (h k))
sound_near cap h k d start sound =
    all-filter (IsSoundRecord k) (intervals_overlap d start) (h k)
    (recursion_from_All (IsSoundRecord k) (h k) (sound.records k))

-- what is held when a transaction begins has a record in each recording
pub whole_begun : (cap : ℕ) (old new : State) (P : Trees → Type 0) → Survives old new P →
    (HasCleanDisk new → Shows old new old.now old.committed true) →
    (IsTrue old.is_open → old.now ≡ old.committed) → IsSoundStore cap old → EachHasRecordIn cap new
whole_begun cap old new P s shows settled sound clean h id k seen under none =
    let begun = shows clean in
    let kept = sound.holdings (omega (arith, s.clean)) begun.was_open in
    let same : new.now ≡ old.committed = begun.now_is ∙ settled begun.was_open in
    let there = subst (λ (d : Database). HasRecordingRow d.trees id k) same (under.there clean) in
    let shown = (seen clean).stand.held id k (under.there clean) in
    kept.1.each id k there (subst (λ (d : Database). records_in d.trees id ≡ map record_cells (h k))
    same shown ∙ ap (map record_cells) none)
