-- The data records of a fragment, met one by one in a transaction.
use Rattle.std.proofs.Common.{◌≡◌, ◌⊎◌, ℕ, ◌+◌, ◌-◌, ◌<◌, ◌≤◌, List, [], ◌∷◌, ◌++◌, length, Option}
use Rattle.std.proofs.Common.{Some, None, sym, subst, inl, inr, arith}
use Rattle.std.proofs.lemmas.Bool.{cases_lt}
use Rattle.sqlite_trees.specs.declared.store.Store.{Ghosts}
use Rattle.sqlite.specs.State.{HasCleanDisk}
use Rattle.edf_field.specs.Number.{duration_of}
use Rattle.edf_header.specs.Key.{Key, IsKey}
use Rattle.edf_header.specs.Header.{Layout}
use Rattle.edf_fragment.specs.Fragment.{DataRecord}
use Rattle.edf_fragment.specs.Whole.{HasReadRecords}
use Rattle.edf_fragment.specs.declared.advance.Progress.{Progress}
use Rattle.edf_holdings.specs.Clash.{overlapping}
use Rattle.edf_holdings.specs.Rising.{StartsAreSpaced}
use Rattle.edf_holdings.specs.Holdings.{Holdings}
use Rattle.edf_holdings.proofs.OneByOne.{Taken, Stopped, TakenOrStopped, still_stopped, after_clash}
use Rattle.edf_holdings.proofs.OneByOne.{after_known, after_added, after_full}
use Rattle.edf_store.specs.Held.{StoreModel, at}
use Rattle.edf_store.specs.Transaction.{Sees}
use Rattle.edf_intake.specs.Inside.Verdict.{IsVerdict, IsSpare, TakesVerdict, TakesNext}
use Rattle.edf_intake.specs.declared.data_records.Verdict.{Verdict}
use Rattle.edf_intake.specs.declared.data_records.Verdict.TheVariants.{Clashes, Known, New}
use Rattle.edf_intake.specs.declared.data_records.Starts.{Starts}
use Rattle.edf_intake.specs.declared.data_records.Findings.{Findings}

abbrev pub starts_of : Option Starts → Option (ℕ × ℕ)
starts_of None = None
starts_of (Some s) = Some (s.start, s.stored)

-- h was held at the start, these records were met, and t is held now
abbrev pub Met : ℕ → Key → Holdings → List DataRecord → Holdings → Findings → Type 0
Met cap key h records t findings = TakenOrStopped cap key h records t findings.new findings.known
    (starts_of findings.clash)

-- the same, where some records of the fragment were read
pub record MetSoFar {S : Type 0} (g : Ghosts S) (first now : StoreModel S) (l : Layout)
    (left rest : Option (List ℕ)) (p : Progress) (findings : Findings) : Type 0 where
  pub records : List DataRecord
  pub read : HasReadRecords l left rest records p
  pub met : HasCleanDisk (at g now) → (h : Holdings) → Sees g first h → (t : Holdings)
      × Sees g now t × Met first.cap l.key h records t findings
  pub counted : findings.new + findings.known ≤ p.given

-- less room than there is makes no difference, if it is more than was needed so far
counts_wider : (spare full asked : ℕ) (key : Key) (r : DataRecord) (near : List DataRecord)
    (h : Holdings) (from : Findings) (t : Holdings) (to : Findings) (verdict : Verdict) →
    spare ≤ full → (spare ≡ full) ⊎ (asked ≤ spare) → from.new < asked
    → TakesVerdict spare key r near h from t to verdict →
    TakesVerdict full key r near h from t to verdict
counts_wider spare full asked key r near h from t to (Clashes stored) low enough below c = c
counts_wider spare full asked key r near h from t to Known low enough below c = c
counts_wider spare full asked key r near h from t to New low enough below (added, past, is) = (
  (λ l. added (elim enough [
    | inl same ↦ omega (arith, l, same)
    | inr many ↦ omega (arith, below, many)
  ])),
  (λ l. past (omega (arith, low, l))),
  is,
)

next_wider : (spare full asked : ℕ) (key : Key) (r : DataRecord) (h : Holdings) (new known : ℕ)
    (clash : Option Starts) (t : Holdings) (to : Findings) → spare ≤ full → (spare ≡ full)
    ⊎ (asked ≤ spare) → new < asked
    → TakesNext spare key r h (record { new = new; known = known; clash = clash }) t to →
    TakesNext full key r h (record { new = new; known = known; clash = clash }) t to
next_wider spare full asked key r h new known None t to low enough below (verdict, is, counts) = (
  verdict,
  is,
  counts_wider spare full asked key r (overlapping (duration_of key.duration) r.start (h key)) h
      (record { new = new; known = known; clash = None }) t to verdict low enough below counts,
)
next_wider spare full asked key r h new known (Some s) t to low enough below same = same

-- the same for all the room that there is, where what was found is enough
pub next_in_all : (cap held asked spare : ℕ) (key : Key) (r : DataRecord) (h : Holdings)
    (from : Findings) (t : Holdings) (to : Findings) → IsSpare cap held asked spare →
    from.new < asked → TakesNext spare key r h from t to → TakesNext (cap - held) key r h from t to
next_in_all cap held asked spare key r h from t to it below next =
    next_wider spare (cap - held) asked key r h from.new from.known from.clash t to
    (omega (arith, it.fits))
    (elim it.enough [ inl all ↦ inl (omega (arith, all)) | inr many ↦ inr many ]) below next

-- one record more
module _ (cap spare : ℕ) (key : Key) (h : Holdings) (is_key : IsKey key)
    (held : StartsAreSpaced (duration_of key.duration) 0 (h key))
    (space : length (h key) + spare ≡ cap)
    (rs : List DataRecord) (r : DataRecord)
    (a : StartsAreSpaced (duration_of key.duration) 0 (rs ++ r ∷ [])) (t : Holdings) where
  counted_next : (new known : ℕ) (t' : Holdings) (to : Findings) (verdict : Verdict) →
      Taken cap key h rs t new known
      → IsVerdict r (overlapping (duration_of key.duration) r.start (t key)) verdict
      → TakesVerdict spare key r (overlapping (duration_of key.duration) r.start (t key)) t
      (record { new = new; known = known; clash = None }) t' to verdict
      → Met cap key h (rs ++ r ∷ []) t' to
  counted_next new known t' to (Clashes stored) k (s, e, q) (same, is) =
      subst (Met cap key h (rs ++ r ∷ []) t') (sym is)
      (subst (λ (n : ℕ). Stopped key h (rs ++ r ∷ []) (r.start, n)) (sym q)
      (after_clash cap key h is_key held rs r a t new known k s e))
  counted_next new known t' to Known k (e, there) (same, is) =
      subst (Met cap key h (rs ++ r ∷ []) t') (sym is)
      (subst (λ (z : Holdings). Taken cap key h (rs ++ r ∷ []) z new (known + 1)) (sym same)
      (after_known cap key h is_key held rs r a t new known k e there))
  counted_next new known t' to New k none (added, full, is) =
      subst (Met cap key h (rs ++ r ∷ []) t') (sym is)
      (elim (cases_lt new spare) [
        | inl low ↦ after_added cap key h is_key held rs r a t new known k t' none
            (omega (arith, low, space)) (added low)
        | inr high ↦ subst (λ (z : Holdings). Taken cap key h (rs ++ r ∷ []) z (new + 1) known)
            (sym (full high))
            (after_full cap key h is_key held rs r a t new known k none
            (omega (arith, high, space)))
      ])

  next_of : (new known : ℕ) (clash : Option Starts) (t' : Holdings) (to : Findings) →
      TakenOrStopped cap key h rs t new known (starts_of clash)
      → TakesNext spare key r t (record { new = new; known = known; clash = clash }) t' to →
      Met cap key h (rs ++ r ∷ []) t' to
  next_of new known None t' to k (verdict, is, counts) =
      counted_next new known t' to verdict k is counts
  next_of new known (Some s) t' to k same = subst (Met cap key h (rs ++ r ∷ []) t') (sym same)
      (still_stopped key h rs r (s.start, s.stored) k)

  pub met_next : (from : Findings) (t' : Holdings) (to : Findings) → Met cap key h rs t from →
      TakesNext spare key r t from t' to → Met cap key h (rs ++ r ∷ []) t' to
  met_next from t' to k next = next_of from.new from.known from.clash t' to k next
