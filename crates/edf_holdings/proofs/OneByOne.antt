-- A fragment's records met one by one: what was read, what was put in, and what is answered at the
-- end.
use Rattle.std.proofs.Common.{◌≡◌, ℕ, ◌+◌, ◌<◌, ◌≤◌, Bool, true, false}
use Rattle.std.proofs.Common.{List, [], ◌∷◌, ◌++◌, length, Option, Some, None, refl, sym, ap, subst}
use Rattle.std.proofs.Common.{◌∙◌, inl, inr, arith, find, length-append}
use Rattle.std.specs.Option.{option_or}
use Rattle.std.proofs.lemmas.Bool.{cond-true, cond-false, false_from_ne_true}
use mathlib.Core.Path.{fun_ext}
use Rattle.edf_field.specs.Number.{duration_of}
use Rattle.edf_header.specs.Key.{Key, IsKey}
use Rattle.edf_fragment.specs.Fragment.{DataRecord}
use Rattle.edf_fragment.specs.Parsed.{Fragment}
use Rattle.edf_holdings.specs.Same.{same_key}
use Rattle.edf_holdings.specs.Clash.{clashes, overlapping, first_other}
use Rattle.edf_holdings.specs.Rising.{contains_record, insert, union, count_new, StartsAreSpaced}
use Rattle.edf_holdings.specs.Holdings.{Holdings, with_records}
use Rattle.edf_holdings.specs.Reply.{IsWellFormed, after_one, Conflicts, conflict_of_clash}
use Rattle.edf_holdings.specs.Reply.{clash_or}
use Rattle.edf_holdings.specs.Reply.{first_clash, reply_to_counts, reply_to_clash, reply, fits}
use Rattle.edf_holdings.proofs.Same.{same_key-true, clashes-true}
use Rattle.edf_holdings.proofs.Members.{In, Within, In-from_holds, joined_keeps, inserted_held}
use Rattle.edf_holdings.proofs.Members.{apart_joined, length_joined}
use Rattle.edf_holdings.proofs.Joining.{IsGood, fits_from_MayJoin, put_here, lasting, apart-sound}
use Rattle.edf_holdings.proofs.Replies.{AreFree-from_first, by-counts}
use Rattle.edf_holdings.proofs.Near.{earliest_near, earliest_joined, held_near, held_joined}
use Rattle.edf_holdings.proofs.Near.{joined-append, new_of-append, first_clash-append}

-- one record more, after those of a list

apart_last : (d low : ℕ) (rs : List DataRecord) (r : DataRecord) →
    StartsAreSpaced d low (rs ++ r ∷ []) → low ≤ r.start
apart_last d low [] r a = a.0
apart_last d low (q ∷ qs) r a = omega (arith, a.0, apart_last d (q.start + d) qs r a.1)

later : (d low : ℕ) (rs : List DataRecord) (r : DataRecord) → StartsAreSpaced d low (rs ++ r ∷ []) →
    (q : DataRecord) → In q rs → q.start + d ≤ r.start
later d low [] r a q m = absurd m
later d low (p ∷ ps) r a q (inl e) =
    subst (λ (u : DataRecord). u.start + d ≤ r.start) e (apart_last d (p.start + d) ps r a.1)
later d low (p ∷ ps) r a q (inr m) = later d (p.start + d) ps r a.1 q m

pub apart_front : (d low : ℕ) (rs qs : List DataRecord) → StartsAreSpaced d low (rs ++ qs) →
    StartsAreSpaced d low rs
apart_front d low [] qs a = tt
apart_front d low (r ∷ rs) qs a = (a.0, apart_front d (r.start + d) rs qs a.1)

in_left : (y : DataRecord) (xs ys : List DataRecord) → In y xs → In y (xs ++ ys)
in_left y [] ys m = absurd m
in_left y (x ∷ xs) ys (inl e) = inl e
in_left y (x ∷ xs) ys (inr m) = inr (in_left y xs ys m)

in_snoc : (y r : DataRecord) (ps rs : List DataRecord) → Within ps rs → In y (ps ++ r ∷ []) →
    In y (rs ++ r ∷ [])
in_snoc y r [] [] w m = m
in_snoc y r [] (q ∷ qs) w m = inr (in_snoc y r [] qs (λ z n. absurd n) m)
in_snoc y r (p ∷ ps) rs w (inl e) = in_left y rs (r ∷ []) (w y (inl e))
in_snoc y r (p ∷ ps) rs w (inr m) = in_snoc y r ps rs (λ z n. w z (inr n)) m

-- records put in one after the other are put in together
pub put-append : (key : Key) (ps : List DataRecord) (r : DataRecord) (h : Holdings) →
    with_records key (r ∷ []) (with_records key ps h) ≡ with_records key (ps ++ r ∷ []) h
put-append key ps r h = fun_ext (λ k. step k (same_key key k) refl)
  where
    step : (k : Key) (b : Bool) → same_key key k ≡ b →
        with_records key (r ∷ []) (with_records key ps h) k ≡ with_records key (ps ++ r ∷ []) h k
    step k true e =
        cond-true (same_key key k) (union (with_records key ps h k) (r ∷ []))
        (with_records key ps h k) e
        ∙ (ap (insert r) (cond-true (same_key key k) (union (h k) ps) (h k) e)
        ∙ (sym (joined-append (h k) ps r)
        ∙ sym (cond-true (same_key key k) (union (h k) (ps ++ r ∷ [])) (h k) e)))
    step k false e =
        cond-false (same_key key k) (union (with_records key ps h k) (r ∷ []))
        (with_records key ps h k) e ∙ (cond-false (same_key key k) (union (h k) ps) (h k) e
        ∙ sym (cond-false (same_key key k) (union (h k) (ps ++ r ∷ [])) (h k) e))

put_same : (key : Key) (ps qs : List DataRecord) (h : Holdings) →
    union (h key) ps ≡ union (h key) qs → with_records key ps h ≡ with_records key qs h
put_same key ps qs h e = fun_ext (λ k. step k (same_key key k) refl)
  where
    step : (k : Key) (b : Bool) → same_key key k ≡ b →
        with_records key ps h k ≡ with_records key qs h k
    step k true s =
        let p : key ≡ k = same_key-true key k s in
        subst (λ (q : Key). with_records key ps h q ≡ with_records key qs h q) p (put_here key ps h
        ∙ (e ∙ sym (put_here key qs h)))
    step k false s = cond-false (same_key key k) (union (h k) ps) (h k) s
        ∙ sym (cond-false (same_key key k) (union (h k) qs) (h k) s)

put_none : (key : Key) (h : Holdings) → with_records key [] h ≡ h
put_none key h = fun_ext (λ k. step k (same_key key k) refl)
  where
    step : (k : Key) (b : Bool) → same_key key k ≡ b → with_records key [] h k ≡ h k
    step k true e = cond-true (same_key key k) (h k) (h k) e
    step k false e = cond-false (same_key key k) (h k) (h k) e

-- h was held at the start, the records rs of the key were read, and t is held now: nothing clashed,
-- and what is new was put in as far as there is room
pub record Taken (cap : ℕ) (key : Key) (h : Holdings) (rs : List DataRecord) (t : Holdings)
    (new known : ℕ) : Type 0 where
  pub free : first_clash (duration_of key.duration) (h key) rs ≡ None
  pub new_is : new ≡ count_new (h key) rs
  pub all : known + new ≡ length rs
  pub put_in : List DataRecord
  pub part : Within put_in rs
  pub table : t ≡ with_records key put_in h
  pub whole : length (h key) + new ≤ cap → t ≡ with_records key rs h

-- or a first clash was met, at these starts
pub record Stopped (key : Key) (h : Holdings) (rs : List DataRecord) (starts : ℕ × ℕ) : Type 0 where
  pub pair : DataRecord × DataRecord
  pub first : first_clash (duration_of key.duration) (h key) rs ≡ Some pair
  pub start : starts.0 ≡ pair.0.start
  pub stored : starts.1 ≡ pair.1.start

abbrev pub TakenOrStopped : (cap : ℕ) (key : Key) (h : Holdings) (rs : List DataRecord)
    (t : Holdings)
    (new known : ℕ) → Option (ℕ × ℕ) → Type 0
TakenOrStopped cap key h rs t new known None = Taken cap key h rs t new known
TakenOrStopped cap key h rs t new known (Some starts) = Stopped key h rs starts

pub nothing_read : (cap : ℕ) (key : Key) (h : Holdings) → Taken cap key h [] h 0 0
nothing_read cap key h = record {
  free = refl;
  new_is = refl;
  all = refl;
  put_in = [];
  part = λ y m. absurd m;
  table = sym (put_none key h);
  whole = λ _. sym (put_none key h);
}

-- after a clash nothing that follows counts
pub still_stopped : (key : Key) (h : Holdings) (rs : List DataRecord) (r : DataRecord) (starts : ℕ
    × ℕ) → Stopped key h rs starts → Stopped key h (rs ++ r ∷ []) starts
still_stopped key h rs r starts c = record {
  pair = c.pair;
  first = first_clash-append d (h key) rs (r ∷ [])
      ∙ ap (λ (o : Option (DataRecord × DataRecord)). option_or o (first_clash d (h key) (r ∷ [])))
      c.first;
  start = c.start;
  stored = c.stored;
}
  where
    d : ℕ
    d = duration_of key.duration

-- one record more
module _ (cap : ℕ) (key : Key) (h : Holdings) (is_key : IsKey key)
    (held : StartsAreSpaced (duration_of key.duration) 0 (h key)) (rs : List DataRecord)
    (r : DataRecord)
    (a : StartsAreSpaced (duration_of key.duration) 0 (rs ++ r ∷ [])) (t : Holdings) (new known : ℕ)
    (k : Taken cap key h rs t new known) where
  here : t key ≡ union (h key) k.put_in
  here = ap (λ (z : Holdings). z key) k.table ∙ put_here key k.put_in h

  no_clash_with : (q : DataRecord) → In q k.put_in → clashes (duration_of key.duration) r q ≡ false
  no_clash_with q m = false_from_ne_true _ (λ e.
      absurd (omega (
        arith,
        later (duration_of key.duration) 0 rs r a q (k.part q m),
        (clashes-true (duration_of key.duration) r q e).1,
      )))

  not_in : In r k.put_in → ⊥
  not_in m = omega (
    arith,
    later (duration_of key.duration) 0 rs r a r (k.part r m),
    lasting key is_key,
  )

  -- what the records near it say is what those say that were held at the start
  pub near_other : first_other r (overlapping (duration_of key.duration) r.start (t key)) ≡ find
      (clashes (duration_of key.duration) r) (h key)
  near_other = sym (earliest_near (duration_of key.duration) r (t key))
      ∙ (ap (find (clashes (duration_of key.duration) r)) here
      ∙ earliest_joined (duration_of key.duration) r (h key) k.put_in no_clash_with)

  pub near_holds : contains_record (overlapping (duration_of key.duration) r.start (t key))
      r ≡ contains_record (h key) r
  near_holds = held_near (duration_of key.duration) r (t key) (lasting key is_key)
      ∙ (ap (λ (l : List DataRecord). contains_record l r) here
      ∙ held_joined r (h key) k.put_in not_in)

  first_next : first_clash (duration_of key.duration) (h key) (rs
      ++ r ∷ []) ≡ clash_or r (find (clashes (duration_of key.duration) r) (h key)) None
  first_next = first_clash-append (duration_of key.duration) (h key) rs (r ∷ [])
      ∙ ap (λ (o : Option (DataRecord × DataRecord)).
      option_or o (first_clash (duration_of key.duration) (h key) (r ∷ []))) k.free

  none_next : first_other r (overlapping (duration_of key.duration) r.start (t key)) ≡ None →
      first_clash (duration_of key.duration) (h key) (rs ++ r ∷ []) ≡ None
  none_next e = first_next ∙ ap (λ (o : Option DataRecord). clash_or r o None) (sym near_other ∙ e)

  -- another record is near it
  pub after_clash : (s : DataRecord) →
      first_other r (overlapping (duration_of key.duration) r.start (t key)) ≡ Some s →
      Stopped key h (rs ++ r ∷ []) (r.start, s.start)
  after_clash s e = record {
    pair = (r, s);
    first = first_next ∙ ap (λ (o : Option DataRecord). clash_or r o None) (sym near_other ∙ e);
    start = refl;
    stored = refl;
  }

  -- it is there itself
  pub after_known : first_other r (overlapping (duration_of key.duration) r.start (t key)) ≡ None →
      contains_record (overlapping (duration_of key.duration) r.start (t key)) r ≡ true →
      Taken cap key h (rs ++ r ∷ []) t new (known + 1)
  after_known e there_near = record {
    free = none_next e;
    new_is = k.new_is ∙ sym (new_of-append (h key) rs r
        ∙ cond-true (contains_record (h key) r) (count_new (h key) rs)
        (count_new (h key) rs + 1) there);
    all = omega (arith, k.all, length-append rs (r ∷ []));
    put_in = k.put_in;
    part = λ y m. in_left y rs (r ∷ []) (k.part y m);
    table = k.table;
    whole = λ l. k.whole l ∙ same;
  }
    where
      there : contains_record (h key) r ≡ true
      there = sym near_holds ∙ there_near

      all_apart : StartsAreSpaced (duration_of key.duration) 0 (union (h key) rs)
      all_apart = apart_joined (duration_of key.duration) 0 (h key) rs held
          (apart_front (duration_of key.duration) 0 rs (r ∷ []) a)
          (AreFree-from_first (duration_of key.duration) (h key) rs k.free)

      same : with_records key rs h ≡ with_records key (rs ++ r ∷ []) h
      same = put_same key rs (rs ++ r ∷ []) h
          (sym (joined-append (h key) rs r
          ∙ inserted_held (duration_of key.duration) 0 r (union (h key) rs) (lasting key is_key)
          all_apart (joined_keeps (h key) rs r (In-from_holds (h key) r there))))

  is_new : overlapping (duration_of key.duration) r.start (t key) ≡ [] →
      contains_record (h key) r ≡ false
  is_new e = sym near_holds ∙ ap (λ (l : List DataRecord). contains_record l r) e

  new_next : overlapping (duration_of key.duration) r.start (t key) ≡ [] →
      new + 1 ≡ count_new (h key) (rs ++ r ∷ [])
  new_next e = ap (λ n. n + 1) k.new_is
      ∙ sym (new_of-append (h key) rs r
      ∙ cond-false (contains_record (h key) r) (count_new (h key) rs) (count_new (h key) rs + 1)
      (is_new e))

  -- nothing is near it, and it is put in
  pub after_added : (t' : Holdings) → overlapping (duration_of key.duration) r.start (t key) ≡ [] →
      length (h key) + new < cap → t' ≡ with_records key (r ∷ []) t →
      Taken cap key h (rs ++ r ∷ []) t' (new + 1) known
  after_added t' e l f = record {
    free = none_next (ap (first_other r) e);
    new_is = new_next e;
    all = omega (arith, k.all, length-append rs (r ∷ []));
    put_in = k.put_in ++ r ∷ [];
    part = λ y m. in_snoc y r k.put_in rs k.part m;
    table = f ∙ (ap (with_records key (r ∷ [])) k.table ∙ put-append key k.put_in r h);
    whole = λ _. f ∙ (ap (with_records key (r ∷ [])) (k.whole (omega arith))
        ∙ put-append key rs r h);
  }

  -- nothing is near it, and there is no room
  pub after_full : overlapping (duration_of key.duration) r.start (t key) ≡ [] →
      cap ≤ length (h key) + new → Taken cap key h (rs ++ r ∷ []) t (new + 1) known
  after_full e l = record {
    free = none_next (ap (first_other r) e);
    new_is = new_next e;
    all = omega (arith, k.all, length-append rs (r ∷ []));
    put_in = k.put_in;
    part = λ y m. in_left y rs (r ∷ []) (k.part y m);
    table = k.table;
    whole = λ m. absurd (omega arith);
  }

-- while there is room, the key has what it held and what is new
pub taken_room : (cap : ℕ) (key : Key) (h : Holdings) (rs : List DataRecord) (t : Holdings)
    (new known : ℕ) → IsKey key → StartsAreSpaced (duration_of key.duration) 0 (h key) →
    StartsAreSpaced (duration_of key.duration) 0 rs
    → Taken cap key h rs t new known → length (h key) + new < cap → length (t key) < cap
taken_room cap key h rs t new known is_key held a k l =
    omega (
      arith,
      ap (λ (z : Holdings). length (z key)) (k.whole (omega arith)),
      ap (λ (y : List DataRecord). length y) (put_here key rs h),
      length_joined (duration_of key.duration) 0 0 (h key) rs (lasting key is_key) a held
          (AreFree-from_first (duration_of key.duration) (h key) rs k.free),
      k.new_is,
    )

-- the answers at the end

pub reply_stopped : (cap : ℕ) (key : Key) (h : Holdings) (rs : List DataRecord) (starts : ℕ × ℕ) →
    Stopped key h rs starts
    → reply cap h (Fragment key rs) ≡ Conflicts (conflict_of_clash starts.0 starts.1)
unfolding reply
reply_stopped cap key h rs starts k = ap (reply_to_clash cap key rs (h key)) k.first
    ∙ cc (k.start, k.stored)

-- by the counts, where no clash was met
pub reply_counted : (cap : ℕ) (key : Key) (h : Holdings) (rs : List DataRecord) (t : Holdings)
    (new known : ℕ) → Taken cap key h rs t new known →
    reply cap h (Fragment key rs) ≡ reply_to_counts cap key (length (h key)) new (known + new)
reply_counted cap key h rs t new known k =
    by-counts cap h key rs k.free
    ∙ (ap (λ n. reply_to_counts cap key (length (h key)) n (length rs)) (sym k.new_is)
    ∙ ap (λ n. reply_to_counts cap key (length (h key)) new n) (sym k.all))

-- and what is held then is what the fragment leaves
pub after_accepted : (cap : ℕ) (key : Key) (h : Holdings) (rs : List DataRecord) (t : Holdings)
    (new known : ℕ) → IsWellFormed (Fragment key rs) → IsGood cap h →
    Taken cap key h rs t new known → length (h key) + new ≤ cap
    → t ≡ after_one cap h (Fragment key rs)
unfolding after_one
after_accepted cap key h rs t new known w g k l =
    k.whole l ∙ sym (cond-true (fits cap key rs h) (with_records key rs h) h
    (fits_from_MayJoin cap key rs h (record {
      free = AreFree-from_first d (h key) rs k.free;
      within_cap = inr (omega (
        arith,
        length_joined d 0 0 (h key) rs (lasting key w.0)
            (apart-sound key 0 rs w.1) (g.apart key) (AreFree-from_first d (h key) rs k.free),
        k.new_is,
      ));
    })))
  where
    d : ℕ
    d = duration_of key.duration
