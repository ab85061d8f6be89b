-- What is held after a list, by the members that were accepted.
use Rattle.std.proofs.Common.{◌≡◌, ℕ, ◌⊎◌, List, [], ◌∷◌, ◌++◌, refl, sym, ap, subst, inl, inr}
use Rattle.std.proofs.lemmas.Bool.{cond-true, cond-false, cases_Bool, both_ways}
use Rattle.edf_header.specs.Key.{Key}
use Rattle.edf_fragment.specs.Fragment.{DataRecord}
use Rattle.edf_fragment.specs.Parsed.{Parsed, Fragment, Fault}
use Rattle.edf_holdings.specs.Holdings.{Holdings, with_records}
use Rattle.edf_holdings.specs.Reply.{IsWellFormed, fits, after_one, after, reply, IsAccepted}
use Rattle.edf_holdings.specs.ConflictFree.{HasRecordUnder}
use Rattle.edf_holdings.specs.Laws.{AreWellFormed}
use Rattle.edf_holdings.specs.Meaning.{FromAccepted, AfterHasAccepted, RefusedChangesNothing}
use Rattle.edf_holdings.proofs.Members.{In, in_joined}
use Rattle.edf_holdings.proofs.Joining.{IsGood, IsGood-from_sound, In-from_Contains}
use Rattle.edf_holdings.proofs.Joining.{Contains-from_In, put_cases, MayJoin-from_fits}
use Rattle.edf_holdings.proofs.Joining.{fits_from_MayJoin}
use Rattle.edf_holdings.proofs.Settled.{IsGood-one, IsGood-after, after-append, after_grows}
use Rattle.edf_holdings.proofs.Settled.{sound_front, sound_back}
use Rattle.edf_holdings.proofs.Replies.{accepted_from_MayJoin, MayJoin-from_accepted}
use Rattle.edf_holdings.proofs.ConflictFree.{put_has}

-- one submission
record Met (cap : ℕ) (h : Holdings) (t : Parsed) : Type 0 where
  same : (IsAccepted (reply cap h t) → ⊥) → after_one cap h t ≡ h
  adds : (k : Key) (y : DataRecord) → In y (after_one cap h t k) → In y (h k)
      ⊎ (IsAccepted (reply cap h t) × HasRecordUnder k y t)
  has : (k : Key) (y : DataRecord) → IsAccepted (reply cap h t) → HasRecordUnder k y t →
      In y (after_one cap h t k)

met : (cap : ℕ) (h : Holdings) (t : Parsed) → IsWellFormed t → IsGood cap h → Met cap h t
unfolding after_one
met cap h (Fault fault) w g = record {
  same = λ _. refl;
  adds = λ k y m. inl m;
  has = λ k y i s. absurd s;
}
met cap h (Fragment key records) w g = elim (cases_Bool (fits cap key records h)) [
  | inl t ↦
      let a : after_one cap h (Fragment key records) ≡ with_records key records h =
      cond-true (fits cap key records h) (with_records key records h) h t in
      let i : IsAccepted (reply cap h (Fragment key records)) =
      subst IsAccepted (sym (accepted_from_MayJoin cap h key records w g
      (MayJoin-from_fits cap key records h t))) tt in
      record {
        same = λ n. absurd (n i);
        adds = λ k y m. put_cases key records h (λ q l. In y l → In y (h q)
            ⊎ (IsAccepted (reply cap h (Fragment key records))
            × HasRecordUnder q y (Fragment key records)))
            (λ p. elim (in_joined y (h key) records p) [
              | inl q ↦ inl q
              | inr q ↦
                  inr (i, (refl, Contains-from_In records y q))
            ])
            (λ q p. inl p) k (subst (λ (z : Holdings). In y (z k)) a m);
        has = λ k y _ s. subst (λ (z : Holdings). In y (z k)) (sym a) (put_has h key records k y s);
      }
  | inr t ↦
      let a : after_one cap h (Fragment key records) ≡ h =
      cond-false (fits cap key records h) (with_records key records h) h t in
      let n : IsAccepted (reply cap h (Fragment key records)) → ⊥ =
      λ i. both_ways _ t (fits_from_MayJoin cap key records h
      (MayJoin-from_accepted cap h key records w g i)) in
      record {
        same = λ _. a;
        adds = λ k y m. inl (subst (λ (z : Holdings). In y (z k)) a m);
        has = λ k y i s. absurd (n i);
      }
]

pub refused_changes_nothing : RefusedChangesNothing
refused_changes_nothing cap h t s w n = (met cap h t w (IsGood-from_sound cap h s)).same n

-- lists
in_after : (cap : ℕ) (h : Holdings) (ts : List Parsed) (k : Key) (r : DataRecord) →
    AreWellFormed ts →
    IsGood cap h → In r (after cap h ts k) → In r (h k) ⊎ FromAccepted cap h ts k r
in_after cap h [] k r w g m = inl m
in_after cap h (t ∷ ts) k r w g m =
    elim (in_after cap (after_one cap h t) ts k r w.1 (IsGood-one cap h t w.0 g) m) [
      | inr a ↦ inr (record {
        before = t ∷ a.before;
        member = a.member;
        later = a.later;
        splits =
            ap (λ l. t ∷ l) a.splits;
        accepted = a.accepted;
        has = a.has;
      })
      | inl n ↦ elim ((met cap h t w.0 g).adds k r n) [
        | inl p ↦ inl p
        | inr p ↦ inr (record {
          before = [];
          member = t;
          later = ts;
          splits = refl;
          accepted = p.0;
          has = p.1;
        })
      ]
    ]

after_has : (cap : ℕ) (h : Holdings) (ts : List Parsed) (k : Key) (r : DataRecord) →
    AreWellFormed ts → IsGood cap h → FromAccepted cap h ts k r → In r (after cap h ts k)
after_has cap h ts k r w g a =
    subst (λ (l : List Parsed). In r (after cap h l k)) (sym a.splits)
    (subst (λ (z : Holdings). In r (z k)) (sym (after-append cap h a.before (a.member ∷ a.later)))
    (after_grows cap (after_one cap (after cap h a.before) a.member) a.later k r
    ((met cap (after cap h a.before) a.member (sound_back a.before (a.member ∷ a.later) v).0
    (IsGood-after cap h a.before (sound_front a.before (a.member ∷ a.later) v) g)).has k r
    a.accepted a.has)))
  where
    v : AreWellFormed (a.before ++ (a.member ∷ a.later))
    v = subst AreWellFormed a.splits w

pub after_has_accepted : AfterHasAccepted
after_has_accepted cap h ts k r s w =
    let g = IsGood-from_sound cap h s in (
      (λ m. elim (in_after cap h ts k r w g (In-from_Contains (after cap h ts k) r m)) [
        | inl n ↦
            inl (Contains-from_In (h k) r n)
        | inr a ↦ inr a
      ]),
      (λ m. Contains-from_In (after cap h ts k) r
          (elim m [
            | inl n ↦ after_grows cap h ts k r (In-from_Contains (h k) r n)
            | inr a ↦
                after_has cap h ts k r w g a
          ])),
    )
