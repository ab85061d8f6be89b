-- The reply to a submission and the holdings after it follow from the submission as parsed and from
-- the holdings before it.
use Rattle.std.specs.Prelude.{ℕ, ◌+◌, ◌-◌, Bool, not, ◌&&◌, ◌||◌, cond, nat_eq, nat_lt, nat_le}
use Rattle.std.specs.Prelude.{List, [], ◌∷◌, length, Option, Some, None, find}
use Rattle.std.specs.List.{list_all}
use Rattle.edf_field.specs.Number.{duration_of}
use Rattle.edf_header.specs.Key.{Key, IsKey}
use Rattle.edf_fragment.specs.Fragment.{DataRecord}
use Rattle.edf_fragment.specs.declared.fault.FragmentFault.{FragmentFault}
use Rattle.edf_fragment.specs.Parsed.{Parsed, Fragment, Fault}
use Rattle.edf_fragment.specs.Sound.{AreSoundFrom, FirstMayStart}
use Rattle.edf_holdings.specs.Clash.{clashes}
use Rattle.edf_holdings.specs.Rising.{union, count_new}
use Rattle.edf_holdings.specs.Holdings.{Holdings, with_records}

-- any fault; or a valid key, and sound records with the first of which its recording may start: by
-- a law bytes parse to nothing else
abbrev pub IsWellFormed : Parsed → Type 0
IsWellFormed (Fragment key records) = IsKey key × AreSoundFrom key 0 records
    × FirstMayStart key records
IsWellFormed (Fault fault) = Unit {0}

-- tests all pairs: no record of the second list clashes with one of the first
abbrev pub has_no_clash : ℕ → List DataRecord → List DataRecord → Bool
has_no_clash d xs records = list_all (λ r. list_all (λ s. not (clashes d r s)) xs) records

-- tests that none of the records clashes with one of the key's, and that all of them are held or
-- the key then has at most `cap`
abbrev pub fits : ℕ → Key → List DataRecord → Holdings → Bool
fits cap key records h =
    has_no_clash (duration_of key.duration) (h key) records
    && (nat_eq (count_new (h key) records) 0 || nat_le (length (union (h key) records)) cap)

-- a fragment that fits adds its records to those of its key; nothing else changes anything
unfoldable pub after_one : ℕ → Holdings → Parsed → Holdings
after_one cap h (Fragment key records) =
    cond (fits cap key records h) (with_records key records h) h
after_one cap h (Fault fault) = h

-- the holdings after a list: each submission is applied to those after the ones before it
abbrev pub after : ℕ → Holdings → List Parsed → Holdings
after cap h [] = h
after cap h (submission ∷ submissions) = after cap (after_one cap h submission) submissions

-- a fragment overlaps a stored record, with the starts of both; or differs from one with the same
-- start; or exceeds the cap, with the counts of held and of new records and the cap
pub data Conflict : Type 0 where
  Overlap : ℕ → ℕ → Conflict
  Differs : ℕ → Conflict
  Full : ℕ → ℕ → ℕ → Conflict

-- the reply is a fault of form, a conflict, or `Accepted` with the counts of new and known records
pub data Reply : Type 0 where
  Form : FragmentFault → Reply
  Conflicts : Conflict → Reply
  Accepted : Key → ℕ → ℕ → Reply

abbrev pub IsAccepted : Reply → Type 0
IsAccepted (Form fault) = ⊥
IsAccepted (Conflicts conflict) = ⊥
IsAccepted (Accepted key new known) = Unit {0}

-- the clash of r, if it has one, and else the later one
abbrev pub clash_or : DataRecord → Option DataRecord → Option (DataRecord × DataRecord) →
    Option (DataRecord × DataRecord)
clash_or r None later = later
clash_or r (Some s) later = Some (r, s)

-- finds the first of the second list that clashes with one of the first, and the first such one
abbrev pub first_clash : ℕ → List DataRecord → List DataRecord → Option (DataRecord × DataRecord)
first_clash d xs [] = None
first_clash d xs (r ∷ rs) = clash_or r (find (clashes d r) xs) (first_clash d xs rs)

-- tests that some are new, and that they are too many
abbrev pub exceeds_cap : ℕ → ℕ → ℕ → Bool
exceeds_cap cap held new = nat_lt 0 new && nat_lt cap (held + new)

-- replies where `held` are held and `new` of `all` would be new
abbrev pub reply_to_counts : ℕ → Key → ℕ → ℕ → ℕ → Reply
reply_to_counts cap key held new all =
    cond (exceeds_cap cap held new) (Conflicts (Full held new cap)) (Accepted key new (all - new))

-- names the clash of two records by their starts
abbrev pub conflict_of_clash : ℕ → ℕ → Conflict
conflict_of_clash start stored = cond (nat_eq start stored) (Differs start) (Overlap start stored)

-- replies where the key has xs, and this is the first clash or there is none
abbrev pub reply_to_clash : ℕ → Key → List DataRecord → List DataRecord →
    Option (DataRecord × DataRecord) → Reply
reply_to_clash cap key records xs (Some p) = Conflicts (conflict_of_clash p.0.start p.1.start)
reply_to_clash cap key records xs None =
    reply_to_counts cap key (length xs) (count_new xs records) (length records)

-- replies to a submission by its fault of form, else its first clash, else `Full`, else `Accepted`
unfoldable pub reply : ℕ → Holdings → Parsed → Reply
reply cap h (Fragment key records) =
    reply_to_clash cap key records (h key) (first_clash (duration_of key.duration) (h key) records)
reply cap h (Fault fault) = Form fault

-- replies to each submission of a list over the holdings after those before it
abbrev pub replies : ℕ → Holdings → List Parsed → List Reply
replies cap h [] = []
replies cap h (submission ∷ submissions) =
    reply cap h submission ∷ replies cap (after_one cap h submission) submissions
