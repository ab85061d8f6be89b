-- Replies and holdings of small lists, computed.
use Rattle.std.proofs.Common.{◌≡◌, ℕ, false, List, [], ◌∷◌, refl, map}
use Rattle.std.specs.Prelude.{codes}
use Rattle.edf_header.specs.Key.{Key}
use Rattle.edf_fragment.specs.Fragment.{DataRecord}
use Rattle.edf_fragment.specs.declared.fault.FragmentFault.TheVariants.{Trailing}
use Rattle.edf_fragment.specs.Parsed.{Parsed, Fragment, Fault}
use Rattle.edf_holdings.specs.Same.{same_key, same_record}
use Rattle.edf_holdings.specs.Clash.{clashes}
use Rattle.edf_holdings.specs.Holdings.{nothing_held}
use Rattle.edf_holdings.specs.Reply.{after_one, after, Form, Conflicts, Overlap, Differs, Full}
use Rattle.edf_holdings.specs.Reply.{Accepted, reply, replies}

-- keys of a record duration of 10 nanoseconds, and fragments of records that begin at these starts
-- and have this byte
abbrev key : ℕ → Key
key n = record {
  patient = n ∷ [];
  dated = false;
  after = [];
  duration = codes "0.00000001";
  signals = [];
}

abbrev one : ℕ → ℕ → DataRecord
one sample start = record { start = start; samples = sample ∷ []; annotations = [] }

abbrev told : ℕ → ℕ → List ℕ → Parsed
told k sample starts = Fragment (key k) (map (one sample) starts)

-- the same again
twice : replies 9 nothing_held (told 1 7 (100 ∷ []) ∷ told 1 7 (100 ∷ []) ∷ []) ≡ Accepted (key 1) 1
    0 ∷ Accepted (key 1) 0 1 ∷ []
unfolding reply after_one same_key same_record clashes
twice = refl

-- an overlap, other samples at the same start, a touch after and one before
conflicts : replies 9 nothing_held (told 1 7 (100 ∷ []) ∷ told 1 7 (90 ∷ 105 ∷ []) ∷ told 1 8
    (100 ∷ []) ∷ told 1 7 (110 ∷ []) ∷ told 1 7 (90 ∷ []) ∷ [])
    ≡ Accepted (key 1) 1 0 ∷ Conflicts (Overlap 105 100) ∷ Conflicts (Differs 100)
    ∷ Accepted (key 1) 1 0 ∷ Accepted (key 1) 1 0 ∷ []
unfolding reply after_one same_key same_record clashes
conflicts = refl

-- no room: what is known is accepted all the same, and another recording is taken
full : replies 2 nothing_held (told 1 7 (10 ∷ []) ∷ told 1 7 (20 ∷ []) ∷ told 1 7 (30 ∷ []) ∷ told 1
    7 (10 ∷ []) ∷ told 2 7 (30 ∷ []) ∷ Fault Trailing ∷ [])
    ≡ Accepted (key 1) 1 0 ∷ Accepted (key 1) 1 0 ∷ Conflicts (Full 2 1 2) ∷ Accepted (key 1) 0 1
    ∷ Accepted (key 2) 1 0 ∷ Form Trailing ∷ []
unfolding reply after_one same_key same_record clashes
full = refl

-- a record that overlaps two names the earliest
earliest : replies 9 nothing_held (told 1 7 (100 ∷ 110 ∷ []) ∷ told 1 7 (105 ∷ []) ∷ []) ≡ Accepted
    (key 1) 2 0 ∷ Conflicts (Overlap 105 100) ∷ []
unfolding reply after_one same_key same_record clashes
earliest = refl

-- by rising starts, whatever the order
rises : after 9 nothing_held (told 1 7 (110 ∷ []) ∷ told 1 7 (90 ∷ 100 ∷ 110 ∷ []) ∷ [])
    (key 1) ≡ one 7 90 ∷ one 7 100 ∷ one 7 110 ∷ []
unfolding after_one same_key same_record clashes
rises = refl

-- a repeat of what was refused with `Full` may be refused for a clash
full_then_overlap : replies 2 nothing_held
    (told 1 7 (100 ∷ []) ∷ told 1 7 (200 ∷ 300 ∷ []) ∷ told 1 7 (205 ∷ []) ∷ told 1 7
    (200 ∷ 300 ∷ []) ∷ [])
    ≡ Accepted (key 1) 1 0 ∷ Conflicts (Full 1 2 2) ∷ Accepted (key 1) 1 0
    ∷ Conflicts (Overlap 200 205) ∷ []
unfolding reply after_one same_key same_record clashes
full_then_overlap = refl

-- where there is no room for all, a list isn't free, and the order counts
in_order : after 2 nothing_held (told 1 7 (10 ∷ []) ∷ told 1 7 (20 ∷ []) ∷ told 1 7 (30 ∷ []) ∷ [])
    (key 1) ≡ one 7 10 ∷ one 7 20 ∷ []
unfolding after_one same_key same_record clashes
in_order = refl

in_reverse : after 2 nothing_held (told 1 7 (30 ∷ []) ∷ told 1 7 (20 ∷ []) ∷ told 1 7
    (10 ∷ []) ∷ []) (key 1) ≡ one 7 20 ∷ one 7 30 ∷ []
unfolding after_one same_key same_record clashes
in_reverse = refl
