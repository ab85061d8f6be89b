-- Exit statuses: their numbers, and the status for a refusal's number.
use Rattle.std.specs.Prelude.{ℕ, ◌==◌, ◌&&◌, ◌||◌, Bool, nat_le, nat_lt, if◌then◌else◌}
use Rattle.edf_cli.specs.declared.status.Status.{Status}
use Rattle.edf_cli.specs.declared.status.Status.TheVariants.{Done, Refused, Usage, Trouble}

abbrev pub exit_code : Status → ℕ
exit_code Done = 0
exit_code Refused = 1
exit_code Usage = 2
exit_code Trouble = 3

-- the worse of two statuses: that with the higher number
abbrev pub worse : Status → Status → Status
worse status other = if nat_lt (exit_code status) (exit_code other) then other else status

-- E40 to E43 and E45
abbrev pub is_trouble : ℕ → Bool
is_trouble n = (nat_le 40 n && nat_le n 43) || n == 45

abbrev pub status_of_number : ℕ → Status
status_of_number n = if is_trouble n then Trouble else Refused
