-- The status that a program ends with. Assumes nothing.
use Rattle.std.specs.Prelude.{ℕ, Result, Ok, Err}
use Rattle.command_line.specs.declared.failure.Failure.{Failure}
use Rattle.command_line.specs.declared.failure.Failure.TheVariants.{Arguments, Work}

-- 2 where the arguments are wrong, and 1 where the work failed
abbrev pub failure_status : Failure → ℕ
failure_status (Arguments _) = 2
failure_status (Work _) = 1

-- 0 where the work was done
abbrev pub status_of : {A : Type 0} → Result A Failure → ℕ
status_of (Ok _) = 0
status_of (Err failure) = failure_status failure
