-- How long the idle between two commands has to be. Assumes nothing.
use Rattle.std.specs.Prelude.{ℕ, ◌*◌, ◌≤◌}
use Rattle.cltu.specs.Limit.{codeblocks_allowed}
use Rattle.reception.specs.Runs.{recovery_bits}
use Rattle.guard_times.specs.declared.guard_time.GuardTime.{GuardTime}

-- as many bits of idle as bring a receiver of its mode and limit back to SEARCH
abbrev pub guard_bits : GuardTime → ℕ
guard_bits guard = recovery_bits guard.mode (codeblocks_allowed guard.limit)

-- the least number of which P holds
pub record IsLeast (P : ℕ → Type 0) (n : ℕ) : Type 0 where
  pub holds : P n
  pub least : (other : ℕ) → P other → n ≤ other

-- so many octets hold so many bits
abbrev pub HoldBits : (bits octets : ℕ) → Type 0
HoldBits bits octets = bits ≤ 8 * octets

-- at so many bits a second, so many bits pass in so many milliseconds: of these a second has a thousand
abbrev pub BitsPass : (rate bits milliseconds : ℕ) → Type 0
BitsPass rate bits milliseconds = 1000 * bits ≤ rate * milliseconds
