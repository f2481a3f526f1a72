-- The rate of a link. Assumes nothing.
use Rattle.std.specs.Prelude.{ℕ}
use Rattle.guard_times.specs.declared.bit_rate.BitRate.{BitRate}

-- how many bits it sends in a second
abbrev pub bits_a_second : BitRate → ℕ
bits_a_second rate = rate.bits
