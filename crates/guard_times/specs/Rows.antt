-- The rows of a table of guard times. Assumes nothing.
use Rattle.std.specs.Prelude.{◌≡◌, ℕ, List, [], ◌∷◌, ◌++◌, map, Option, Some, None, All}
use Rattle.std.specs.List.{flat_map}
use Rattle.bch.specs.declared.Mode.{Mode}
use Rattle.bch.specs.declared.Mode.TheVariants.{Detecting, Correcting}
use Rattle.cltu.specs.declared.limit.CodeblockLimit.{CodeblockLimit}
use Rattle.guard_times.specs.declared.bit_rate.BitRate.{BitRate}
use Rattle.guard_times.specs.declared.guard_time.GuardTime.{GuardTime}
use Rattle.guard_times.specs.declared.row.Row.{Row}
use Rattle.guard_times.specs.Rate.{bits_a_second}
use Rattle.guard_times.specs.Guard.{guard_bits, IsLeast, HoldBits, BitsPass}

-- milliseconds where there is a rate, and none where there is none
abbrev pub TellsMilliseconds : Option BitRate → (bits : ℕ) → Option ℕ → Type 0
TellsMilliseconds None bits milliseconds = milliseconds ≡ None
TellsMilliseconds (Some rate) bits None = ⊥
TellsMilliseconds (Some rate) bits (Some milliseconds) = IsLeast (BitsPass (bits_a_second rate) bits) milliseconds

-- a row tells the guard time of its limit and mode
pub record TellsItsGuard (rate : Option BitRate) (row : Row) : Type 0 where
  pub bits : row.bits ≡ guard_bits row.guard
  pub octets : IsLeast (HoldBits (guard_bits row.guard)) row.octets
  pub milliseconds : TellsMilliseconds rate (guard_bits row.guard) row.milliseconds

-- one mode, or both
abbrev pub modes_asked : Option Mode → List Mode
modes_asked None = Correcting ∷ Detecting ∷ []
modes_asked (Some mode) = mode ∷ []

-- a limit in these modes
abbrev pub guards_of_limit : Option Mode → CodeblockLimit → List GuardTime
guards_of_limit mode limit = map (λ one. record { mode = one; limit = limit }) (modes_asked mode)

-- the limits in the order in which they are asked for, each in correcting mode before detecting
abbrev pub guards_asked : Option Mode → List CodeblockLimit → List GuardTime
guards_asked mode limits = flat_map (guards_of_limit mode) limits

abbrev pub guard_of : Row → GuardTime
guard_of row = row.guard

-- a row for each of these guard times, in order
pub record AreRowsOf (guards : List GuardTime) (rate : Option BitRate) (rows : List Row) : Type 0 where
  pub guards_are : map guard_of rows ≡ guards
  pub tell : All (TellsItsGuard rate) rows

-- behind the rows come those of these guard times
pub record AddsRows (guards : List GuardTime) (rate : Option BitRate) (old new : List Row) : Type 0 where
  pub more : List Row
  pub behind : new ≡ old ++ more
  pub are : AreRowsOf guards rate more
