-- What a symbol is worth in a number. Assumes nothing.
use Rattle.std.specs.Prelude.{ℕ, Bool, cond}

abbrev pub bit_value : Bool → ℕ
bit_value b = cond b 1 0
