-- Searching: the window in which a start sequence is looked for. Nothing here knows of codeblocks or of a hold.
-- Assumes nothing.
use Rattle.std.specs.Prelude.{ℕ, suc, ◌+◌, ◌*◌, ◌%◌, ◌^◌, min, Bool, ◌&&◌, ◌==◌, nat_le}
use Rattle.bch.specs.declared.Mode.{Mode}
use Rattle.bch.specs.declared.Mode.TheVariants.{Detecting, Correcting}
use Rattle.bch.specs.Polynomial.{◌⊕◌, weight}
use Rattle.reception.specs.Symbols.{bit_value}

-- the window keeps the last 16 symbols, as a number with the first of them highest; with it goes how many symbols
-- entered, up to 16
abbrev pub next_count : ℕ → ℕ
next_count count = min 16 (suc count)

abbrev pub next_window : ℕ → Bool → ℕ
next_window window b = (2 * window + bit_value b) % 2 ^ 16

-- in how many bits a start sequence may be wrong
abbrev pub start_tolerance : Mode → ℕ
start_tolerance Correcting = 1
start_tolerance Detecting = 0

-- a full window that differs from the start sequence EB 90 in no more bits than the mode allows
abbrev pub is_start : Mode → (count window : ℕ) → Bool
is_start mode count window = count == 16 && nat_le (weight 16 (window ⊕ 0xEB90)) (start_tolerance mode)
