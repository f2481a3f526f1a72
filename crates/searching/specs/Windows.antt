-- What a window keeps. Assumes nothing.
use Rattle.std.specs.Prelude.{ℕ}
use Rattle.searching.specs.declared.Window.{Window}

-- how many symbols entered, up to 16, and the last of them as a number, the first of them highest
abbrev pub entered : Window → ℕ
entered window = window.count

abbrev pub last_bits : Window → ℕ
last_bits window = window.bits
