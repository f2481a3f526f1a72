-- The symbols that octets of each form are. Assumes nothing.
use Rattle.std.specs.Prelude.{ℕ, ◌≤◌, Bool, List, [], ◌∷◌, ◌==◌}
use Rattle.std.specs.List.{flat_map, AllByRecursion}
use Rattle.std.specs.Int.{w8, cast_signed}
use Rattle.bch.specs.Bits.{octet_bits}
use Rattle.searching.specs.Levels.{is_negative}
use Rattle.receive_lines.specs.declared.form.Form.{Form}
use Rattle.receive_lines.specs.declared.form.Form.TheVariants.{Packed, Bits, Levels}

-- eight symbols, the first of them the most significant bit; one, the octet itself; one, 1 where the octet, taken as a
-- signed one, is negative
abbrev pub symbols_in_octet : Form → ℕ → List Bool
symbols_in_octet Packed x = octet_bits x
symbols_in_octet Bits x = (x == 1) ∷ []
symbols_in_octet Levels x = is_negative (cast_signed w8 x) ∷ []

abbrev pub symbols_in_octets : Form → List ℕ → List Bool
symbols_in_octets form octets = flat_map (symbols_in_octet form) octets

-- an octet that is a bit is 0 or 1; in the other forms it may be any
abbrev pub IsOfForm : Form → ℕ → Type 0
IsOfForm Packed x = Unit {0}
IsOfForm Bits x = x ≤ 1
IsOfForm Levels x = Unit {0}

abbrev pub AreOfForm : Form → List ℕ → Type 0
AreOfForm form octets = AllByRecursion (IsOfForm form) octets
