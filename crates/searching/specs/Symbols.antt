-- The bits that symbols of a kind count as. Assumes nothing.
use Rattle.std.specs.Prelude.{Bool, List, map}
use Rattle.searching.specs.declared.Symbol.{Ghosts}

abbrev pub decisions : {Y : Type 0} → Ghosts Y → List Y → List Bool
decisions kind symbols = map kind.bit symbols
