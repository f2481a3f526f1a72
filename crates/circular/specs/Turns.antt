-- What a circle of lent cells holds, in its turn. Assumes nothing.
use Rattle.std.specs.Prelude.{ℕ, List}
use Rattle.circular.specs.Circle.{round_from}
use Rattle.circular.specs.declared.circle.Circle.{Circle}

-- what every cell holds once, from the first on
abbrev pub in_turn : {X : Type 0} → Circle X → List X
in_turn circle = round_from circle.first circle.cells.now

-- the lent cells as they lie in memory, and the place of the cell whose turn is first
abbrev pub memory_of : {X : Type 0} → Circle X → List X
memory_of circle = circle.cells.now

abbrev pub first_of : {X : Type 0} → Circle X → ℕ
first_of circle = circle.first
