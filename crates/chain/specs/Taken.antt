-- Which cell a chain takes for a codeblock. Assumes nothing.
use Rattle.std.specs.Prelude.{◌≡◌, ℕ, ◌<◌, List, [], ◌∷◌, ◌++◌, length}
use Rattle.cells.specs.Held.{held_by}
use Rattle.chain.specs.declared.chain.Chain.{Chain}
use Rattle.chain.specs.Links.{cell_at, Node, nodes, times}

-- the cells that candidates have, those of the finished ones first and then those of the open one
abbrev pub taken_by : Chain → List Node
taken_by chain = nodes (held_by chain.counts) chain.cells.now chain.first

-- a codeblock goes into a cell that no candidate had, and all other cells are as they were
pub record TakesFree (old new : Chain) (octets : List ℕ) : Type 0 where
  pub cell : Node
  pub there : cell.place < length old.cells.now
  pub free : times cell.place (taken_by old) ≡ 0
  pub holds : cell.room.octets ≡ octets
  pub behind : taken_by new ≡ taken_by old ++ cell ∷ []
  pub others : (other : ℕ) → ¬ (other ≡ cell.place) → cell_at new.cells.now other ≡ cell_at old.cells.now other
