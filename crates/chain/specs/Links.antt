-- Cells in the order of their links. Assumes nothing.
use Rattle.std.specs.Prelude.{◌≡◌, ℕ, zero, suc, ◌+◌, ◌-◌, ◌<◌, Bool, true, cond, ◌&&◌, List, [], ◌∷◌, map, length, drop, ◌==◌, nat_lt, slice_index_or, slice_set}
use Rattle.cells.specs.declared.cell.Cell.{Cell as Room}
use Rattle.cells.specs.Cells.{first_count}
use Rattle.cells.specs.Held.{blank as no_room}
use Rattle.chain.specs.declared.chain.LinkedCell.{LinkedCell as Cell}

abbrev pub blank : Cell
blank = record { room = no_room; last = 0; next = 0 }

abbrev pub cell_at : List Cell → ℕ → Cell
cell_at cells place = slice_index_or cells place blank

-- the place of the cell to which so many links lead from a place
abbrev pub after : ℕ → List Cell → ℕ → ℕ
after zero cells place = place
after (suc n) cells place = after n cells (cell_at cells place).next

-- a cell: its place, and what it holds beside its link
pub record Node : Type 0 where
  pub place : ℕ
  pub room : Room
  pub last : ℕ

abbrev pub node_of : ℕ → Cell → Node
node_of place cell = record { place = place; room = cell.room; last = cell.last }

-- so many cells from a place on, each the one to which the one before links
abbrev pub nodes : ℕ → List Cell → ℕ → List Node
nodes zero cells place = []
nodes (suc n) cells place = node_of place (cell_at cells place) ∷ nodes n cells (cell_at cells place).next

abbrev pub rooms : List Node → List Room
rooms list = map (λ node. node.room) list

-- what every cell holds, from a first one on by the links
abbrev pub in_turn : List Cell → ℕ → List Room
in_turn cells first = rooms (nodes (length cells) cells first)

-- how often a cell is in a list
abbrev pub times : ℕ → List Node → ℕ
times place [] = 0
times place (node ∷ list) = cond (node.place == place) 1 0 + times place list

-- each of so many cells is in the list once, and no other: none is lost, and none is there twice
abbrev pub EachOnce : ℕ → List Node → Type 0
EachOnce count list = (place : ℕ) → times place list ≡ cond (nat_lt place count) 1 0

-- stands past the end of a list
abbrev pub no_node : Node
no_node = record { place = 0; room = no_room; last = 0 }

-- the place of a cell of a list
abbrev pub place_in : List Node → ℕ → ℕ
place_in list k = (slice_index_or list k no_node).place

-- the first cell of each of so many candidates has the place of the candidate's last one
abbrev pub last_cells_noted : ℕ → List Node → Bool
last_cells_noted zero list = true
last_cells_noted (suc n) list =
    let count : ℕ = first_count (rooms list) in
    (slice_index_or list 0 no_node).last == place_in list (count - 1) && last_cells_noted n (drop count list)

-- each cell links to the one that lies behind it
unfoldable pub LinkInTurn : List Cell → Type 0
LinkInTurn cells = (place : ℕ) → place < length cells → (cell_at cells place).next ≡ place + 1

-- cells of which one links to another cell
abbrev pub relinked : (cells : List Cell) (place next : ℕ) → List Cell
relinked cells place next = slice_set cells place (record (cell_at cells place) { next = next })

-- cells of which one holds another codeblock
unfoldable pub filled : (cells : List Cell) (place : ℕ) (codeblock : Room) → List Cell
filled cells place codeblock = slice_set cells place (record (cell_at cells place) { room = codeblock })

-- cells of which one has a candidate's codeblocks and last cell
unfoldable pub noted : (cells : List Cell) (place codeblocks last : ℕ) → List Cell
noted cells place codeblocks last =
    let room : Room = record { octets = (cell_at cells place).room.octets; codeblocks = codeblocks } in
    slice_set cells place (record (cell_at cells place) { room = room; last = last })

-- cells of which those from the first to an end come behind the last held one and before the first free one,
-- and which comes first then
unfoldable pub moved_behind : (cells : List Cell) (first end last_held first_free : ℕ) → List Cell
moved_behind cells first end last_held first_free = relinked (relinked cells last_held first) end first_free

unfoldable pub first_behind : (cells : List Cell) (first end last_held : ℕ) → ℕ
first_behind cells first end last_held = (cell_at (relinked cells last_held first) end).next

-- what a chain keeps of its cells, by how many the finished candidates have, how many of these wait, and how many cells
-- the open one has
pub record Chained (cells : List Cell) (first first_open first_free last_finished last_held used waiting opened : ℕ)
    : Type 0 where
  -- by the links from the first cell on, every cell comes once
  pub each_once : EachOnce (length cells) (nodes (length cells) cells first)
  -- those of the finished candidates come first, then those of the open one, then the free ones
  pub ends : last_cells_noted waiting (nodes used cells first) ≡ true
  pub opens : first_open ≡ after used cells first
  pub frees : first_free ≡ after (used + opened) cells first
  pub finishes : 0 < used → last_finished ≡ after (used - 1) cells first
  pub holds : 0 < used + opened → last_held ≡ after (used + opened - 1) cells first
