-- As many cells as links lead to. Assumes nothing.
use Rattle.std.specs.Prelude.{◌≡◌, ℕ, zero, suc, List, length, refl}
use Rattle.std.proofs.Common.{ap}
use Rattle.chain.specs.declared.chain.LinkedCell.{LinkedCell as Cell}
use Rattle.chain.specs.Links.{cell_at, nodes, rooms}

pub length_rooms : (n : ℕ) (cells : List Cell) (place : ℕ) → length (rooms (nodes n cells place)) ≡ n
length_rooms zero cells place = refl
length_rooms (suc n) cells place = ap suc (length_rooms n cells (cell_at cells place).next)
