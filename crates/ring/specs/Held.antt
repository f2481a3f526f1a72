-- What a ring holds. Assumes nothing.
use Rattle.std.specs.Prelude.{ℕ, List, Option}
use Rattle.hold.specs.Candidates.{Candidate, Sound}
use Rattle.circular.specs.Turns.{in_turn as cells_in_turn}
use Rattle.cells.specs.declared.cell.Cell.{Cell}
use Rattle.cells.specs.Held.{finished_of, opened_of, sound}
use Rattle.ring.specs.declared.ring.Ring.{Ring}

-- every cell once, those of the oldest candidate first
abbrev pub in_turn : Ring → List Cell
in_turn ring = cells_in_turn ring.cells

abbrev pub capacity_of : Ring → ℕ
capacity_of ring = ring.counts.cells

abbrev pub finished_in : Ring → List Candidate
finished_in ring = finished_of ring.counts (in_turn ring)

abbrev pub opened_in : Ring → Option Candidate
opened_in ring = opened_of ring.counts (in_turn ring)

pub sound_ring : (ring : Ring) → Sound (capacity_of ring) (finished_in ring) (opened_in ring)
sound_ring ring = sound ring.counts (in_turn ring) ring.counted
