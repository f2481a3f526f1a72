-- What a hold of one cell holds. Assumes nothing.
use Rattle.std.specs.Prelude.{◌≡◌, List, [], ◌∷◌, length, Some, None, Option}
use Rattle.std.proofs.Common.{arith}
use Rattle.hold.specs.Candidates.{Candidate, Sound}
use Rattle.one_cell.specs.declared.cell.Held.{Held}
use Rattle.one_cell.specs.declared.cell.Held.TheVariants.{Nothing, Open, Added, Finished, FinishedAndOpen}
use Rattle.one_cell.specs.declared.cell.OneCell.{OneCell}

-- the finished candidates where the cell has these octets, and the open candidate
abbrev pub finished_with : Candidate → Held → List Candidate
finished_with octets Nothing = []
finished_with octets Open = []
finished_with octets Added = []
finished_with octets Finished = octets ∷ []
finished_with octets FinishedAndOpen = octets ∷ []

abbrev pub opened_with : Candidate → Held → Option Candidate
opened_with octets Nothing = None
opened_with octets Open = Some []
opened_with octets Added = Some octets
opened_with octets Finished = None
opened_with octets FinishedAndOpen = Some []

abbrev pub finished_in : OneCell → List Candidate
finished_in cell = finished_with cell.octets cell.held

abbrev pub opened_in : OneCell → Option Candidate
opened_in cell = opened_with cell.octets cell.held

-- seven octets are one whole codeblock
sound_with : (octets : Candidate) (held : Held) → length octets ≡ 7 →
    Sound 1 (finished_with octets held) (opened_with octets held)
sound_with octets Nothing seven = record { within = omega arith; finished_whole = tt; open_whole = tt }
sound_with octets Open seven = record { within = omega arith; finished_whole = tt; open_whole = omega arith }
sound_with octets Added seven = record { within = omega arith; finished_whole = tt; open_whole = omega arith }
sound_with octets Finished seven =
    record { within = omega arith; finished_whole = (omega arith, omega arith, tt); open_whole = tt }
sound_with octets FinishedAndOpen seven =
    record { within = omega arith; finished_whole = (omega arith, omega arith, tt); open_whole = omega arith }

pub sound_cell : (cell : OneCell) → Sound 1 (finished_in cell) (opened_in cell)
sound_cell cell = sound_with cell.octets cell.held cell.seven
