-- The candidates that stand in cells, one behind the other. Assumes nothing.
use Rattle.std.specs.Prelude.{ℕ, zero, suc, Bool, ◌&&◌, List, [], ◌∷◌, length, take, drop, Some, None, Option, ◌==◌, nat_le, slice_index_or}
use Rattle.std.specs.List.{flat_map}
use Rattle.hold.specs.Candidates.{Candidate}
use Rattle.cells.specs.declared.cell.Cell.{Cell}

-- the seven octets in a cell
abbrev pub octets_in : Cell → List ℕ
octets_in cell =
    let octet : ℕ → ℕ = λ k. slice_index_or cell.octets k 0 in
    octet 0 ∷ octet 1 ∷ octet 2 ∷ octet 3 ∷ octet 4 ∷ octet 5 ∷ octet 6 ∷ []

abbrev pub octets_of : List Cell → Candidate
octets_of cells = flat_map octets_in cells

-- how many codeblocks the candidate has that begins here
abbrev pub first_count : List Cell → ℕ
first_count [] = 0
first_count (cell ∷ cells) = cell.codeblocks

-- so many finished candidates, one behind the other
abbrev pub grouped : ℕ → List Cell → List Candidate
grouped zero cells = []
grouped (suc n) cells = octets_of (take (first_count cells) cells) ∷ grouped n (drop (first_count cells) cells)

-- the cells are those of so many candidates, of one codeblock at least
abbrev pub parted : ℕ → List Cell → Bool
parted zero cells = length cells == 0
parted (suc n) cells =
    nat_le 1 (first_count cells)
    && (nat_le (first_count cells) (length cells) && parted n (drop (first_count cells) cells))

-- how many codeblocks the open candidate has, and the candidate itself, which begins with these cells
abbrev pub added : Option ℕ → ℕ
added None = 0
added (Some n) = n

abbrev pub unfinished_in : Option ℕ → List Cell → Option Candidate
unfinished_in None cells = None
unfinished_in (Some n) cells = Some (octets_of (take n cells))
