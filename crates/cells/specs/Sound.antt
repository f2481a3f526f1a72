-- How many codeblocks the candidates in cells have, and that they are whole. Assumes nothing.
use Rattle.std.specs.Prelude.{◌≡◌, ℕ, zero, suc, ◌*◌, ◌<◌, ◌≤◌, true, List, [], ◌∷◌, length, take, drop, Some, None, Option, nat_le, refl}
use Rattle.std.proofs.Common.{sym, arith}
use Rattle.std.proofs.lemmas.List.{length-take-le, length-drop}
use Rattle.std.proofs.lemmas.Bool.{and_parts, leb-true, eqb-true}
use Rattle.hold.specs.Candidates.{finished_codeblocks, open_codeblocks, FinishedWhole, OpenWhole}
use Rattle.cells.specs.declared.cell.Cell.{Cell}
use Rattle.cells.specs.Cells.{octets_of, first_count, grouped, parted, added, unfinished_in}

pub length_octets_of : (cells : List Cell) → length (octets_of cells) ≡ 7 * length cells
length_octets_of [] = refl
length_octets_of (cell ∷ cells) = omega (arith, length_octets_of cells)

-- the first of several candidates, and those behind it
pub record Parts (n : ℕ) (cells : List Cell) : Type 0 where
  pub some : 0 < first_count cells
  pub within : first_count cells ≤ length cells
  pub rest : parted n (drop (first_count cells) cells) ≡ true

pub parts : (n : ℕ) (cells : List Cell) → parted (suc n) cells ≡ true → Parts n cells
parts n cells whole =
    let c = first_count cells in
    let one = and_parts (nat_le 1 c) _ whole in
    let two = and_parts (nat_le c (length cells)) _ one.1 in
    record { some = leb-true 1 c one.0; within = leb-true c (length cells) two.0; rest = two.1 }

pub length_octets_take : (n : ℕ) (cells : List Cell) → n ≤ length cells → length (octets_of (take n cells)) ≡ 7 * n
length_octets_take n cells h = omega (arith, length_octets_of (take n cells), length-take-le n cells h)

pub finished_codeblocks_grouped : (n : ℕ) (cells : List Cell) →
    parted n cells ≡ true → finished_codeblocks (grouped n cells) ≡ length cells
finished_codeblocks_grouped zero cells whole = sym (eqb-true (length cells) 0 whole)
finished_codeblocks_grouped (suc n) cells whole =
    let p = parts n cells whole in
    let c = first_count cells in
    let behind = finished_codeblocks_grouped n (drop c cells) p.rest in
    omega (arith, length_octets_take c cells p.within, behind, length-drop c cells)

pub finished_whole_grouped : (n : ℕ) (cells : List Cell) → parted n cells ≡ true → FinishedWhole (grouped n cells)
finished_whole_grouped zero cells whole = tt
finished_whole_grouped (suc n) cells whole =
    let p = parts n cells whole in
    let c = first_count cells in
    let long = length_octets_take c cells p.within in
    (omega arith, omega arith, finished_whole_grouped n (drop c cells) p.rest)

pub open_codeblocks_unfinished : (unfinished : Option ℕ) (cells : List Cell) →
    added unfinished ≤ length cells → open_codeblocks (unfinished_in unfinished cells) ≡ added unfinished
open_codeblocks_unfinished None cells h = refl
open_codeblocks_unfinished (Some n) cells h = omega (arith, length_octets_take n cells h)

pub open_whole_unfinished : (unfinished : Option ℕ) (cells : List Cell) →
    added unfinished ≤ length cells → OpenWhole (unfinished_in unfinished cells)
open_whole_unfinished None cells h = tt
open_whole_unfinished (Some n) cells h = omega (arith, length_octets_take n cells h)
