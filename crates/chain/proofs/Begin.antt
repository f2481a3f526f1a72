-- Cells that link each to the one that lies behind it. Assumes nothing.
use Rattle.std.proofs.Common.{◌≡◌, ℕ, zero, suc, ◌+◌, ◌<◌, ◌≤◌, cond, eqb, ltb, leb, ◌&&◌, List, length, take, length-take, refl, ap, ◌∙◌, arith}
use Rattle.chain.specs.declared.chain.LinkedCell.{LinkedCell as Cell}
use Rattle.chain.specs.Links.{Chained, LinkInTurn, cell_at, nodes, times, EachOnce}

-- how often a cell is among so many that lie behind one another
module _ (cells : List Cell) (in_turn : (place : ℕ) → place < length cells → (cell_at cells place).next ≡ place + 1) where
  one_or_none : (x n place : ℕ) (rest : ℕ) → rest ≡ cond (leb (place + 1) x && ltb x (place + 1 + n)) 1 0 →
      cond (eqb place x) 1 0 + rest ≡ cond (leb place x && ltb x (place + suc n)) 1 0
  one_or_none x n place rest e = grind arith

  counted_from : (x n place : ℕ) → place + n ≤ length cells → times x (nodes n cells place) ≡ cond (leb place x && ltb x (place + n)) 1 0
  counted_from x zero place h = grind arith
  counted_from x (suc n) place h =
      one_or_none x n place _
      (ap (λ k. times x (nodes n cells k)) (in_turn place (omega arith)) ∙ counted_from x n (place + 1) (omega arith))

  from_start : (x n : ℕ) → cond {A = ℕ} (leb 0 x && ltb x (0 + n)) 1 0 ≡ cond (ltb x n) 1 0
  from_start x n = grind arith

  each_once : EachOnce (length cells) (nodes (length cells) cells 0)
  each_once x = counted_from x (length cells) 0 (omega arith) ∙ from_start x (length cells)

  all_chained : Chained cells 0 0 0 0 0 0 0 0
  all_chained =
      record {
        each_once = each_once;
        ends = refl;
        opens = refl;
        frees = refl;
        finishes = λ h. refl;
        holds = λ h. refl;
      }

pub new_chained : (cells : List Cell) → LinkInTurn cells → Chained cells 0 0 0 0 0 0 0 0
unfolding LinkInTurn
new_chained cells in_turn = all_chained cells in_turn

pub few_taken : (n : ℕ) (cells : List Cell) → length (take n cells) ≤ n
few_taken n cells = omega (arith, length-take n cells)
