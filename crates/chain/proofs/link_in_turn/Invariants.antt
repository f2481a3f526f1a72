-- The cells passed so far link on. Assumes nothing.
use Rattle.std.proofs.Common.{◌≡◌, ℕ, ◌+◌, ◌<◌}
use Rattle.chain.specs.Links.{cell_at}
use Rattle.chain.proofs.link_in_turn.Given as goal

abbrev pub invariant-loop-place : goal.invariant-loop-place
invariant-loop-place l = (place : ℕ) → place < l.place → (cell_at l.cells place).next ≡ place + 1
