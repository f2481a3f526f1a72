-- So many links were followed. Assumes nothing.
use Rattle.std.proofs.Common.{◌≡◌}
use Rattle.chain.specs.Links.{after}
use Rattle.chain.proofs.chain.Chain.cell_after.Given as goal

abbrev pub invariant-loop-followed : goal.invariant-loop-followed
invariant-loop-followed l = l.place ≡ after l.followed l.self.cells.now l.self.first
