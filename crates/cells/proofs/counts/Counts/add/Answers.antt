-- A codeblock is counted, or no cell is free. Assumes nothing.
use Rattle.std.proofs.Common.{ap, refl, arith}
use Rattle.cells.specs.Cells.{added}
use Rattle.cells.proofs.Writes.{adds, adds_full}
use Rattle.cells.proofs.counts.Counts.add.Goals as goal

pub returns-then-free_space-eq0 : goal.returns-then-free_space-eq0
returns-then-free_space-eq0 c = adds_full c.args.self.now c.in-Some.codeblocks c.in-Some.is (omega (arith, c.free_space.ensures.cells, c.if-free_space-eq0.true, ap added c.in-Some.is))

pub returns : goal.returns
returns c = adds c.args.self.now _ c.in-Some.codeblocks refl refl refl c.in-Some.is (omega (arith, c.free_space.ensures.cells, c.if-free_space-eq0.false, ap added c.in-Some.is)) refl
