-- The open candidate is counted among the finished ones. Assumes nothing.
use Rattle.std.proofs.Common.{refl, arith}
use Rattle.cells.proofs.Writes.{finishes}
use Rattle.cells.proofs.counts.Counts.finish.Goals as goal

pub returns : goal.returns
returns c =
    finishes c.args.self.now _ c.in-Some.codeblocks refl (omega (arith, c.saturating_add-self.ensures)) (omega (arith, c.saturating_add-self-2.ensures)) refl c.in-Some.is
    (omega (arith, c.if-codeblocks-eq0.false))
