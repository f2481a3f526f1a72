-- One bit of idle more. Assumes nothing.
use Rattle.std.proofs.Common.{arith}
use Rattle.pass_lines.proofs.Receiving.{one_more_idle_bit}
use Rattle.pass_lines.proofs.symbols.Symbols.put_idle.Goals as goal

pub loop-preserved : goal.loop-preserved
loop-preserved c =
    one_more_idle_bit c.args.first c.loop.bit c.args.count c.loop.counter _ _ _ (omega arith) c.loop.invariant c.in_ok-put.ensures
