-- One CLTU more. Assumes nothing.
use Rattle.std.proofs.Common.{arith}
use Rattle.pass_lines.proofs.Receiving.{one_more_cltu}
use Rattle.pass_lines.proofs.symbols.Symbols.put_cltus.Goals as goal

pub loop-cltu-preserved : goal.loop-cltu-preserved
loop-cltu-preserved c =
    one_more_cltu c.args.first c.args.guard c.args.cltus.now c.loop-cltu.cltu-index c.cltu-item.result c.as_slice.result.now _ _ _ _ (omega arith) c.cltu-item.is c.as_slice.ensures.value
    c.loop-cltu.invariant c.in_ok-put_idle.ensures c.in_ok-put_octets.ensures
