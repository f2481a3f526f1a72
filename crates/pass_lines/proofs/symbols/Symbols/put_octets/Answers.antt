-- One octet more. Assumes nothing.
use Rattle.std.proofs.Common.{arith}
use Rattle.pass_lines.proofs.Receiving.{one_more_octet}
use Rattle.pass_lines.proofs.symbols.Symbols.put_octets.Goals as goal

pub loop-octet-preserved : goal.loop-octet-preserved
loop-octet-preserved c =
    one_more_octet c.args.octets.now c.loop-octet.octet-index _ _ _ _ _ (omega arith) c.bits.ensures c.loop-octet.invariant c.in_ok-put_all.ensures
