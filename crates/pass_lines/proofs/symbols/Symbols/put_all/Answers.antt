-- One symbol more. Assumes nothing.
use Rattle.std.proofs.Common.{arith}
use Rattle.pass_lines.proofs.Receiving.{one_more_bit}
use Rattle.pass_lines.proofs.symbols.Symbols.put_all.Goals as goal

pub loop-bit-preserved : goal.loop-bit-preserved
loop-bit-preserved c = one_more_bit c.args.bits.now c.loop-bit.bit-index _ _ _ _ (omega arith) c.loop-bit.invariant c.in_ok-put.ensures
