-- Idle, bit by bit. Assumes nothing.
use Rattle.std.proofs.Common.{arith}
use Rattle.callers.proofs.Idle.{none_so_far, one_bit_more, all_idle}
use Rattle.callers.proofs.recovery.write_idle.Goals as goal

pub loop-place-init : goal.loop-place-init
loop-place-init c = none_so_far _ _

pub loop-place-preserved : goal.loop-place-preserved
loop-place-preserved c = one_bit_more _ _ _ _ _ (omega arith) c.loop-place.invariant

pub returns : goal.returns
returns c = all_idle _ _ _ _ _ (omega arith) c.loop-place.invariant (omega arith)
