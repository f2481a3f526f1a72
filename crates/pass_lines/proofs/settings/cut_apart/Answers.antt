-- A segment is not longer than what is left. Assumes nothing.
use Rattle.std.proofs.Common.{arith}
use Rattle.pass_lines.proofs.CutApart.{long_enough}
use Rattle.pass_lines.proofs.settings.cut_apart.Goals as goal

pub overflow_mul-len : goal.overflow_mul-len
overflow_mul-len c =
    let long = long_enough c.args.guard c.args.cltus.now c.loop-cltu.cltu-index c.cltu-item.result (omega arith) c.cltu-item.is c.loop-cltu.rest.now c.loop-cltu.invariant.left in
    omega (arith, long)

pub overflow_add-guard : goal.overflow_add-guard
overflow_add-guard c =
    let long = long_enough c.args.guard c.args.cltus.now c.loop-cltu.cltu-index c.cltu-item.result (omega arith) c.cltu-item.is c.loop-cltu.rest.now c.loop-cltu.invariant.left in
    omega (arith, long)
