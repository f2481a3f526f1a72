-- One release more. Assumes nothing.
use Rattle.callers.proofs.Released.{none_released, one_more_released}
use Rattle.callers.proofs.command.release_all.Goals as goal

pub loop-init : goal.loop-init
loop-init g c = none_released g.H.Hold _

pub loop-preserved : goal.loop-preserved
loop-preserved g c = one_more_released g.H.Hold _ _ _ _ c.loop.invariant c.release.ensures.after
