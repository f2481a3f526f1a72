-- Idle so far, and its next bit. Assumes nothing.
use Rattle.callers.proofs.Idle.{IdleSoFar}
use Rattle.callers.proofs.recovery.write_idle.Given as goal

abbrev pub invariant-loop-place : goal.invariant-loop-place
invariant-loop-place l = IdleSoFar l.first l.bit l.place-index l.initial.memory l.memory
