-- So many releases so far. Assumes nothing.
use Rattle.callers.proofs.Released.{ReleasedSoFar}
use Rattle.callers.proofs.command.release_all.Given as goal

abbrev pub invariant-loop : goal.invariant-loop
invariant-loop g l = ReleasedSoFar g.H.Hold l.counter l.initial.receiver l.receiver
