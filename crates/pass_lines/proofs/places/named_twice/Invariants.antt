-- No place so far is named again. Assumes nothing.
use Rattle.std.proofs.Common.{◌≡◌, length}
use Rattle.pass_lines.specs.Places.{named_twice}
use Rattle.pass_lines.proofs.places.named_twice.Given as goal

abbrev pub invariant-loop-rest : goal.invariant-loop-rest
invariant-loop-rest l = named_twice l.places ≡ named_twice l.rest

abbrev pub decreases-loop-rest : goal.decreases-loop-rest
decreases-loop-rest l = length l.rest
