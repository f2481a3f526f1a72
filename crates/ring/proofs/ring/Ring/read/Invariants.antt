-- What is read so far is the front of the stretch. Assumes nothing.
use Rattle.std.proofs.Common.{◌≡◌, take, drop}
use Rattle.cells.specs.Held.{oldest_of}
use Rattle.ring.specs.Held.{finished_in}
use Rattle.ring.proofs.ring.Ring.read.Given as goal

abbrev pub invariant-loop-i : goal.invariant-loop-i
invariant-loop-i l = take l.i l.memory ≡ take l.i (drop l.place (oldest_of (finished_in l.self)))
