-- The octets so far have the sequence added, and the others are as they were. Assumes nothing.
use Rattle.std.proofs.Common.{◌≡◌, ◌++◌, take, drop}
use Rattle.randomizer.specs.declared.Randomizer.TheVariants.{On}
use Rattle.randomizer.specs.Sequence.{randomized_from}
use Rattle.derandomizing.proofs.derandomized.Given as goal

abbrev pub invariant-loop-i : goal.invariant-loop-i
invariant-loop-i l = l.octet-items ≡ randomized_from On l.place (take l.i l.fn.octets) ++ drop l.i l.fn.octets
