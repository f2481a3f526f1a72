-- The codeblocks that are put so far, and the rest of the memory as it was. Assumes nothing.
use Rattle.std.proofs.Common.{◌≡◌, ◌*◌, ◌++◌, drop}
use Rattle.randomizer.specs.Sequence.{randomized}
use Rattle.cltu.specs.Cltu.{filled, coded}
use Rattle.cltu.proofs.Outgoing.put_codeblocks.Given as goal

abbrev pub invariant-loop-index : goal.invariant-loop-index
invariant-loop-index l = l.memory ≡ coded l.index (randomized l.self.randomizer (filled l.self.frame.now)) ++ drop (8 * l.index) l.initial.memory
