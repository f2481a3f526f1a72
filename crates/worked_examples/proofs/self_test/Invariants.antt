use Rattle.std.proofs.Common.{take}
use Rattle.std.specs.List.{All}
use Rattle.worked_examples.specs.Vectors.{IsCodeblock, IsAcceptedByBothModes}
use Rattle.worked_examples.proofs.self_test.Given as goal

abbrev pub invariant-loop-place : goal.invariant-loop-place
invariant-loop-place l = record {
  codeblocks : All IsCodeblock (take l.place l.vectors);
  accepted : All IsAcceptedByBothModes (take l.place l.vectors);
}
