-- The lines that are read so far. Assumes nothing.
use Rattle.std.proofs.Common.{◌≡◌, ◌+◌, ◌≤◌, length}
use Rattle.answered_lines.specs.Lines.{lines_of}
use Rattle.pass_lines.specs.Cltus.{lines_given, cltus_given, octets_of_each}
use Rattle.pass_lines.proofs.Reading.{behind}
use Rattle.pass_lines.proofs.input.read_cltus.Given as goal

abbrev pub invariant-loop-rest : goal.invariant-loop-rest
invariant-loop-rest l = record {
  counted : l.number + length l.rest ≤ length l.input;
  given : cltus_given l.sender l.input ≡ behind (octets_of_each l.cltus.items) (lines_given l.sender (l.number + 1) (lines_of l.rest));
}

abbrev pub decreases-loop-rest : goal.decreases-loop-rest
decreases-loop-rest l = length l.rest
