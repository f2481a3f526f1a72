-- What holds after some of them. Assumes nothing.
use Rattle.std.proofs.Common.{◌≡◌, ◌+◌, map, length}
use Rattle.pass_record.specs.Segments.{symbols_in}
use Rattle.receive_lines.specs.Pass.{placed_segments}
use Rattle.receive_lines.specs.Releasing.{Passed}
use Rattle.receive_lines.proofs.receiving.Receiving.take_pass.Given as goal

abbrev pub invariant-loop-segment : goal.invariant-loop-segment
invariant-loop-segment g l = record {
  passed : Passed g.H.Hold (placed_segments l.initial.self.place.segment (map symbols_in l.yielded)) l.initial.self l.self;
  place : l.self.place.segment ≡ l.initial.self.place.segment + length l.yielded;
}
