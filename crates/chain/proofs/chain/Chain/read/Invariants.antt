-- What is read so far is the front of the stretch, and the cell is the one of the octet that comes next. Assumes nothing.
use Rattle.std.proofs.Common.{◌≡◌, ◌+◌, ◌/◌, take, drop}
use Rattle.cells.specs.Held.{oldest_of}
use Rattle.chain.specs.Links.{after}
use Rattle.chain.specs.Held.{finished_in}
use Rattle.chain.proofs.chain.Chain.read.Given as goal

abbrev pub invariant-loop-i : goal.invariant-loop-i
invariant-loop-i l =
    record {
      read : take l.i l.memory ≡ take l.i (drop l.place (oldest_of (finished_in l.self)));
      at : l.cell ≡ after ((l.place + l.i) / 7) l.self.cells.now l.self.first;
    }
