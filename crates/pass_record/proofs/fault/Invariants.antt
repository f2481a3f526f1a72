-- The entries before this one are right, and its segment is due at the place. Assumes nothing.
use Rattle.std.proofs.Common.{◌≡◌}
use Rattle.pass_record.specs.Faults.{due, RightTo}
use Rattle.pass_record.proofs.Laid.{LaidTo}
use Rattle.pass_record.proofs.fault.Given as goal

abbrev pub invariant-loop-i : goal.invariant-loop-i
invariant-loop-i l =
    record {
      laid : LaidTo l.octets l.i l.place;
      here : l.place ≡ due l.octets l.i;
      right : RightTo l.octets l.i;
    }
