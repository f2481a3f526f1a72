-- The rows so far are those of the limits so far. Assumes nothing.
use Rattle.std.proofs.Common.{take}
use Rattle.guard_times.specs.Rows.{AreRowsOf, guards_asked}
use Rattle.guard_times.proofs.asked.Asked.rows.Given as goal

abbrev pub invariant-loop-limit : goal.invariant-loop-limit
invariant-loop-limit l =
    AreRowsOf (guards_asked l.self.mode (take l.limit-index l.self.limits.items)) l.self.rate l.rows.items
