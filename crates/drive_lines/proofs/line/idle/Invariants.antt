-- The bits so far, in front of those to come, are all. Assumes nothing.
use Rattle.std.proofs.Common.{◌≡◌, ◌++◌, ◌-◌}
use Rattle.reception.specs.Runs.{idle}
use Rattle.drive_lines.proofs.line.idle.Given as goal

abbrev pub invariant-loop : goal.invariant-loop
invariant-loop l = l.bits.items ++ idle l.bit (l.count - l.counter) ≡ idle l.first l.count
