-- The idle sent so far, and the bit that comes next. Assumes nothing.
use Rattle.std.proofs.Common.{◌≡◌, ◌-◌, Bool, List, ◌++◌}
use Rattle.reception.specs.Runs.{idle}
use Rattle.pass_lines.specs.Received.{Receives}
use Rattle.pass_lines.proofs.symbols.Symbols.put_idle.Given as goal

abbrev pub invariant-loop : goal.invariant-loop
invariant-loop l =
    (done : List Bool) × (done ++ idle l.bit (l.count - l.counter) ≡ idle l.first l.count) × Receives done l.initial.self l.self
