-- The symbols sent so far. Assumes nothing.
use Rattle.std.proofs.Common.{take}
use Rattle.pass_lines.specs.Received.{Receives}
use Rattle.pass_lines.proofs.symbols.Symbols.put_all.Given as goal

abbrev pub invariant-loop-bit : goal.invariant-loop-bit
invariant-loop-bit l = Receives (take l.bit-index l.bits) l.initial.self l.self
