-- What holds after some of them. Assumes nothing.
use Rattle.std.proofs.Common.{take}
use Rattle.receive_lines.specs.Releasing.{PassedSymbols}
use Rattle.receive_lines.proofs.receiving.Receiving.take_bits.Given as goal

abbrev pub invariant-loop-bit : goal.invariant-loop-bit
invariant-loop-bit g l = PassedSymbols g.H.Hold (take l.bit-index l.bits) l.initial.self l.self
