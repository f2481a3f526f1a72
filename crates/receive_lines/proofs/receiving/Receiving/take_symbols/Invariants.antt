-- What holds after some of them. Assumes nothing.
use Rattle.receive_lines.specs.Releasing.{PassedSymbols}
use Rattle.receive_lines.proofs.receiving.Receiving.take_symbols.Given as goal

abbrev pub invariant-loop-bit : goal.invariant-loop-bit
invariant-loop-bit g l = PassedSymbols g.H.Hold l.yielded l.initial.self l.self
