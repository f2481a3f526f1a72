-- The octets sent so far. Assumes nothing.
use Rattle.std.proofs.Common.{take}
use Rattle.bch.specs.Bits.{bits_of}
use Rattle.pass_lines.specs.Received.{Receives}
use Rattle.pass_lines.proofs.symbols.Symbols.put_octets.Given as goal

abbrev pub invariant-loop-octet : goal.invariant-loop-octet
invariant-loop-octet l = Receives (bits_of (take l.octet-index l.octets)) l.initial.self l.self
