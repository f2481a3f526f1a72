-- The bits of the octets so far, in front of those to come, are all. Assumes nothing.
use Rattle.std.proofs.Common.{◌≡◌, ◌++◌, drop}
use Rattle.bch.specs.Bits.{bits_of}
use Rattle.drive_lines.proofs.line.bits_of.Given as goal

abbrev pub invariant-loop-octet : goal.invariant-loop-octet
invariant-loop-octet l = l.bits.items ++ bits_of (drop l.octet-index l.octets) ≡ bits_of l.octets
