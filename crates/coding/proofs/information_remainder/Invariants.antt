-- The loop of `information_remainder`: the remainder of the octets so far. Assumes nothing.
use Rattle.std.proofs.Common.{◌≡◌, ◌*◌, ◌^◌, ◌<◌, take}
use Rattle.std.specs.Int.Digits.{number_from_digits}
use Rattle.bch.specs.Polynomial.{remainder}
use Rattle.bch.specs.Codeblock.{generator}
use Rattle.coding.proofs.information_remainder.Given as goal

abbrev pub invariant-loop-octet : goal.invariant-loop-octet
invariant-loop-octet l = (l.bits ≡ remainder generator 7 (2 ^ 7 * number_from_digits 256 (take l.octet-index l.information))) × (l.bits < 2 ^ 7)
