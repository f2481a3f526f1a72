-- The table holds the remainder of each octet. Assumes nothing.
use Rattle.std.proofs.Common.{rules}
use Rattle.bch.specs.Polynomial.{divided}
use Rattle.coding.proofs.Remainders.{octet_remainder}
use Rattle.coding.proofs.octet_remainder.Goals as goal

pub returns : goal.returns
unfolding divided
returns c = search (rules, octet_remainder)
