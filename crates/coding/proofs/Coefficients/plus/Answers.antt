-- The sum of seven coefficients and seven is seven. Assumes nothing.
use lib.Bits.{xor_lt}
use Rattle.coding.proofs.Coefficients.plus.Goals as goal

pub invariant_of-result : goal.invariant_of-result
invariant_of-result c = record { seven = xor_lt 7 c.args.self.bits c.args.other.bits c.args.self.seven c.args.other.seven }
