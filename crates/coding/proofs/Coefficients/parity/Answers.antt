-- The parity of a polynomial is that of its remainder by the generator. Assumes nothing.
use Rattle.std.proofs.Common.{◌∙◌, arith}
use lib.Bits.{and_mask}
use lib.Count.{ones}
use Rattle.coding.proofs.Received.{parity_by_ones}
use Rattle.coding.proofs.Coefficients.parity.Goals as goal

pub returns : goal.returns
returns c = λ p small e. and_mask (ones c.args.self.bits) 1 ∙ parity_by_ones p c.args.self.bits small (omega (arith, c.args.self.seven)) e
