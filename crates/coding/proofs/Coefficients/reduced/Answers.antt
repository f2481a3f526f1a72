-- Seven coefficients reduced to six, by the case of the seventh. Assumes nothing.
use Rattle.std.proofs.Common.{◌≡◌, ℕ, ◌^◌, ◌<◌, sym, ap, ◌∙◌}
use Rattle.bch.specs.Polynomial.{remainder}
use Rattle.bch.specs.Codeblock.{generator}
use Rattle.bch.specs.Reception.{syndrome_polynomial}
use Rattle.bch.proofs.Division.{divided_low}
use Rattle.bch.proofs.Syndromes.{number_of_remainder}
use Rattle.coding.proofs.Received.{reduced_once}
use Rattle.coding.proofs.Coefficients.reduced.Goals as goal

number : (r s : ℕ) → s ≡ remainder syndrome_polynomial 6 r → (p : ℕ) → p < 2 ^ 63 → r ≡ remainder generator 7 p → s ≡ remainder syndrome_polynomial 6 p
number r s e p small is = e ∙ ap (remainder syndrome_polynomial 6) is ∙ sym (number_of_remainder p small)

pub returns-then-self-lt-X_TO_THE_6 : goal.returns-then-self-lt-X_TO_THE_6
returns-then-self-lt-X_TO_THE_6 c =
    let value = sym (divided_low syndrome_polynomial 6 64 c.args.self.bits c.if-self-lt-X_TO_THE_6.true) in
    record { value = value; number = number c.args.self.bits c.args.self.bits value }

pub returns-else-self-lt-X_TO_THE_6 : goal.returns-else-self-lt-X_TO_THE_6
returns-else-self-lt-X_TO_THE_6 c =
    let value = reduced_once c.args.self.bits c.if-self-lt-X_TO_THE_6.false c.args.self.seven in
    record { value = value; number = number c.args.self.bits _ value }
