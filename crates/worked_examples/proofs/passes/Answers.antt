use Rattle.worked_examples.proofs.Accepted.{accepted_as_sent}
use Rattle.worked_examples.proofs.passes.Goals as goal

pub returns-then-is_written-clause-codeblock : goal.returns-then-is_written-clause-codeblock
returns-then-is_written-clause-codeblock c =
    let accepted = accepted_as_sent c.args.vector.now c.told-vector c.fits-vector in
    (λ _. c.is_written.ensures.0 c.if-is_written.true, λ is. c.is_accepted_by_both_modes.ensures.1 (accepted is))
