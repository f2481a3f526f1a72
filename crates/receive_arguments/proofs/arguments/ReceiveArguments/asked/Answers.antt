-- Arguments that ask for no receiver. Assumes nothing.
use Rattle.std.proofs.lemmas.Result.{err_from_is_err_and}
use Rattle.receive_arguments.specs.Asked.{options_of}
use Rattle.receive_arguments.proofs.arguments.ReceiveArguments.asked.Goals as goal

pub returns-in_err-options-clause-refused : goal.returns-in_err-options-clause-refused
returns-in_err-options-clause-refused c =
    let p = err_from_is_err_and c.from_residual.result c.from_residual.ensures.1 in
    rw (p.1, p.2) (λ wrong asked is. c.in_err-options.ensures.refused wrong (options_of asked.setup) is.receiver)
