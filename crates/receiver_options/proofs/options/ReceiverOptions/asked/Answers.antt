-- An option that asks for nothing. Assumes nothing.
use Rattle.std.proofs.lemmas.Result.{err_from_is_err_and}
use Rattle.cltu.specs.Limit.{codeblocks_allowed}
use Rattle.receiver_options.proofs.options.ReceiverOptions.asked.Goals as goal

pub returns-in_err-asked_limit-clause-refused : goal.returns-in_err-asked_limit-clause-refused
returns-in_err-asked_limit-clause-refused c =
    let p = err_from_is_err_and c.from_residual-in_err-asked_limit.result c.from_residual-in_err-asked_limit.ensures.1 in
    rw (p.1, p.2) (λ wrong options asked.
    c.in_err-asked_limit.ensures.refused wrong (codeblocks_allowed options.limit) asked.limit)

pub returns-in_err-asked_cells-clause-refused : goal.returns-in_err-asked_cells-clause-refused
returns-in_err-asked_cells-clause-refused c =
    let p = err_from_is_err_and c.from_residual-in_err-asked_cells.result c.from_residual-in_err-asked_cells.ensures.1 in
    rw (p.1, p.2) (λ wrong options asked. c.in_err-asked_cells.ensures.refused wrong options.cells asked.cells)
