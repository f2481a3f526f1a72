-- A text that writes no limit. Assumes nothing.
use Rattle.std.proofs.lemmas.Result.{err_from_is_err_and}
use Rattle.cltu.specs.Limit.{codeblocks_allowed}
use Rattle.guard_times.proofs.arguments.limit_in.Goals as goal

pub returns-in_err-count-clause-refused : goal.returns-in_err-count-clause-refused
returns-in_err-count-clause-refused c =
    let p = err_from_is_err_and c.from_residual.result c.from_residual.ensures.1 in
    rw (p.1, p.2) (λ wrong limit writes. c.in_err-count.ensures.refused wrong (codeblocks_allowed limit) writes)
