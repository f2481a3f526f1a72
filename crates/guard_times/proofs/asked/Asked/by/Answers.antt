-- An option that asks for nothing. Assumes nothing.
use Rattle.std.proofs.lemmas.Result.{err_from_is_err_and}
use Rattle.guard_times.proofs.asked.Asked.by.Goals as goal

pub returns-in_err-asked_limits-clause-refused : goal.returns-in_err-asked_limits-clause-refused
returns-in_err-asked_limits-clause-refused c =
    let p = err_from_is_err_and c.from_residual.result c.from_residual.ensures.1 in
    rw (p.1, p.2) (λ wrong asked asks. c.in_err-asked_limits.ensures.refused wrong asked.limits.items asks.limits)

pub returns-in_err-asked_mode-clause-refused : goal.returns-in_err-asked_mode-clause-refused
returns-in_err-asked_mode-clause-refused c =
    let p = err_from_is_err_and c.from_residual-in_err-asked_mode.result c.from_residual-in_err-asked_mode.ensures.1 in
    rw (p.1, p.2) (λ wrong asked asks. c.in_err-asked_mode.ensures.refused wrong asked.mode asks.mode)

pub returns-in_err-asked_rate-clause-refused : goal.returns-in_err-asked_rate-clause-refused
returns-in_err-asked_rate-clause-refused c =
    let p = err_from_is_err_and c.from_residual-in_err-asked_rate.result c.from_residual-in_err-asked_rate.ensures.1 in
    rw (p.1, p.2) (λ wrong asked asks. c.in_err-asked_rate.ensures.refused wrong asked.rate asks.rate)
