-- A text that writes no rate. Assumes nothing.
use Rattle.std.proofs.lemmas.Result.{err_from_is_err_and}
use Rattle.guard_times.specs.Rate.{bits_a_second}
use Rattle.guard_times.proofs.arguments.rate_in.Goals as goal

pub returns-in_err-bits-clause-refused : goal.returns-in_err-bits-clause-refused
returns-in_err-bits-clause-refused c =
    let p = err_from_is_err_and c.from_residual.result c.from_residual.ensures.1 in
    rw (p.1, p.2) (λ wrong rate writes. c.in_err-bits.ensures.refused wrong (bits_a_second rate) writes)
