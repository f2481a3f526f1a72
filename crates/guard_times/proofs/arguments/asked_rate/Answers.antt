-- A text that writes no rate. Assumes nothing.
use Rattle.std.proofs.Common.{codes}
use Rattle.std.proofs.lemmas.Result.{err_from_is_err_and}
use Rattle.clap.specs.Words.{found_of, first_value}
use Rattle.guard_times.proofs.Texts.{no_rate}
use Rattle.guard_times.proofs.arguments.asked_rate.Goals as goal

pub returns-in_err-rate-in-Some-clause-refused : goal.returns-in_err-rate-in-Some-clause-refused
returns-in_err-rate-in-Some-clause-refused c =
    let p = err_from_is_err_and c.from_residual.result c.from_residual.ensures.1 in
    rw (p.1, p.2) (λ wrong rate asks. no_rate (first_value (found_of c.args.matches.now) (codes "rate")) c.in-Some.text.now c.in-Some.ensures
    (λ one writes. c.in_err-rate-in-Some.ensures.refused wrong one writes) rate asks)
