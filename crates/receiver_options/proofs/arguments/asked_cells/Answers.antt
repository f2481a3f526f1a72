-- A number out of its range. Assumes nothing.
use Rattle.std.proofs.Common.{subst, sym}
use Rattle.std.proofs.lemmas.Result.{err_from_is_err_and}
use Rattle.command_line.specs.Number.{WritesWithin}
use Rattle.receiver_options.proofs.arguments.asked_cells.Goals as goal

pub returns-in_err-count-clause-refused : goal.returns-in_err-count-clause-refused
returns-in_err-count-clause-refused c =
    let p = err_from_is_err_and c.from_residual.result c.from_residual.ensures.1 in
    rw (p.1, p.2) (λ wrong number asked. c.in_err-count.ensures.refused wrong number
    (subst (λ text. WritesWithin 0 65535 text number) (sym c.value_of-value.ensures) asked))
