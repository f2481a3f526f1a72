-- The texts between commas. Assumes nothing.
use Rattle.guard_times.proofs.Commas.{commas_part}
use Rattle.guard_times.proofs.arguments.asked_limits.Goals as goal

pub returns-in_err-texts-clause-commas : goal.returns-in_err-texts-clause-commas
returns-in_err-texts-clause-commas c = commas_part

pub returns-clause-commas : goal.returns-clause-commas
returns-clause-commas c = commas_part
