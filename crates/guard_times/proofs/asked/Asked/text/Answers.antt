-- One text. Assumes nothing.
use Rattle.guard_times.proofs.OneText.{one_text}
use Rattle.guard_times.proofs.asked.Asked.text.Goals as goal

pub returns-in_err-rows-clause-one : goal.returns-in_err-rows-clause-one
returns-in_err-rows-clause-one c = one_text

pub returns-in-Table-clause-one : goal.returns-in-Table-clause-one
returns-in-Table-clause-one c = one_text

pub returns-clause-one : goal.returns-clause-one
returns-clause-one c = one_text
