-- What any list of calls comes to. Assumes nothing.
use Rattle.session.proofs.Reached.{calls_promise}
use Rattle.session.proofs.Silent.new.Goals as goal

pub returns-in_err-limit-clause-promise : goal.returns-in_err-limit-clause-promise
returns-in_err-limit-clause-promise c = calls_promise

pub returns-clause-promise : goal.returns-clause-promise
returns-clause-promise c = calls_promise
