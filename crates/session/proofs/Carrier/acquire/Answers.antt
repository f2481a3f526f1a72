-- What a session sends is received. Assumes nothing.
use Rattle.procedures.proofs.Received.{session_promise}
use Rattle.session.proofs.Carrier.acquire.Goals as goal

pub returns-in-Ok-clause-promise : goal.returns-in-Ok-clause-promise
returns-in-Ok-clause-promise c = session_promise

pub returns-in-Err-clause-promise : goal.returns-in-Err-clause-promise
returns-in-Err-clause-promise c = session_promise
