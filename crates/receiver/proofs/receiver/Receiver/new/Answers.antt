-- The promise. Assumes nothing.
use Rattle.reception.proofs.Promises.{receiver_promise}
use Rattle.receiver.proofs.receiver.Receiver.new.Goals as goal

pub returns-clause-promise : goal.returns-clause-promise
returns-clause-promise g c = receiver_promise _ _
