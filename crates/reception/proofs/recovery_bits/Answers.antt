-- The promise. Assumes nothing.
use Rattle.reception.proofs.Promises.{promise}
use Rattle.reception.proofs.recovery_bits.Goals as goal

pub returns-in-Correcting-clause-promise : goal.returns-in-Correcting-clause-promise
returns-in-Correcting-clause-promise c = promise _

pub returns-in-Detecting-clause-promise : goal.returns-in-Detecting-clause-promise
returns-in-Detecting-clause-promise c = promise _
