-- What so many bits of idle do. Assumes nothing.
use Rattle.guard_times.proofs.guard_time.GuardTime.bits.Goals as goal

pub returns-clause-promise : goal.returns-clause-promise
returns-clause-promise c = λ showing. (c.recovery_bits.ensures.promise showing).back
