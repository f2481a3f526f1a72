-- What a frame in front answers. Assumes nothing.
use Rattle.std.proofs.Common.{◌∙◌}
use Rattle.callers.proofs.Answered.{sending_counts, job_is}
use Rattle.callers.proofs.both_ends.send_frame.Goals as goal

pub returns-in-Ok-Locked-default-clause-answer : goal.returns-in-Ok-Locked-default-clause-answer
returns-in-Ok-Locked-default-clause-answer c =
    sending_counts c.args.session _ _ c.in-Ok-Locked-default.ensures.answer ∙ job_is c.args.session.settings c.args.frame.now c.args.memory.now

pub returns-in-Err-clause-answer : goal.returns-in-Err-clause-answer
returns-in-Err-clause-answer c =
    sending_counts c.args.session _ _ c.in-Err.ensures.answer ∙ job_is c.args.session.settings c.args.frame.now c.args.memory.now
