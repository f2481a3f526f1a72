-- What a sent frame leaves in front. Assumes nothing.
use Rattle.std.proofs.Common.{rules}
use Rattle.session.specs.Calls.{only_frame}
use Rattle.session.proofs.Fronts.{octets_below, job_in_front}
use Rattle.session.proofs.Steps.{send_is_step}
use Rattle.session.proofs.Locked.send.Goals as goal

pub returns-clause-stretch : goal.returns-clause-stretch
returns-clause-stretch c =
    job_in_front c.args.self c.args.frames.now (only_frame c.args.frame) c.args.memory.now c.run.new.memory c.run.result (search rules) (search rules)

pub returns-clause-call : goal.returns-clause-call
returns-clause-call c =
    send_is_step c.args.self c.args.memory.now c.run.new.memory c.args.frames.now c.args.frame c.run.result (octets_below c.args.frames.now c.type_inv.frames) (search rules) (search rules)
