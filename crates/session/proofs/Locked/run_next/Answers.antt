-- What the job that waits longest leaves in front. Assumes nothing.
use Rattle.std.proofs.Common.{rules, Ok}
use Rattle.queue.specs.Waiting.{waiting}
use Rattle.session.proofs.Fronts.{octets_below, next_in_front, next_fits}
use Rattle.session.proofs.Steps.{run_next_is_step}
use Rattle.session.proofs.Locked.run_next.Goals as goal

pub returns-clause-stretch : goal.returns-clause-stretch
returns-clause-stretch c =
    next_in_front c.args.self c.args.frames.now (waiting c.args.jobs.now) c.args.memory.now c.run.new.memory (Ok c.in_ok-after.after) (search rules) (search rules)

pub returns-clause-fits : goal.returns-clause-fits
returns-clause-fits c =
    next_fits c.args.self c.args.frames.now (waiting c.args.jobs.now) c.args.memory.now (Ok c.in_ok-after.after) (octets_below c.args.frames.now c.type_inv.frames) (search rules)

pub returns-in_err-after-clause-call : goal.returns-in_err-after-clause-call
returns-in_err-after-clause-call c =
    run_next_is_step c.args.self c.args.memory.now c.run.new.memory c.args.frames.now (waiting c.args.jobs.now) c.from_residual.result (octets_below c.args.frames.now c.type_inv.frames) (search rules) (search rules)

pub returns-clause-call : goal.returns-clause-call
returns-clause-call c =
    run_next_is_step c.args.self c.args.memory.now c.run.new.memory c.args.frames.now (waiting c.args.jobs.now) (Ok c.in_ok-after.after) (octets_below c.args.frames.now c.type_inv.frames) (search rules) (search rules)
