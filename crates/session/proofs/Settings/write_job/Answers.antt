-- The CLTU and the idle octets. Assumes nothing.
use Rattle.std.proofs.Common.{rules}
use Rattle.cltu.specs.Writing.{sent_cltu}
use Rattle.procedures.specs.Stretch.{idle_behind}
use Rattle.session.specs.Writing.{frame_at}
use Rattle.session.proofs.Written.{written_behind}
use Rattle.session.proofs.Settings.write_job.Goals as goal

pub returns-clause-memory : goal.returns-clause-memory
returns-clause-memory c =
    written_behind c.args.self.idle (sent_cltu c.args.self.sender (frame_at c.args.frames.now c.args.job.frame)) c.args.memory.now c.write_cltu.new.memory c.fill_with_idle.new.memory
    (idle_behind c.args.self.plop) c.args.job.idle c.in_ok-cltu.cltu c.saturating_add-behind.result (search rules) (search rules) (search rules) (search rules)
