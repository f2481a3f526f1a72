-- One codeblock more. Assumes nothing.
use Rattle.std.proofs.Common.{rules}
use Rattle.cltu.proofs.Places.{one_more}
use Rattle.cltu.proofs.Outgoing.put_codeblocks.Goals as goal

pub loop-index-preserved : goal.loop-index-preserved
loop-index-preserved c = search (rules, one_more)
