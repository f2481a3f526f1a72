-- The first cell counts the oldest candidate. Assumes nothing.
use Rattle.std.proofs.Common.{rules}
use Rattle.ring.proofs.Turns.{oldest_counted}
use Rattle.ring.proofs.ring.Ring.oldest.Goals as goal

pub returns : goal.returns
returns c = oldest_counted c.args.self.now c.unwrap.result.now (search rules) (search rules)
