-- An octet, or fill past the end of the frame. Assumes nothing.
use Rattle.std.proofs.Common.{rules}
use Rattle.cltu.proofs.Places.{sent_at}
use Rattle.cltu.proofs.Outgoing.octet.Goals as goal

pub returns : goal.returns
returns c = search (rules, sent_at)
