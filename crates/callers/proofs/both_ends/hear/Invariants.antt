-- The octets heard so far. Assumes nothing.
use Rattle.std.proofs.Common.{take}
use Rattle.callers.proofs.Heard.{HeardSoFar}
use Rattle.callers.proofs.both_ends.hear.Given as goal

abbrev pub invariant-loop-octet : goal.invariant-loop-octet
invariant-loop-octet g l = HeardSoFar g.H.Hold (take l.octet-index l.octets) l.initial.receiver l.receiver l.initial.reports l.reports
