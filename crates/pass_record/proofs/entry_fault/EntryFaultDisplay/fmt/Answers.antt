-- The text of each case is what its line writes. Assumes nothing.
use Rattle.pass_record.proofs.entry_fault.EntryFaultDisplay.fmt.Goals as goal

pub returns-in-BeginsElsewhere-clause-writes : goal.returns-in-BeginsElsewhere-clause-writes
returns-in-BeginsElsewhere-clause-writes g c = rw c.in-BeginsElsewhere.is c.write.ensures.writes

pub returns-in-PastFirstEntry-clause-writes : goal.returns-in-PastFirstEntry-clause-writes
returns-in-PastFirstEntry-clause-writes g c = rw c.in-PastFirstEntry.is c.write-in-PastFirstEntry.ensures.writes
