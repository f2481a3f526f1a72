-- The text of each case is what its line writes. Assumes nothing.
use Rattle.pass_record.proofs.record_fault.RecordFaultDisplay.fmt.Goals as goal

pub returns-in-GapBeforeEntries-clause-writes : goal.returns-in-GapBeforeEntries-clause-writes
returns-in-GapBeforeEntries-clause-writes g c = rw c.in-GapBeforeEntries.is c.write-in-GapBeforeEntries.ensures.writes
