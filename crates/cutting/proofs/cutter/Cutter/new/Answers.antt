-- The laws of cutting. Assumes nothing.
use Rattle.cutting.proofs.Whole.{cut_whole, cut_till_refused}
use Rattle.cutting.proofs.cutter.Cutter.new.Goals as goal

pub returns-clause-whole : goal.returns-clause-whole
returns-clause-whole c = cut_whole

pub returns-clause-till_refused : goal.returns-clause-till_refused
returns-clause-till_refused c = cut_till_refused
