-- Each item leaves fewer octets. Assumes nothing.
use Rattle.cutting.specs.Items.{octets_left}
use Rattle.cutting.proofs.tests.item_count.Given as goal

abbrev pub decreases-loop-item : goal.decreases-loop-item
decreases-loop-item l = octets_left l.cutter
