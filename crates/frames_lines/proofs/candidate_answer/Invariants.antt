-- What is written so far; each item leaves fewer octets. Assumes nothing.
use Rattle.cutting.specs.Cutting.{cutting}
use Rattle.cutting.specs.Items.{octets_left, to_cut}
use Rattle.frames_lines.proofs.Coming.{Written}
use Rattle.frames_lines.proofs.candidate_answer.Given as goal

abbrev pub invariant-loop-item : goal.invariant-loop-item
invariant-loop-item l = Written (cutting l.candidate) (to_cut l.cutter) l.answer

abbrev pub decreases-loop-item : goal.decreases-loop-item
decreases-loop-item l = octets_left l.cutter
