-- An item more is written. Assumes nothing.
use Rattle.std.proofs.Common.{◌≡◌, Some, Ok, sym, subst, arith}
use Rattle.cutting.specs.Cutting.{cutting}
use Rattle.cutting.specs.Items.{part_of, to_cut, first_to_come}
use Rattle.frames_lines.proofs.Coming.{Written, few_frames, one_more}
use Rattle.frames_lines.proofs.candidate_answer.Goals as goal

pub write_item-requires : goal.write_item-requires
write_item-requires c = omega (arith, few_frames c.args.candidate.now, c.loop-item.invariant.frames)

pub loop-item-preserved : goal.loop-item-preserved
loop-item-preserved c =
    let is : Ok (Some (part_of c.in-Ok-Some.item)) ≡ first_to_come (to_cut c.loop-item.cutter) = rw c.in-Ok-Some.field-0-is at c.in-Ok-Some.ensures.item in
    subst (λ left. Written (cutting c.args.candidate.now) left c.write_item.new.answer) (sym c.next_item.ensures.rest)
    (one_more (cutting c.args.candidate.now) c.loop-item.answer (to_cut c.loop-item.cutter) c.loop-item.invariant (part_of c.in-Ok-Some.item) is c.write_item.new.answer c.in_ok-write_item-in-Ok-Some.ensures)
