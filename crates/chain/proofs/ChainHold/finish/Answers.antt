-- The first cell of the candidate notes it. Assumes nothing.
use Rattle.chain.proofs.Writes.{first_open_below, noted_counted, noted_kept}
use Rattle.chain.proofs.ChainHold.finish.Goals as goal

pub note-requires : goal.note-requires
note-requires c = first_open_below c.args.self.now c.finish.new.self c.in_ok-codeblocks.codeblocks c.in_ok-codeblocks.ensures

pub invariant_of-self-clause-counted : goal.invariant_of-self-clause-counted
invariant_of-self-clause-counted c = rw c.note.ensures (noted_counted c.args.self.now c.finish.new.self c.in_ok-codeblocks.codeblocks c.in_ok-codeblocks.ensures)

pub invariant_of-self-clause-chained : goal.invariant_of-self-clause-chained
invariant_of-self-clause-chained c = rw c.note.ensures (noted_kept c.args.self.now c.finish.new.self c.in_ok-codeblocks.codeblocks c.in_ok-codeblocks.ensures)
