-- The oldest candidate's cells are free, and the others are held as before. Assumes nothing.
use Rattle.std.proofs.Common.{arith}
use Rattle.chain.proofs.Releases.{moved_many, moved_whole, moved_kept}
use Rattle.chain.proofs.ChainHold.release.Goals as goal

pub invariant_of-self-clause-counted : goal.invariant_of-self-clause-counted
invariant_of-self-clause-counted c =
    rw (c.move_behind-self.ensures.cells, c.move_behind-self.ensures.first)
    (record {
      as_many = moved_many c.args.self.now c.in_ok-codeblocks.field-0 c.in_ok-codeblocks.ensures;
      most = c.args.self.now.counted.most;
      within = omega (arith, c.args.self.now.counted.within, c.in_ok-codeblocks.ensures.within);
      few = omega (arith, c.in_ok-codeblocks.ensures.others);
      whole = moved_whole c.args.self.now c.in_ok-codeblocks.field-0 c.in_ok-codeblocks.ensures;
    })

pub invariant_of-self-clause-chained : goal.invariant_of-self-clause-chained
invariant_of-self-clause-chained c =
    rw (c.move_behind-self.ensures.cells, c.move_behind-self.ensures.first, c.first_open_if_free-first_open.ensures)
    (moved_kept c.args.self.now c.in_ok-codeblocks.field-0 c.in_ok-codeblocks.ensures)
