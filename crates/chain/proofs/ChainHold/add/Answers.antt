-- The codeblock stands in the first free cell. Assumes nothing.
use Rattle.std.proofs.Common.{rules, refl}
use Rattle.cells.specs.declared.cell.Cell.{Cell as Room}
use Rattle.chain.specs.Links.{cell_at, node_of}
use Rattle.chain.proofs.Writes.{free_below, filled_counted, filled_kept, place_free, filled_behind, others_filled}
use Rattle.chain.proofs.ChainHold.add.Goals as goal

pub fill-self-requires : goal.fill-self-requires
fill-self-requires c = free_below c.args.self.now c.add.new.self c.in_ok-add.ensures

pub invariant_of-self-clause-counted : goal.invariant_of-self-clause-counted
invariant_of-self-clause-counted c =
    rw c.fill-self.ensures.cells (filled_counted c.args.self.now c.add.new.self c.in_ok-add.ensures (record { octets = c.args.octets; codeblocks = 0 }) (search rules))

pub invariant_of-self-clause-chained : goal.invariant_of-self-clause-chained
invariant_of-self-clause-chained c =
    rw (c.fill-self.ensures.cells, c.fill-self.ensures.next) (filled_kept c.args.self.now c.add.new.self c.in_ok-add.ensures (record { octets = c.args.octets; codeblocks = 0 }))

pub returns-clause-takes : goal.returns-clause-takes
returns-clause-takes c =
    let chain = c.args.self.now in
    let codeblock : Room = record { octets = c.args.octets; codeblocks = 0 } in
    record {
      cell = node_of chain.first_free (record (cell_at chain.cells.now chain.first_free) { room = codeblock });
      there = free_below chain c.add.new.self c.in_ok-add.ensures;
      free = place_free chain c.add.new.self c.in_ok-add.ensures codeblock;
      holds = refl;
      behind = rw c.fill-self.ensures.cells (filled_behind chain c.add.new.self c.in_ok-add.ensures codeblock);
      others = λ other apart. rw c.fill-self.ensures.cells (others_filled chain c.add.new.self c.in_ok-add.ensures codeblock other apart);
    }
