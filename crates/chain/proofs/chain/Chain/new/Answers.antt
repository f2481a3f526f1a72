-- A new chain holds nothing. Assumes nothing.
use Rattle.std.proofs.Common.{rules, refl, ap, ◌∙◌, arith}
use Rattle.cells.specs.Cells.{added}
use Rattle.chain.proofs.Begin.{new_chained}
use Rattle.chain.proofs.Turns.{length_in_turn}
use Rattle.chain.proofs.chain.Chain.new.Goals as goal

pub invariant_of-result-clause-counted : goal.invariant_of-result-clause-counted
invariant_of-result-clause-counted c =
    let counts = c.of_nothing-counts.ensures in
    record {
      as_many = length_in_turn c.link_in_turn.new.cells 0 ∙ search rules;
      most = omega (arith, counts.cells);
      within = omega (arith, counts.used, ap added counts.unfinished);
      few = omega (arith, counts.used, counts.waiting);
      whole = rw (counts.used, counts.waiting) refl;
    }

pub invariant_of-result-clause-chained : goal.invariant_of-result-clause-chained
invariant_of-result-clause-chained c =
    let counts = c.of_nothing-counts.ensures in
    rw (counts.used, counts.waiting, counts.unfinished) (new_chained c.link_in_turn.new.cells c.link_in_turn.ensures)
