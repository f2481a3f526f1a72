-- The CLTUs sent so far. Assumes nothing.
use Rattle.std.proofs.Common.{take}
use Rattle.std.specs.List.{flat_map}
use Rattle.pass_lines.specs.Cltus.{octets_of_each}
use Rattle.pass_lines.specs.Symbols.{with_guard}
use Rattle.pass_lines.specs.Received.{Receives}
use Rattle.pass_lines.proofs.symbols.Symbols.put_cltus.Given as goal

abbrev pub invariant-loop-cltu : goal.invariant-loop-cltu
invariant-loop-cltu l =
    Receives (flat_map (with_guard l.first l.guard) (octets_of_each (take l.cltu-index l.cltus))) l.initial.self l.self
