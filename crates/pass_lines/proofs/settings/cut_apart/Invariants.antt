-- The segments that are cut off so far. Assumes nothing.
use Rattle.std.proofs.Common.{◌≡◌, ◌≤◌, ◌++◌, drop, length}
use Rattle.pass_lines.specs.Cltus.{octets_of_each}
use Rattle.pass_lines.specs.Symbols.{parts, parts_length}
use Rattle.pass_lines.specs.Forms.{segment_symbols}
use Rattle.pass_lines.proofs.settings.cut_apart.Given as goal

abbrev pub invariant-loop-cltu : goal.invariant-loop-cltu
invariant-loop-cltu l = record {
  shorter : length l.rest ≤ length l.symbols;
  left : length l.rest ≡ parts_length l.guard (octets_of_each (drop l.cltu-index l.cltus));
  cut : parts l.guard (octets_of_each l.cltus) l.symbols
      ≡ segment_symbols l.segments.items ++ parts l.guard (octets_of_each (drop l.cltu-index l.cltus)) l.rest;
}
