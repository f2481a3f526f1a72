-- The octets that are packed so far. Assumes nothing.
use Rattle.std.proofs.Common.{◌≡◌, ◌*◌, map, drop}
use Rattle.std.specs.List.{range_with_len}
use Rattle.pass_record.specs.Record.{octet_of}
use Rattle.pass_lines.proofs.form.packed.Given as goal

abbrev pub invariant-loop-k : goal.invariant-loop-k
invariant-loop-k l = l.octets.items ≡ map (λ k. octet_of (drop (8 * k) l.symbols)) (range_with_len 0 l.k)
