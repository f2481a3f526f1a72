-- The octets that are packed so far, and the rest of the memory as it was. Assumes nothing.
use Rattle.std.proofs.Common.{◌≡◌, ℕ, ◌*◌, ◌<◌, get_or, drop}
use Rattle.pass_record.specs.Record.{octet_of}
use Rattle.pass_record.proofs.writing.put_packed.Given as goal

abbrev pub invariant-loop-k : goal.invariant-loop-k
invariant-loop-k l = (j : ℕ) → j < l.k → get_or l.memory j 0 ≡ octet_of (drop (8 * j) l.symbols)
