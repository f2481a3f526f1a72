-- The entries that are put so far, and the rest of the memory as it was. Assumes nothing.
use Rattle.std.proofs.Common.{◌≡◌, ◌*◌, ◌++◌, map, length, take, drop}
use Rattle.std.specs.List.{flat_map}
use Rattle.pass_record.specs.Record.{packed, entries}
use Rattle.pass_record.proofs.writing.put_entries.Given as goal

abbrev pub invariant-loop-i : goal.invariant-loop-i
invariant-loop-i g l =
    let before = map g.S.AsSlice.items (take l.i l.segments) in
    (length (flat_map packed before) ≡ l.begin) × (l.memory ≡ entries 0 before ++ drop (8 * l.i) l.initial.memory)
