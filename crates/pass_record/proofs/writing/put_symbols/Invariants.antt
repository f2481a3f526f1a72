-- The segments that are packed so far, and the rest of the memory as it was. Assumes nothing.
use Rattle.std.proofs.Common.{◌≡◌, ◌++◌, map, length, take, drop}
use Rattle.std.specs.List.{flat_map}
use Rattle.pass_record.specs.Record.{packed}
use Rattle.pass_record.proofs.writing.put_symbols.Given as goal

abbrev pub invariant-loop-segment : goal.invariant-loop-segment
invariant-loop-segment g l =
    let done = flat_map packed (map g.S.AsSlice.items (take l.segment-index l.segments)) in
    (length done ≡ l.begin) × (l.memory ≡ done ++ drop l.begin l.initial.memory)
