-- The octets of the record of the segments so far. Assumes nothing.
use Rattle.std.proofs.Common.{◌≡◌, map, length, take}
use Rattle.pass_record.specs.Record.{record_of}
use Rattle.pass_record.proofs.writing.octets_within.Given as goal

abbrev pub invariant-loop-segment : goal.invariant-loop-segment
invariant-loop-segment g l = l.octets ≡ length (record_of (map g.S.AsSlice.items (take l.segment-index l.segments)))
