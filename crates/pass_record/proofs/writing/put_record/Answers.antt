-- The three parts of a record have their places. Assumes nothing.
use Rattle.std.proofs.Common.{arith, map}
use Rattle.std.proofs.lemmas.List.{length-map}
use Rattle.pass_record.proofs.Places.{length_record_of}
use Rattle.pass_record.proofs.writing.put_record.Goals as goal

pub overflow_mul-first_entry : goal.overflow_mul-first_entry
overflow_mul-first_entry g c = omega (arith, c.requires.record, length_record_of (map g.S.AsSlice.items c.args.segments.now), length-map c.args.segments.now g.S.AsSlice.items)

pub overflow_sub-first_entry-2 : goal.overflow_sub-first_entry-2
overflow_sub-first_entry-2 g c = omega (arith, c.requires.record, length_record_of (map g.S.AsSlice.items c.args.segments.now), length-map c.args.segments.now g.S.AsSlice.items)

pub overflow_mul-segments : goal.overflow_mul-segments
overflow_mul-segments g c = omega (arith, c.requires.record, length_record_of (map g.S.AsSlice.items c.args.segments.now), length-map c.args.segments.now g.S.AsSlice.items)

pub split_at_mut-entries-requires : goal.split_at_mut-entries-requires
split_at_mut-entries-requires g c = omega (arith, c.requires.record, length_record_of (map g.S.AsSlice.items c.args.segments.now), length-map c.args.segments.now g.S.AsSlice.items)

pub put_symbols-requires : goal.put_symbols-requires
put_symbols-requires g c = omega (arith, c.requires.record, length_record_of (map g.S.AsSlice.items c.args.segments.now), length-map c.args.segments.now g.S.AsSlice.items)
