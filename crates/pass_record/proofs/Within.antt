-- What the invariants of a record and of a segment say of their parts. Assumes nothing.
use Rattle.std.proofs.Common.{◌≡◌, ℕ, ◌+◌, ◌<◌, ◌≤◌, [], length, Some, ap, ◌∙◌, zero-add, arith}
use Rattle.std.specs.List.{slice_get}
use Rattle.std.proofs.lemmas.Option.{slice_get-get_or}
use Rattle.std.specs.Coded.{le_prop}
use Rattle.std.proofs.Math.Logic.{∥∥₁_elim}
use Rattle.std.proofs.lemmas.List.{length-take-le}
use Rattle.std.proofs.lemmas.List.FromFn.{length-map-range_with_len, get_or-map-range_with_len}
use Rattle.bch.specs.Bits.{bits_of}
use Rattle.pass_record.specs.Record.{octets_for}
use Rattle.pass_record.specs.Reading.{told_count, told_begin, told_size, told_segment}
use Rattle.pass_record.specs.Segments.{segments_in, symbols_in}
use Rattle.pass_record.specs.declared.record.PassRecord.{PassRecord}
use Rattle.pass_record.specs.declared.segment.Segment.{Segment}
use Rattle.pass_record.proofs.Packing.{length_bits_of}
use Rattle.pass_record.proofs.Places.{right_end, right_entry, count_told}

pub length_symbols : (segment : Segment) → length (symbols_in segment) ≡ segment.symbols
length_symbols segment = length-take-le segment.symbols (bits_of segment.octets.now) (omega (arith, length_bits_of segment.octets.now, segment.held))

pub length_segments : (pass : PassRecord) → length (segments_in pass) ≡ told_count pass.octets.now
length_segments pass = length-map-range_with_len (told_segment pass.octets.now) 0 (told_count pass.octets.now)

pub segment_within : (pass : PassRecord) (i : ℕ) → i < told_count pass.octets.now → told_begin pass.octets.now i + octets_for (told_size pass.octets.now i) ≤ length pass.octets.now
segment_within pass i h =
    let octets = pass.octets.now in
    ∥∥₁_elim pass.laid_out le_prop
    (λ is.
    let end = right_end octets _ is in
    let entry = right_entry octets _ is i (omega (arith, count_told octets _ is)) in
    omega (arith, end.ends, entry.begins, entry.within))

pub segment_there : (pass : PassRecord) (i : ℕ) → i < told_count pass.octets.now → slice_get (segments_in pass) i ≡ Some (told_segment pass.octets.now i)
segment_there pass i h =
    slice_get-get_or (segments_in pass) i [] (omega (arith, length_segments pass)) ∙ ap Some (get_or-map-range_with_len (told_segment pass.octets.now) 0 (told_count pass.octets.now) i i [] h (zero-add i))
