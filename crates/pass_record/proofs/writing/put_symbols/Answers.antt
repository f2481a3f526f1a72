-- Each segment is packed behind the one before. Assumes nothing.
use Rattle.std.proofs.Common.{◌≡◌, ◌+◌, length, ap, sym, ◌∙◌, arith}
use Rattle.pass_record.specs.Record.{octets_for, packed}
use Rattle.pass_record.proofs.Written.{first_most, length_more, symbols_put}
use Rattle.pass_record.proofs.writing.put_symbols.Goals as goal

pub slice_bounds-put_packed-end : goal.slice_bounds-put_packed-end
slice_bounds-put_packed-end g c =
    let i = c.loop-segment.segment-index in
    let xs = c.args.segments.now in
    let size : c.octets_for.result ≡ octets_for (length (g.S.AsSlice.items c.segment-item.result)) = c.octets_for.ensures ∙ ap (λ s. octets_for (length s)) c.as_slice-symbols.ensures in
    omega (arith, size, c.loop-segment.invariant.0, length_more g.S.AsSlice.items xs i c.segment-item.result (omega arith) c.segment-item.is, first_most g.S.AsSlice.items xs (i + 1))

pub loop-segment-preserved : goal.loop-segment-preserved
loop-segment-preserved g c =
    let i = c.loop-segment.segment-index in
    let xs = c.args.segments.now in
    let x = c.segment-item.result in
    let size : c.octets_for.result ≡ octets_for (length (g.S.AsSlice.items x)) = c.octets_for.ensures ∙ ap (λ s. octets_for (length s)) c.as_slice-symbols.ensures in
    let before = c.loop-segment.invariant in (
      omega (arith, size, before.0, length_more g.S.AsSlice.items xs i x (omega arith) c.segment-item.is),
      symbols_put g.S.AsSlice.items xs i x (omega arith) c.segment-item.is c.args.memory.now c.loop-segment.memory c.put_packed.new.memory c.loop-segment.begin (c.loop-segment.begin + c.octets_for.result)
          before.0 (ap (λ n. c.loop-segment.begin + n) (sym size)) before.1 (c.put_packed.ensures ∙ ap packed c.as_slice-symbols.ensures),
    )
