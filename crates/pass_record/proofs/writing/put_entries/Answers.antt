-- Each entry is put behind the one before. Assumes nothing.
use Rattle.std.proofs.Common.{◌≡◌, ◌+◌, length, ap, ◌∙◌, arith}
use Rattle.pass_record.specs.Record.{octets_for, entry}
use Rattle.pass_record.proofs.Written.{first_most, length_more, entry_put}
use Rattle.pass_record.proofs.writing.put_entries.Goals as goal

pub put_numbers-requires-clause-small : goal.put_numbers-requires-clause-small
put_numbers-requires-clause-small g c =
    let i = c.loop-i.i in
    let xs = c.args.segments.now in
    let x = c.index-segments-i.result in
    let size : length c.as_slice-symbols.result.now ≡ length (g.S.AsSlice.items x) = ap length c.as_slice-symbols.ensures in
    let more = length_more g.S.AsSlice.items xs i x (omega arith) c.index-segments-i.is in
    let most = first_most g.S.AsSlice.items xs (i + 1) in
    (omega (arith, c.loop-i.invariant.0, c.requires.symbols), omega (arith, size, c.requires.symbols))

pub overflow_add-begin : goal.overflow_add-begin
overflow_add-begin g c =
    let i = c.loop-i.i in
    let xs = c.args.segments.now in
    let x = c.index-segments-i.result in
    let size : c.octets_for-begin.result ≡ octets_for (length (g.S.AsSlice.items x)) = c.octets_for-begin.ensures ∙ ap (λ s. octets_for (length s)) c.as_slice-symbols.ensures in
    let more = length_more g.S.AsSlice.items xs i x (omega arith) c.index-segments-i.is in
    let most = first_most g.S.AsSlice.items xs (i + 1) in
    omega (arith, c.loop-i.invariant.0, c.requires.symbols)

pub loop-i-preserved : goal.loop-i-preserved
loop-i-preserved g c =
    let i = c.loop-i.i in
    let xs = c.args.segments.now in
    let x = c.index-segments-i.result in
    let size : c.octets_for-begin.result ≡ octets_for (length (g.S.AsSlice.items x)) = c.octets_for-begin.ensures ∙ ap (λ s. octets_for (length s)) c.as_slice-symbols.ensures in
    let before = c.loop-i.invariant in (
      omega (arith, size, before.0, length_more g.S.AsSlice.items xs i x (omega arith) c.index-segments-i.is),
      entry_put g.S.AsSlice.items xs i x (omega arith) c.index-segments-i.is c.args.memory.now c.loop-i.memory c.put_numbers.new.memory c.loop-i.begin
          before.0 before.1 (c.put_numbers.ensures ∙ ap (λ s. entry c.loop-i.begin s) c.as_slice-symbols.ensures),
    )
