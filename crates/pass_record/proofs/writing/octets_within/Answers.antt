-- The octets of the segments so far are no more than those of all. Assumes nothing.
use Rattle.std.proofs.Common.{◌≡◌, ◌+◌, ◌<◌, map, length, ap, ◌∙◌, arith}
use Rattle.std.proofs.lemmas.Bool.Decides.{nat_tests}
use Rattle.pass_record.specs.Record.{octets_for, record_of}
use Rattle.pass_record.proofs.Written.{record_most, record_more}
use Rattle.pass_record.proofs.writing.octets_within.Goals as goal

pub returns-in_err-octets : goal.returns-in_err-octets
returns-in_err-octets g c =
    let i = c.loop-segment.segment-index in
    let items = g.S.AsSlice.items in
    let xs = c.args.segments.now in
    let x = c.segment-item.result in
    let size : c.octets_for.result ≡ octets_for (length (items x)) = c.octets_for.ensures ∙ ap (λ s. octets_for (length s)) c.as_slice.ensures in
    let more = record_more items xs i x (omega arith) c.segment-item.is in
    let over : c.args.most < length (record_of (map items xs)) = omega (arith, c.in_err-octets.ensures, record_most items xs (i + 1) (omega arith), c.loop-segment.invariant) in
    let none = c.from_residual.ensures in
    grind (arith, nat_tests)

pub loop-segment-preserved : goal.loop-segment-preserved
loop-segment-preserved g c =
    let i = c.loop-segment.segment-index in
    let items = g.S.AsSlice.items in
    let xs = c.args.segments.now in
    let x = c.segment-item.result in
    let size : c.octets_for.result ≡ octets_for (length (items x)) = c.octets_for.ensures ∙ ap (λ s. octets_for (length s)) c.as_slice.ensures in
    omega (arith, c.in_ok-octets.ensures, c.loop-segment.invariant, record_more items xs i x (omega arith) c.segment-item.is)
