-- The segment is the one that its entry tells. Assumes nothing.
use Rattle.std.proofs.Common.{sym, ap, ◌∙◌, ap₂, take, drop, Some}
use Rattle.std.proofs.lemmas.List.{take_rest}
use Rattle.bch.specs.Bits.{bits_of}
use Rattle.pass_record.proofs.Within.{segment_there}
use Rattle.pass_record.proofs.record.PassRecord.told_segment.Goals as goal

pub returns : goal.returns
returns c =
    let octets = c.args.self.now.octets.now in
    let told = c.told_entry-entry in
    segment_there c.args.self.now c.args.i c.requires
    ∙ ap₂ (λ n xs. Some (take n (bits_of xs))) (sym told.ensures.symbols) (sym (take_rest octets told.result.begin ∙ ap (λ k. drop k octets) told.ensures.begin))
