-- An eighth of the place as many octets on, the symbol stands. Assumes nothing.
use Rattle.std.proofs.Common.{◌-◌, ◌/◌, ◌%◌, ◌^◌, false, eqb, get_or, Some, sym, ap, ◌∙◌, arith}
use Rattle.std.proofs.lemmas.Nat.{and_mask}
use Rattle.std.proofs.lemmas.List.{get_or-take}
use Rattle.std.proofs.lemmas.Option.{slice_get-get_or}
use Rattle.bch.specs.Bits.{bits_of}
use Rattle.pass_record.specs.Segments.{symbols_in}
use Rattle.pass_record.proofs.Packing.{bits_of_at}
use Rattle.pass_record.proofs.Within.{length_symbols}
use Rattle.pass_record.proofs.segment.Segment.symbol.Goals as goal

pub returns : goal.returns
returns c =
    let segment = c.args.self.now in
    let octets = segment.octets.now in
    let place = c.args.place in
    let bits = get_or octets (place / 8) 0 / 2 ^ (7 - place % 8) in
    slice_get-get_or (symbols_in segment) place false c.requires
    ∙ ap Some
    (get_or-take segment.symbols (bits_of octets) place false (omega (arith, c.requires, length_symbols segment))
    ∙ bits_of_at octets place false (omega (arith, c.requires, length_symbols segment, segment.held)) ∙ ap (λ x. eqb x 1) (sym (and_mask bits 1)))
