-- The remainder of a received word, by its information and its check bits. Assumes nothing.
use Rattle.std.proofs.Common.{◌*◌, ◌^◌, ap, ◌∙◌}
use Rattle.std.specs.Int.Digits.{number_from_digits}
use Rattle.bch.specs.Polynomial.{◌⊕◌, remainder}
use Rattle.bch.specs.Codeblock.{generator}
use Rattle.bch.proofs.Division.{division_leaves_the_remainder}
use Rattle.coding.proofs.Received.{received_remainder, received_below}
use Rattle.coding.proofs.received_remainder.Goals as goal

pub returns : goal.returns
returns c =
    let word = c.args.word in
    let r = c.information_remainder.result.bits in
    record {
      value = c.complemented.ensures ∙ ap (λ x. x ⊕ 127) (c.plus.ensures ∙ ap (λ x. r ⊕ x) c.check_in.ensures)
          ∙ received_remainder word r c.ranges.word.fits (c.information_remainder.ensures ∙ ap (λ xs. remainder generator 7 (2 ^ 7 * number_from_digits 256 xs)) c.information_in.ensures);
      degree = received_below word c.ranges.word.fits;
      division = division_leaves_the_remainder;
    }
