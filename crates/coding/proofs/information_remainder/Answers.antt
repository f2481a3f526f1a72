-- What `information_remainder` leaves to show: the turns of its loop over the octets. Assumes nothing.
use Rattle.std.proofs.Common.{◌^◌, ◌<◌, get_or, sym, ◌∙◌, subst, arith}
use lib.Bits.{xor_lt}
use Rattle.bch.specs.Codeblock.{generator}
use Rattle.bch.proofs.Division.{divided_zero}
use Rattle.coding.proofs.Remainders.{octet_remainder_below, step}
use Rattle.coding.proofs.information_remainder.Goals as goal

pub loop-octet-init : goal.loop-octet-init
loop-octet-init c = (sym (divided_zero generator 7 64), omega arith)

pub loop-octet-preserved : goal.loop-octet-preserved
loop-octet-preserved c =
    let is = c.octet_remainder-bits.ensures in
    let inv = c.loop-octet.invariant in
    let xs = c.args.information.now in
    let r = c.loop-octet.bits in
    let i = c.loop-octet.octet-index in (
      is ∙ step xs c.fits-information i r c.loop-octet-test.true c.told-information inv.0 inv.1,
      subst (λ x. x < 2 ^ 7) (sym is) (octet_remainder_below _ (xor_lt 8 _ (get_or xs i 0) (omega arith) (c.fits-information i))),
    )
