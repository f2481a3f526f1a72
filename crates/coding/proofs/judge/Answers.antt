-- The answer of `judge` is the verdict, and so has its laws. Assumes nothing.
use Rattle.std.proofs.Common.{◌≡◌, sym, subst, rules}
use Rattle.bch.specs.Reception.{verdict}
use Rattle.bch.specs.Laws.{UndamagedIsAccepted, OneWrongBitIsCorrected, TwoWrongBitsAreRejected, OneOrThreeWrongBitsAreDetected, TheFillerDecidesNothing}
use Rattle.bch.proofs.Laws.{undamaged_is_accepted, one_wrong_bit_is_corrected, two_wrong_bits_are_rejected, one_or_three_wrong_bits_are_detected, the_filler_decides_nothing}
use Rattle.coding.proofs.judge.Goals as goal

pub returns : goal.returns
returns c =
    let mode = c.args.mode in
    let word = c.args.word in
    let fits = c.ranges.word.fits in
    let value : c.judged.result ≡ verdict mode word = search rules in
    record {
      value = value;
      undamaged = subst (UndamagedIsAccepted word) (sym value) (undamaged_is_accepted mode word fits);
      one_wrong_bit = subst (OneWrongBitIsCorrected mode word) (sym value) (one_wrong_bit_is_corrected mode word fits);
      two_wrong_bits = subst (TwoWrongBitsAreRejected word) (sym value) (two_wrong_bits_are_rejected mode word fits);
      one_or_three = subst (OneOrThreeWrongBitsAreDetected mode word) (sym value) (one_or_three_wrong_bits_are_detected mode word fits);
      filler = subst (TheFillerDecidesNothing mode word) (sym value) (the_filler_decides_nothing mode word);
    }
