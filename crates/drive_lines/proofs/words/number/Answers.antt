-- A digit that makes the number too large. Assumes nothing.
use Rattle.std.proofs.Common.{◌<◌, length, arith}
use Rattle.drive_lines.proofs.Numbers.{too_large}
use Rattle.drive_lines.proofs.words.number.Goals as goal

pub returns-then-value-most : goal.returns-then-value-most
returns-then-value-most c =
    let within : c.loop-digit.digit-index < length c.args.word.now = omega arith in
    too_large c.args.most c.loop-digit.value c.loop-digit.digit-index c.args.word.now within c.loop-digit.invariant.same
    (search c.if-not-is_ascii_digit.ensures.value) (omega arith)
