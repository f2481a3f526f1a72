-- One bit more. Assumes nothing.
use Rattle.std.proofs.Common.{◌-◌, ◌+◌, ◌++◌, not, ap, ◌∙◌, arith}
use Rattle.reception.specs.Runs.{idle}
use Rattle.drive_lines.proofs.Written.{one_bit_more}
use Rattle.drive_lines.proofs.line.idle.Goals as goal

pub loop-preserved : goal.loop-preserved
loop-preserved c =
    ap (λ l. l ++ idle (not c.loop.bit) (c.args.count - (c.loop.counter + 1))) c.in_ok-push.ensures.items
    ∙ one_bit_more c.loop.bits.items c.loop.bit (c.args.count - c.loop.counter) (c.args.count - (c.loop.counter + 1)) (omega arith)
    ∙ c.loop.invariant
