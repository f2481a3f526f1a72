-- The bits so far, in front of those to come, are all. Assumes nothing.
use Rattle.std.proofs.Common.{◌≡◌, ◌++◌, drop}
use Rattle.std.specs.Option.{option_map}
use Rattle.drive_lines.specs.Words.{bits}
use Rattle.drive_lines.proofs.words.bits.Given as goal

abbrev pub invariant-loop-digit : goal.invariant-loop-digit
invariant-loop-digit l = option_map (λ xs. l.bits.items ++ xs) (bits (drop l.digit-index l.word)) ≡ bits l.word
