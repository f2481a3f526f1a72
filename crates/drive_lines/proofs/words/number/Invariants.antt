-- The digits so far are not too large. Assumes nothing.
use Rattle.std.proofs.Common.{◌≡◌, ◌≤◌, drop}
use Rattle.drive_lines.specs.Words.{value_behind}
use Rattle.drive_lines.proofs.words.number.Given as goal

abbrev pub invariant-loop-digit : goal.invariant-loop-digit
invariant-loop-digit l = record {
  few : l.value ≤ l.most;
  same : value_behind l.value (drop l.digit-index l.word) ≡ value_behind 0 l.word;
}
