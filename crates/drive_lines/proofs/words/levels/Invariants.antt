-- The levels so far, in front of those to come, are all. Assumes nothing.
use Rattle.std.proofs.Common.{◌≡◌, ◌++◌, drop, map}
use Rattle.std.specs.Option.{option_map}
use Rattle.drive_lines.specs.Words.{all_written, level, levels}
use Rattle.drive_lines.proofs.words.levels.Given as goal

abbrev pub invariant-loop-part : goal.invariant-loop-part
invariant-loop-part l =
    option_map (λ xs. l.levels.items ++ xs) (all_written level (map (λ w. w.now) (drop l.part-index l.part-items))) ≡ levels l.word
