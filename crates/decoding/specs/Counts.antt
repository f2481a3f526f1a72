-- What a codeblock makes of the counts of a candidate, in the words of the rules. Assumes nothing.
use Rattle.std.specs.Prelude.{ℕ, ◌≤◌}
use Rattle.std.specs.declared.ops.ControlFlow.{ControlFlow}
use Rattle.std.specs.declared.ops.ControlFlow.TheVariants.{Continue, Break}
use Rattle.cltu.specs.Limit.{most_codeblocks}
use Rattle.reception.specs.declared.Report.{Report}
use Rattle.reception.specs.Decoding.{Held, reading, Decoded, goes_on, ends}

-- so many codeblocks and corrections, with no symbol of the next codeblock
abbrev pub counted_as : ControlFlow Report (ℕ × ℕ) → Held → Decoded
counted_as (Continue counts) held = goes_on held (reading 0 0 counts.0 counts.1)
counted_as (Break report) held = ends held report

-- the counts are those of a CLTU
abbrev pub CountsFew : ControlFlow Report (ℕ × ℕ) → Type 0
CountsFew (Continue counts) = (counts.0 ≤ most_codeblocks) × (counts.1 ≤ counts.0)
CountsFew (Break report) = Unit {0}
