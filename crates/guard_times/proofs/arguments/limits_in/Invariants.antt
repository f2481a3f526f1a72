-- The limits so far are those of the texts so far. Assumes nothing.
use Rattle.std.proofs.Common.{map, take}
use Rattle.guard_times.specs.Arguments.{WriteLimits}
use Rattle.guard_times.proofs.arguments.limits_in.Given as goal

abbrev pub invariant-loop-text : goal.invariant-loop-text
invariant-loop-text l = WriteLimits (map (λ text. text.now) (take l.text-index l.texts)) l.limits.items
