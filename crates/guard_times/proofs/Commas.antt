-- The texts between commas. Assumes nothing.
use Rattle.std.proofs.Common.{◌==◌}
use Rattle.std.proofs.lemmas.List.Splits.{slice_split_none, join_with_byte-slice_split}
use Rattle.guard_times.specs.Arguments.{CommasPart}

pub commas_part : CommasPart
commas_part = record {
  joined = join_with_byte-slice_split 44;
  alone = slice_split_none (λ b. b == 44);
}
