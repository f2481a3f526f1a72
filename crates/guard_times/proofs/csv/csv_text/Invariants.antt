-- The text so far, with the lines of the rows to come, is the text of all. Assumes nothing.
use Rattle.std.proofs.Common.{◌≡◌, ◌++◌, drop, string_bytes}
use Rattle.std.specs.List.{flat_map}
use Rattle.guard_times.specs.Csv.{csv_line, csv_text}
use Rattle.guard_times.proofs.csv.csv_text.Given as goal

abbrev pub invariant-loop-row : goal.invariant-loop-row
invariant-loop-row l = string_bytes l.text ++ flat_map csv_line (drop l.row-index l.rows) ≡ csv_text l.rows
