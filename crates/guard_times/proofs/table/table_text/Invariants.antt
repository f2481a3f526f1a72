-- The text so far, with the lines of the rows to come and the note, is the text of all. Assumes nothing.
use Rattle.std.proofs.Common.{◌≡◌, ◌++◌, drop, string_bytes}
use Rattle.std.specs.List.{flat_map}
use Rattle.guard_times.specs.Table.{table_line, table_text, note}
use Rattle.guard_times.proofs.table.table_text.Given as goal

abbrev pub invariant-loop-row : goal.invariant-loop-row
invariant-loop-row l = string_bytes l.text ++ (flat_map table_line (drop l.row-index l.rows) ++ note l.rate) ≡ table_text l.rate l.rows
