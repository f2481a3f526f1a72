-- All that is told of the guard times that are asked for. Assumes nothing.
use Rattle.std.specs.Prelude.{◌≡◌, ℕ, List, Option}
use Rattle.guard_times.specs.declared.bit_rate.BitRate.{BitRate}
use Rattle.guard_times.specs.declared.row.Row.{Row}
use Rattle.guard_times.specs.declared.asked.Asked.{Asked}
use Rattle.guard_times.specs.declared.asked.Form.{Form}
use Rattle.guard_times.specs.declared.asked.Form.TheVariants.{Table, Csv}
use Rattle.guard_times.specs.Rows.{AreRowsOf, guards_asked}
use Rattle.guard_times.specs.Csv.{csv_text}
use Rattle.guard_times.specs.Table.{table_text}

abbrev pub text_in : Form → Option BitRate → List Row → List ℕ
text_in Table rate rows = table_text rate rows
text_in Csv rate rows = csv_text rows

-- the text has a row for each of the guard times that are asked for, in order
pub record Answers (asked : Asked) (text : List ℕ) : Type 0 where
  pub rows : List Row
  pub are : AreRowsOf (guards_asked asked.mode asked.limits.items) asked.rate rows
  pub written : text ≡ text_in asked.form asked.rate rows

-- that is one text
abbrev pub OneText : Type 0
OneText = (asked : Asked) (a b : List ℕ) → Answers asked a → Answers asked b → a ≡ b
