-- The number and the word of each reason for which decoding ends, and a report as text. Assumes nothing.
use Rattle.std.specs.Prelude.{ℕ, List, ◌++◌, codes, decimal}
use Rattle.reception.specs.declared.Reason.{Reason}
use Rattle.reception.specs.declared.Reason.TheVariants.{Closed, Empty, Long, Full, Down}
use Rattle.reception.specs.declared.Report.{Report}

abbrev pub reason_number : Reason → ℕ
reason_number Closed = 1
reason_number Empty = 2
reason_number Long = 3
reason_number Full = 4
reason_number Down = 5

abbrev pub reason_word : Reason → List ℕ
reason_word Closed = codes "closed"
reason_word Empty = codes "empty"
reason_word Long = codes "long"
reason_word Full = codes "full"
reason_word Down = codes "down"

-- the reason, the codeblocks and the corrections
abbrev pub report_text : Report → List ℕ
report_text one =
    reason_word one.reason ++ (codes " " ++ (decimal one.codeblocks ++ (codes " " ++ decimal one.corrections)))
