-- Lines one after the other, and all that is printed for them. Assumes nothing.
use Rattle.std.specs.Prelude.{ℕ, ◌+◌, ◌==◌, List, [], ◌∷◌, ◌++◌, length, map, Option, None, codes, decimal}
use Rattle.std.specs.List.{slice_split, sum_by}
use Rattle.hold.specs.Candidates.{Showing}
use Rattle.reception.specs.declared.Report.{Report}
use Rattle.reception.specs.Decoding.{Settings}
use Rattle.reception.specs.Calls.{Call}
use Rattle.drive_lines.specs.Asked.{Reading, passed_over, asks, unreadable, reading}
use Rattle.drive_lines.specs.Driven.{Driven, call_for, reports_text, after_asked, reports_after, answer_to}

-- a newline ends a line; what stands behind the last is a line too, which is passed over where it is empty
abbrev pub lines_of : List ℕ → List (List ℕ)
lines_of octets = slice_split (λ x. x == 10) octets

-- the call that a line makes, if it makes one
abbrev pub call_in : (slots : ℕ) → Reading → Option Call
call_in slots passed_over = None
call_in slots (asks asked) = call_for slots asked
call_in slots unreadable = None

-- lines that are passed over are not answered
abbrev pub answered_in : Reading → ℕ
answered_in passed_over = 0
answered_in (asks asked) = 1
answered_in unreadable = 1

module _ (settings : Settings) (showing : Showing) (slots : ℕ) where
  abbrev pub after_line : Driven → Reading → Driven
  after_line d line = after_asked settings showing d (call_in slots line)

  abbrev pub reports_at : Driven → Reading → List Report
  reports_at d line = reports_after settings showing slots d (call_in slots line)

  -- the answer to a line, and behind it a line for each report
  abbrev pub text_at : Driven → Reading → List ℕ
  text_at d passed_over = []
  text_at d (asks asked) =
      answer_to settings showing slots d asked ++ (codes "\n" ++ reports_text (reports_after settings showing slots d (call_for slots asked)))
  text_at d unreadable = codes "unreadable\n"

  abbrev pub after_lines : Driven → List Reading → Driven
  after_lines d [] = d
  after_lines d (line ∷ lines) = after_lines (after_line d line) lines

  abbrev pub text_for : Driven → List Reading → List ℕ
  text_for d [] = []
  text_for d (line ∷ lines) = text_at d line ++ text_for (after_line d line) lines

  abbrev pub reports_for : Driven → List Reading → ℕ
  reports_for d [] = 0
  reports_for d (line ∷ lines) = length (reports_at d line) + reports_for (after_line d line) lines

-- the last line: how many lines were answered, and how many reports printed
abbrev pub end_line : (lines reports : ℕ) → List ℕ
end_line lines reports = codes "end " ++ (decimal lines ++ (codes " " ++ (decimal reports ++ codes "\n")))

-- all that is printed for these octets
abbrev pub printed : Settings → Showing → (slots : ℕ) → Driven → List ℕ → List ℕ
printed settings showing slots d octets =
    let lines = map reading (lines_of octets) in
    text_for settings showing slots d lines ++ end_line (sum_by answered_in lines) (reports_for settings showing slots d lines)
