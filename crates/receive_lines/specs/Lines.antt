-- The lines that are written of a pass, each with its end. Assumes nothing.
use Rattle.std.specs.Prelude.{◌≡◌, ℕ, Bool, true, false, List, [], ◌∷◌, ◌++◌, map, length, codes, decimal}
use Rattle.std.specs.List.{flat_map}
use Rattle.hex.specs.Hex.{encode_upper as capital_digits}
use Rattle.hold.specs.Candidates.{Candidate}
use Rattle.reception.specs.declared.Reason.{Reason}
use Rattle.reception.specs.declared.Reason.TheVariants.{Closed, Empty, Long, Full, Down}
use Rattle.reception.specs.declared.Report.{Report}
use Rattle.reception.specs.Reports.{report_text}
use Rattle.receive_lines.specs.declared.place.Place.{Place}
use Rattle.receive_lines.specs.declared.view.View.{View}
use Rattle.receive_lines.specs.declared.view.View.TheVariants.{Plain, Places, Candidates}

-- a report, and the place of the symbol that made it
pub record Told : Type 0 where
  pub place : Place
  pub report : Report

abbrev pub told_at : Place → Report → Told
told_at place one = record { place = place; report = one }

-- a line tells a report, or it shows a candidate
pub data Line : Type 0 where
  report_line : Told → Line
  frame_line : Candidate → Line

-- of a place the segment and the symbol
abbrev pub place_text : Place → List ℕ
place_text place = codes "at " ++ (decimal place.segment ++ (codes " " ++ (decimal place.symbol ++ codes "\n")))

-- of a candidate how many octets it has, and these in capitals
abbrev pub frame_text : Candidate → List ℕ
frame_text candidate =
    codes "frame " ++ (decimal (length candidate) ++ (codes " " ++ (capital_digits candidate ++ codes "\n")))

-- of a report the reason, the codeblocks and the corrections, and before it, where places are asked for, its place;
-- where candidates alone are asked for, only their octets
abbrev pub line_text : View → Line → List ℕ
line_text Plain (report_line one) = report_text one.report ++ codes "\n"
line_text Plain (frame_line candidate) = frame_text candidate
line_text Places (report_line one) = place_text one.place ++ (report_text one.report ++ codes "\n")
line_text Places (frame_line candidate) = frame_text candidate
line_text Candidates (report_line one) = []
line_text Candidates (frame_line candidate) = capital_digits candidate ++ codes "\n"

abbrev pub text_of : View → List Line → List ℕ
text_of view lines = flat_map (line_text view) lines

-- what the lines of each kind tell and show, in order
abbrev pub told_among : List Line → List Told
told_among [] = []
told_among (report_line one ∷ lines) = one ∷ told_among lines
told_among (frame_line candidate ∷ lines) = told_among lines

abbrev pub reports_in : List Told → List Report
reports_in tolds = map (λ one. one.report) tolds

abbrev pub reports_among : List Line → List Report
reports_among lines = reports_in (told_among lines)

abbrev pub frames_among : List Line → List Candidate
frames_among [] = []
frames_among (report_line one ∷ lines) = frames_among lines
frames_among (frame_line candidate ∷ lines) = candidate ∷ frames_among lines

abbrev pub is_closed : Reason → Bool
is_closed Closed = true
is_closed Empty = false
is_closed Long = false
is_closed Full = false
is_closed Down = false

-- a frame stands directly behind each *closed* and nowhere else; `due` says whether one is due at the beginning
abbrev pub AFrameBehindEachClosed : (due : Bool) → List Line → Type 0
AFrameBehindEachClosed due [] = due ≡ false
AFrameBehindEachClosed due (report_line one ∷ lines) =
    (due ≡ false) × AFrameBehindEachClosed (is_closed one.report.reason) lines
AFrameBehindEachClosed due (frame_line candidate ∷ lines) = (due ≡ true) × AFrameBehindEachClosed false lines

-- last, how many reports and frames there were, unless candidates alone are asked for
abbrev pub end_line : (reports frames : ℕ) → List ℕ
end_line reports frames = codes "end " ++ (decimal reports ++ (codes " " ++ (decimal frames ++ codes "\n")))

abbrev pub last_line : View → (reports frames : ℕ) → List ℕ
last_line Plain reports frames = end_line reports frames
last_line Places reports frames = end_line reports frames
last_line Candidates reports frames = []

-- lines with the last behind them
abbrev pub whole_text : View → List Line → List ℕ
whole_text view lines =
    text_of view lines ++ last_line view (length (told_among lines)) (length (frames_among lines))
