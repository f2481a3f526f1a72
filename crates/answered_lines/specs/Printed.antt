-- What is printed for an input. Assumes nothing.
use Rattle.std.specs.Prelude.{ℕ, List, ◌++◌, length, Option, Some, None, codes, decimal}
use Rattle.std.specs.List.{flat_map, sum_by}
use Rattle.hexadecimal.specs.Text.{octets_written}
use Rattle.answered_lines.specs.Meaning.{Meaning}
use Rattle.answered_lines.specs.Lines.{lines_of}

-- the text and the count of the octets of a line, or those of a line that is not whole octets
abbrev pub text_of : Meaning → Option (List ℕ) → List ℕ
text_of meaning None = codes "unreadable\n"
text_of meaning (Some octets) = meaning.text octets

abbrev pub count_of : Meaning → Option (List ℕ) → ℕ
count_of meaning None = 0
count_of meaning (Some octets) = meaning.count octets

-- what a line is answered by, and what that counts
abbrev pub line_text : Meaning → List ℕ → List ℕ
line_text meaning line = text_of meaning (octets_written line)

abbrev pub line_count : Meaning → List ℕ → ℕ
line_count meaning line = count_of meaning (octets_written line)

-- the answers of lines, one behind the other, and what they count together
abbrev pub answers : Meaning → List (List ℕ) → List ℕ
answers meaning lines = flat_map (line_text meaning) lines

abbrev pub counted : Meaning → List (List ℕ) → ℕ
counted meaning lines = sum_by (line_count meaning) lines

-- the last line: how many lines there were, and how many of what the program counts
abbrev pub end_line : (lines counted : ℕ) → List ℕ
end_line lines counted = codes "end " ++ (decimal lines ++ (codes " " ++ (decimal counted ++ codes "\n")))

-- all that is printed for these octets
abbrev pub printed : Meaning → List ℕ → List ℕ
printed meaning input =
    let lines = lines_of input in
    answers meaning lines ++ end_line (length lines) (counted meaning lines)
