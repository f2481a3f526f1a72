-- The lines of an input. Assumes nothing.
use Rattle.std.specs.Prelude.{◌≡◌, ◌≢◌, ℕ, Bool, false, cond, ◌&&◌, ◌==◌, List, [], ◌∷◌, ◌++◌}
use Rattle.std.specs.List.{AllByRecursion}

-- a newline is in front
abbrev pub newline_in_front : List ℕ → Bool
newline_in_front [] = false
newline_in_front (x ∷ further) = x == 10

-- an octet in front of the first line, or a line of its own if there is none
abbrev pub in_first_line : ℕ → List (List ℕ) → List (List ℕ)
in_first_line x [] = (x ∷ []) ∷ []
in_first_line x (line ∷ lines) = (x ∷ line) ∷ lines

-- an octet in front of lines: a newline ends a line; a carriage return before a newline is of the line's end; any other
-- octet is of the line
abbrev pub in_front : ℕ → Bool → List (List ℕ) → List (List ℕ)
in_front x before_newline lines =
    cond (x == 10) ([] ∷ lines)
    (cond (x == 13 && before_newline) lines
    (in_first_line x lines))

-- the lines, each without its end; the last may lack its end, and no line comes behind the last newline
abbrev pub lines_of : List ℕ → List (List ℕ)
lines_of [] = []
lines_of (x ∷ further) = in_front x (newline_in_front further) (lines_of further)

abbrev pub NoNewline : List ℕ → Type 0
NoNewline line = AllByRecursion (λ x. x ≢ 10) line

-- how lines end, whatever comes behind them: with a newline behind another octet than a carriage return, or behind none,
-- or with both, or with the octets
pub record LinesEnd : Type 0 where
  pub newline : (line : List ℕ) (x : ℕ) (further : List ℕ) → NoNewline (line ++ x ∷ []) → x ≢ 13
      → lines_of ((line ++ x ∷ []) ++ 10 ∷ further) ≡ (line ++ x ∷ []) ∷ lines_of further
  pub newline_alone : (further : List ℕ) → lines_of (10 ∷ further) ≡ [] ∷ lines_of further
  pub both : (line further : List ℕ) → NoNewline line → lines_of (line ++ 13 ∷ 10 ∷ further) ≡ line ∷ lines_of further
  pub without_end : (line : List ℕ) (x : ℕ) → NoNewline (line ++ x ∷ [])
      → lines_of (line ++ x ∷ []) ≡ (line ++ x ∷ []) ∷ []
  pub nothing : lines_of [] ≡ []
