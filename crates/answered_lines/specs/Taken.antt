-- What lines have taken of an input. Assumes nothing.
use Rattle.std.specs.Prelude.{◌≡◌, ◌≢◌, ℕ, ◌+◌, List, [], ◌∷◌, ◌++◌, length}
use Rattle.hexadecimal.specs.declared.digit_reader.DigitReader.{DigitReader}
use Rattle.hexadecimal.specs.Reading.{HasRead, most_kept}
use Rattle.answered_lines.specs.Meaning.{Meaning}
use Rattle.answered_lines.specs.Lines.{lines_of, NoNewline}
use Rattle.answered_lines.specs.Printed.{line_text, line_count, answers, counted, printed}
use Rattle.answered_lines.specs.declared.lines.Last.{Last}
use Rattle.answered_lines.specs.declared.lines.Last.TheVariants.{Newline, CarriageReturn, Other}
use Rattle.answered_lines.specs.declared.lines.AnsweredLines.{AnsweredLines}

-- what has come of the open line and is not read
abbrev pub waiting : Last → List ℕ
waiting Newline = []
waiting CarriageReturn = 13 ∷ []
waiting Other = []

-- what came last, where this is read of the open line
abbrev pub CameLast : Last → List ℕ → Type 0
CameLast Newline line = line ≡ []
CameLast CarriageReturn line = Unit {0}
CameLast Other line = (front : List ℕ) × (x : ℕ) × (line ≡ front ++ x ∷ []) × (x ≢ 13)

-- a reader has read these octets more
abbrev pub Reads : List ℕ → DigitReader → DigitReader → Type 0
Reads more before after =
    ((line : List ℕ) → HasRead before line → HasRead after (line ++ more)) × (most_kept after ≡ most_kept before)

-- what answers the lines
abbrev pub answering_of : {A : Type 0} → AnsweredLines A → A
answering_of taking = taking.answering

module _ {A : Type 0} (meaning_of : A → Meaning) (taking : AnsweredLines A) (octets text : List ℕ) where
  -- these octets have come: the lines that end in them are done and answered by this text, and what stands behind them
  -- is of the open line
  pub record HasTaken : Type 0 where
    pub done : List (List ℕ)
    pub line : List ℕ
    pub splits : (further : List ℕ)
        → lines_of (octets ++ further) ≡ done ++ lines_of ((line ++ waiting taking.last) ++ further)
    pub no_newline : NoNewline line
    pub came_last : CameLast taking.last line
    pub has_read : HasRead taking.reader line
    pub most : most_kept taking.reader ≡ (meaning_of taking.answering).most
    pub lines_are : taking.lines ≡ length done
    pub counted_are : taking.counted ≡ counted (meaning_of taking.answering) done
    pub text_is : text ≡ answers (meaning_of taking.answering) done

  -- these octets are all: their lines are counted, and answered by this text
  pub record IsDone : Type 0 where
    pub lines_are : taking.lines ≡ length (lines_of octets)
    pub counted_are : taking.counted ≡ counted (meaning_of taking.answering) (lines_of octets)
    pub text_is : text ≡ answers (meaning_of taking.answering) (lines_of octets)

-- more is written behind a text, whatever that is, and this holds of it
abbrev pub WritesMore : (text text_after : List ℕ) → (List ℕ → Type 0) → Type 0
WritesMore text text_after Holds = (more : List ℕ) × (text_after ≡ text ++ more) × Holds more

-- this is the answer of a line, and counts so many
pub record TellsLine (meaning : Meaning) (line text : List ℕ) (count : ℕ) : Type 0 where
  pub text_is : text ≡ line_text meaning line
  pub count_is : count ≡ line_count meaning line

module _ {A : Type 0} (meaning_of : A → Meaning) (before after : AnsweredLines A) where
  -- a line is answered by this text and counted, and none is open
  pub record AnswersLine (line text : List ℕ) : Type 0 where
    pub text_is : text ≡ line_text (meaning_of before.answering) line
    pub lines_more : after.lines ≡ before.lines + 1
    pub counted_more : after.counted ≡ before.counted + line_count (meaning_of before.answering) line
    pub last : after.last ≡ Newline
    pub has_read : HasRead after.reader []
    pub most : most_kept after.reader ≡ most_kept before.reader

  -- further octets come, whatever came and was answered before them, and the answers of the lines that end in them are
  -- written behind the text
  abbrev pub Takes : (further text text_after : List ℕ) → Type 0
  Takes further text text_after = WritesMore text text_after (λ more.
      (octets all : List ℕ) → HasTaken meaning_of before octets all
      → HasTaken meaning_of after (octets ++ further) (all ++ more))

  -- what is read is answered as a line, behind the text
  abbrev pub AnswersWhatIsRead : (text text_after : List ℕ) → Type 0
  AnswersWhatIsRead text text_after = WritesMore text text_after (λ more.
      (line : List ℕ) → HasRead before.reader line → most_kept before.reader ≡ (meaning_of before.answering).most
      → AnswersLine line more)

module _ {A : Type 0} (meaning_of : A → Meaning) (taking : AnsweredLines A) where
  -- the answer of what is read is written behind the text, and counts so many
  abbrev pub TellsWhatIsRead : (text text_after : List ℕ) (count : ℕ) → Type 0
  TellsWhatIsRead text text_after count = WritesMore text text_after (λ more.
      (line : List ℕ) → HasRead taking.reader line → most_kept taking.reader ≡ (meaning_of taking.answering).most
      → TellsLine (meaning_of taking.answering) line more count)

  -- nothing comes any more, whatever came and was answered: what is still to be answered is, behind the text
  abbrev pub EndsWith : (after : AnsweredLines A) (text text_after : List ℕ) → Type 0
  EndsWith after text text_after = WritesMore text text_after (λ more.
      (octets all : List ℕ) → HasTaken meaning_of taking octets all → IsDone meaning_of after octets (all ++ more))

  -- and so is the line for the end: all is printed
  abbrev pub PrintsToTheEnd : (text text_after : List ℕ) → Type 0
  PrintsToTheEnd text text_after = WritesMore text text_after (λ more.
      (octets all : List ℕ) → HasTaken meaning_of taking octets all
      → all ++ more ≡ printed (meaning_of taking.answering) octets)
