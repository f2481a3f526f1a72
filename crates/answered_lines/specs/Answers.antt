-- What an answer tells. Assumes nothing.
use Rattle.std.specs.Prelude.{◌≡◌, ℕ, List, string_bytes}
use Rattle.answered_lines.specs.declared.answering.Answer.{Answer}

-- an answer has this text, and counts so many
pub record Tells (text : List ℕ) (count : ℕ) (answer : Answer) : Type 0 where
  pub text_is : string_bytes answer.text ≡ text
  pub count_is : answer.counted ≡ count
