-- What is written to an answer. Assumes nothing.
use Rattle.std.specs.Prelude.{◌≡◌, ℕ, ◌+◌, List, ◌++◌, string_bytes}
use Rattle.answered_lines.specs.declared.answering.Answer.{Answer}

-- a text more, and so many frames
pub record Writes (more : List ℕ) (count : ℕ) (before after : Answer) : Type 0 where
  pub text : string_bytes after.text ≡ string_bytes before.text ++ more
  pub frames : after.counted ≡ before.counted + count
