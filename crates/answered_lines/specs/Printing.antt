-- What reading an input to its end prints. Assumes nothing.
use Rattle.std.specs.Prelude.{ℕ, List, Option}
use Rattle.std.specs.Io.KnownBytes.{Appends, Consumes, IsAtEnd}
use Rattle.answered_lines.specs.Meaning.{Meaning}
use Rattle.answered_lines.specs.Printed.{printed}

-- the octets that the reader gave are all that it had, and the writer has got the text for them
pub record PrintsAll (meaning : Meaning) (input input_after output output_after : Option (List ℕ)) : Type 0 where
  pub octets : List ℕ
  pub given : Consumes input input_after octets
  pub all : IsAtEnd input_after
  pub text : Appends output output_after (printed meaning octets)
