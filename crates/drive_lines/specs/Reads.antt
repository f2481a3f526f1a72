-- What is read of an input for a line. Assumes nothing.
use Rattle.std.specs.Prelude.{◌≡◌, ℕ, Bool, true, false, ◌==◌, List, [], ◌∷◌, ◌++◌, All, Option, IfSome}
use Rattle.std.specs.Io.KnownBytes.{Consumes, IsAtEnd}

-- a line with the newline behind it, or, at the end of the input, without one
abbrev pub ReadsLine : (input input_after : Option (List ℕ)) → (line : List ℕ) → (more : Bool) → Type 0
ReadsLine input input_after line true =
    Consumes input input_after (line ++ 10 ∷ []) × All (λ x. (x == 10) ≡ false) line
ReadsLine input input_after line false =
    Consumes input input_after line × All (λ x. (x == 10) ≡ false) line × IfSome input (λ _. IsAtEnd input_after)
