-- The vectors of a self test: eight octets each, of which seven are information. Assumes nothing.
use Rattle.std.specs.Prelude.{◌≡◌, ℕ, false, List, [], ◌∷◌, ◌++◌, take, replicate}
use Rattle.std.specs.Prelude.{Some, None, Option, slice_get, IsSomeAnd}
use Rattle.std.specs.List.{All}
use Rattle.std.specs.Int.Digits.{number_from_digits}
use Rattle.bch.specs.declared.Mode.{Mode}
use Rattle.bch.specs.Codeblock.{information_octets, codeblock}
use Rattle.bch.specs.Reception.{accepted, verdict}

-- the information of a vector
abbrev pub information_in : List ℕ → List ℕ
information_in vector = take information_octets vector

-- a vector is the codeblock of its own information
abbrev pub IsCodeblock : List ℕ → Type 0
IsCodeblock vector = vector ≡ codeblock (information_in vector)

-- the vector is accepted as undamaged, with its own information
abbrev pub IsAccepted : Mode → List ℕ → Type 0
IsAccepted mode vector = verdict mode (number_from_digits 256 vector) ≡ accepted (information_in vector) false

abbrev pub IsAcceptedByBothModes : List ℕ → Type 0
IsAcceptedByBothModes vector = (mode : Mode) → IsAccepted mode vector

-- the place of the first vector that is no codeblock: all before it are; or none, where all are
abbrev pub FailsFirst : List (List ℕ) → Option ℕ → Type 0
FailsFirst vectors None = All IsCodeblock vectors
FailsFirst vectors (Some place) =
    All IsCodeblock (take place vectors) × IsSomeAnd (slice_get vectors place) (λ vector. ¬ IsCodeblock vector)

-- four that were worked out by hand
abbrev pub worked_vectors : List (List ℕ)
worked_vectors =
    (replicate 7 0x00 ++ 0xFE ∷ [])
    ∷ (replicate 7 0xC5 ++ 0xFE ∷ [])
    ∷ (replicate 6 0x00 ++ 0x01 ∷ 0x74 ∷ [])
    ∷ (replicate 7 0x55 ++ 0xD6 ∷ [])
    ∷ []
