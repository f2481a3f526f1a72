-- Octets as bits, the first bit of each its most significant. Assumes nothing.
use Rattle.std.specs.Prelude.{ℕ, ◌/◌, ◌%◌, ◌^◌, Bool, List, [], ◌∷◌, ◌==◌}
use Rattle.std.specs.List.{flat_map}

-- the bit of an octet that has the weight 2 ^ d
abbrev pub bit_at : (d octet : ℕ) → Bool
bit_at d octet = octet / 2 ^ d % 2 == 1

abbrev pub octet_bits : ℕ → List Bool
octet_bits x =
    bit_at 7 x ∷ bit_at 6 x ∷ bit_at 5 x ∷ bit_at 4 x ∷ bit_at 3 x ∷ bit_at 2 x ∷ bit_at 1 x ∷ bit_at 0 x ∷ []

abbrev pub bits_of : List ℕ → List Bool
bits_of octets = flat_map octet_bits octets
