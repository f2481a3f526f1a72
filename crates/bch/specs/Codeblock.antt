-- A codeblock: seven octets of information, and an octet of their seven check bits and the filler, a bit that is 0.
-- Bits are taken as numbers, the first bit the highest. Assumes nothing.
use Rattle.std.specs.Prelude.{◌≡◌, ℕ, ◌*◌, ◌/◌, ◌%◌, ◌^◌, List, [], ◌∷◌, ◌++◌, length}
use Rattle.std.specs.Int.Digits.{number_from_digits, AllBelowBase}
use Rattle.bch.specs.Polynomial.{◌⊕◌, remainder}

-- X^7 + X^6 + X^2 + 1
abbrev pub generator : ℕ
generator = 0b11000101

-- seven bits, each turned
abbrev pub complemented : ℕ → ℕ
complemented bits = bits ⊕ 0b1111111

-- the check bits of the information polynomial I(X), whose degree is at most 55
abbrev pub check_bits : ℕ → ℕ
check_bits i = complemented (remainder generator 7 (2 ^ 7 * i))

-- a codeblock has seven octets of information
abbrev pub information_octets : ℕ
information_octets = 7

-- and one octet more, of seven check bits and the filler
abbrev pub codeblock_octets : ℕ
codeblock_octets = 8

abbrev pub Information : List ℕ → Type 0
Information octets = (length octets ≡ information_octets) × AllBelowBase 256 octets

-- the codeblock of seven octets: these, and an octet of the check bits and the filler
abbrev pub codeblock : List ℕ → List ℕ
codeblock information = information ++ 2 * check_bits (number_from_digits 256 information) ∷ []

-- the 64 bits of a codeblock
abbrev pub sent : List ℕ → ℕ
sent information = number_from_digits 256 (codeblock information)

-- the octet of a word whose last bit has the weight 2 ^ d
abbrev pub octet : ℕ → ℕ → ℕ
octet d word = word / 2 ^ d % 256

-- the seven octets of information in a word of 64 bits
abbrev pub information_of : ℕ → List ℕ
information_of word =
    octet 56 word ∷ octet 48 word ∷ octet 40 word ∷ octet 32 word ∷ octet 24 word ∷ octet 16 word ∷ octet 8 word ∷ []
