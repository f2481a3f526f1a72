-- The randomizer: its sequence of bits, the octet of the sequence at a place, and octets with the sequence added.
-- Assumes nothing.
use Rattle.std.specs.Prelude.{◌≡◌, ℕ, zero, suc, ◌+◌, ◌*◌, ◌%◌, ◌<◌, List, [], ◌∷◌, bit_xor}
use Rattle.std.specs.Int.Digits.{number_from_digits}
use Rattle.randomizer.specs.declared.Randomizer.{Randomizer}
use Rattle.randomizer.specs.declared.Randomizer.TheVariants.{On, Off}

-- the bit n places on, in a sequence whose next eight bits are a to h
abbrev pub bit_after : (a b c d e f g h : ℕ) → ℕ → ℕ
bit_after a b c d e f g h zero = a
bit_after a b c d e f g h (suc n) = bit_after b c d e f g h ((a + b + c + d + e + g) % 2) n

-- bit n of the randomizer's sequence, which begins with eight ones
abbrev pub sequence_bit : ℕ → ℕ
sequence_bit n = bit_after 1 1 1 1 1 1 1 1 n

-- the rule by which the sequence is known: eight ones, and then each bit is the sum modulo 2 of six of the eight
-- before it
pub record FollowsTheRule (bit : ℕ → ℕ) : Type 0 where
  pub begins : (n : ℕ) → n < 8 → bit n ≡ 1
  pub goes_on : (n : ℕ) →
      bit (n + 8) ≡ (bit n + bit (n + 1) + bit (n + 2) + bit (n + 3) + bit (n + 4) + bit (n + 6)) % 2

-- the first eight bits as an octet, the first bit the most significant
abbrev pub octet_of : (ℕ → ℕ) → ℕ
octet_of bit = number_from_digits 2 (bit 0 ∷ bit 1 ∷ bit 2 ∷ bit 3 ∷ bit 4 ∷ bit 5 ∷ bit 6 ∷ bit 7 ∷ [])

-- the eight bits of the sequence at the place of an octet
abbrev pub sequence_octet : ℕ → ℕ
sequence_octet place = octet_of (λ i. sequence_bit (8 * place + i))

-- the next octets, in a sequence whose next eight bits are a to h
abbrev pub octets_after : (count a b c d e f g h : ℕ) → List ℕ
octets_after zero a b c d e f g h = []
octets_after (suc count) a b c d e f g h =
    let bit = bit_after a b c d e f g h in
    octet_of bit ∷ octets_after count (bit 8) (bit 9) (bit 10) (bit 11) (bit 12) (bit 13) (bit 14) (bit 15)

-- the first octets of the sequence
abbrev pub first_octets : ℕ → List ℕ
first_octets count = octets_after count 1 1 1 1 1 1 1 1

-- what is added, bit by bit modulo 2, to the octet at a place: the sequence, or nothing where the randomizer is off
abbrev pub added_at : Randomizer → ℕ → ℕ
added_at On place = sequence_octet place
added_at Off place = 0

-- octets that stand from a place on, each with what is added there
abbrev pub randomized_from : Randomizer → ℕ → List ℕ → List ℕ
randomized_from r place [] = []
randomized_from r place (x ∷ xs) = bit_xor x (added_at r place) ∷ randomized_from r (suc place) xs

-- a whole frame, which begins at place 0: the sequence begins anew with each CLTU
abbrev pub randomized : Randomizer → List ℕ → List ℕ
randomized r xs = randomized_from r 0 xs

-- who adds the same sequence once more has the frame as it was
abbrev pub RandomizingTwiceGivesBack : Type 0
RandomizingTwiceGivesBack = (r : Randomizer) (xs : List ℕ) → randomized r (randomized r xs) ≡ xs
