-- What is made of 64 received bits, and what the code promises of wrong bits. A word of 64 bits is a number, the first
-- bit the highest. Assumes nothing.
use Rattle.std.specs.Prelude.{ℕ, Bool, List, zero, suc, ◌/◌, ◌%◌, ◌^◌, true, false, cond, Some, None, Option, ◌==◌}
use Rattle.bch.specs.declared.Mode.{Mode}
use Rattle.bch.specs.declared.Mode.TheVariants.{Detecting, Correcting}
use Rattle.bch.specs.declared.Accepted.{Accepted}
use Rattle.bch.specs.Polynomial.{◌⊕◌, weight, remainder}
use Rattle.bch.specs.Codeblock.{complemented, information_of}

-- X^6 + X + 1
abbrev pub syndrome_polynomial : ℕ
syndrome_polynomial = 0b1000011

-- the first 63 bits as a polynomial, the first bit at degree 62, with the check bits complemented;
-- the filler is left out
abbrev pub received : ℕ → ℕ
received word = complemented (word / 2)

-- the parity of the received polynomial, and its remainder by X^6 + X + 1 as a number
abbrev pub syndrome : ℕ → ℕ × ℕ
syndrome word = (weight 63 (received word) % 2, remainder syndrome_polynomial 6 (received word))

-- the remainder of X^d by X^6 + X + 1
abbrev pub power_remainder : ℕ → ℕ
power_remainder d = remainder syndrome_polynomial 6 (2 ^ d)

-- the first of k degrees from d on whose power of X has the remainder n
unfoldable pub place_from : (d k n : ℕ) → Option ℕ
place_from d zero n = None
place_from d (suc k) n = cond (power_remainder d == n) (Some d) (place_from (suc d) k n)

-- the degree from 0 to 62 whose power of X has the remainder n
abbrev pub wrong_place : ℕ → Option ℕ
wrong_place n = place_from 0 63 n

-- the word with the bit turned that stands at degree d of the received polynomial
abbrev pub turned : ℕ → ℕ → ℕ
turned d word = word ⊕ 2 ^ suc d

-- the verdict on a word: what is accepted of it, and whether a bit was turned for that; or that it is rejected
abbrev pub accepted : List ℕ → Bool → Option Accepted
accepted information corrected = Some (record { information = information; corrected = corrected })

abbrev pub rejected : Option Accepted
rejected = None

-- correcting, at parity 1: the bit at the wrong place is turned, if there is one
abbrev pub corrected : ℕ → Option ℕ → Option Accepted
corrected word None = rejected
corrected word (Some d) = accepted (information_of (turned d word)) true

-- by mode, parity and number
abbrev pub judged : Mode → ℕ → ℕ → ℕ → Option Accepted
judged mode word zero zero = accepted (information_of word) false
judged mode word zero (suc n) = rejected
judged Detecting word (suc p) n = rejected
judged Correcting word (suc p) n = corrected word (wrong_place n)

abbrev pub verdict : Mode → ℕ → Option Accepted
verdict mode word = judged mode word (syndrome word).0 (syndrome word).1

-- in how many of their first 63 bits two words differ
abbrev pub wrong_bits : ℕ → ℕ → ℕ
wrong_bits word other = weight 63 ((word ⊕ other) / 2)
