-- Polynomials modulo 2. A polynomial is written as the number whose binary digit of weight 2 ^ d is the coefficient of
-- X^d, so that X^6 + X + 1 is 0b1000011 and X^d · p is 2 ^ d * p. Assumes nothing.
use Rattle.std.specs.Prelude.{◌≡◌, ℕ, zero, suc, ◌+◌, ◌*◌, ◌/◌, ◌%◌, ◌^◌, ◌<◌, ◌≤◌, List, [], ◌∷◌, length, bit_xor}
use Rattle.std.specs.Int.Digits.{AllBelowBase}

infixl 65 ◌⊕◌
-- the sum: coefficients are added modulo 2
abbrev pub ◌⊕◌ : ℕ → ℕ → ℕ
p ⊕ q = bit_xor p q

-- the coefficient of X^d
abbrev pub coefficient : ℕ → ℕ → ℕ
coefficient d p = p / 2 ^ d % 2

-- how many of the coefficients below degree k are 1
unfoldable pub weight : ℕ → ℕ → ℕ
weight zero p = 0
weight (suc k) p = p % 2 + weight k (p / 2)

-- long division by g, of degree n: from the top down, wherever the coefficient of X^(n + k) is 1, X^k · g is taken away
unfoldable pub divided : (g n : ℕ) → ℕ → ℕ → ℕ
divided g n zero p = p
divided g n (suc k) p = divided g n k (p ⊕ coefficient (n + k) p * (2 ^ k * g))

-- the remainder by g, of degree n, of a polynomial whose degree is below n + 64
abbrev pub remainder : (g n : ℕ) → ℕ → ℕ
remainder g n p = divided g n 64 p

-- the product of g and the polynomial that has these coefficients, the highest first
unfoldable pub multiple : ℕ → List ℕ → ℕ
multiple g [] = 0
multiple g (c ∷ cs) = c * (2 ^ length cs * g) ⊕ multiple g cs

-- what a remainder is: r has a lower degree than g, and p is r with a multiple of g added, in which the other factor
-- has a degree below 64
pub record Remainder (g n p r : ℕ) : Type 0 where
  pub lower : r < 2 ^ n
  pub quotient : List ℕ
  pub bits : AllBelowBase 2 quotient
  pub few : length quotient ≤ 64
  pub whole : p ≡ multiple g quotient ⊕ r

abbrev pub HasDegree : (g n : ℕ) → Type 0
HasDegree g n = (coefficient n g ≡ 1) × (g < 2 ^ suc n)

-- long division leaves a remainder, and there is no other
pub record DivisionLeavesTheRemainder : Type 0 where
  pub leaves : (g n p : ℕ) → HasDegree g n → p < 2 ^ (n + 64) → Remainder g n p (remainder g n p)
  pub no_other : (g n p r : ℕ) → HasDegree g n → Remainder g n p r → r ≡ remainder g n p
