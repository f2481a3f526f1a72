-- Parity and number of a received word are those of its remainder by the generator, and those of its wrong bits alone. Assumes nothing.
use Rattle.std.proofs.Common.{◌≡◌, ℕ, ◌+◌, ◌*◌, ◌/◌, ◌%◌, ◌^◌, ◌<◌, List, length, sym, refl, ap, ◌∙◌, subst, ap₂, mul_comm, arith, pow-add}
use lib.Bits.{xor_comm, xor_self, xor_zero_r, xor_block, xor_shr, xor_shifted, xor_lt}
use Rattle.std.specs.Int.Digits.{number_from_digits, AllBelowBase}
use Rattle.std.proofs.lemmas.Int.Digits.{number_push, number_lt}
use Rattle.bch.specs.Polynomial.{◌⊕◌, weight, divided, remainder, multiple}
use Rattle.bch.specs.Codeblock.{generator, check_bits, Information, sent}
use Rattle.bch.specs.Reception.{syndrome_polynomial, received}
use Rattle.bch.proofs.Sums.{added_twice, exchange, power_sum, power_power}
use Rattle.bch.proofs.Division.{vanishes_on_multiples, divided_sum, divided_zero, divided_low, divided_more, divided_lower, quotient, power_leaves_nothing}
use Rattle.bch.proofs.Weights.{weight_zero, parity_sum, weight_power}

-- the error pattern: the first 63 bits in which two words differ
pub pattern_added : (word other : ℕ) → received other ≡ received word ⊕ (word ⊕ other) / 2
pattern_added word other =
    let a = word / 2 in
    let b = other / 2 in
    xor_comm b 127 ∙ ap (λ x. x ⊕ (127 ⊕ b)) (sym (xor_self a)) ∙ exchange a a 127 b ∙ ap (λ x. (a ⊕ 127) ⊕ x) (sym (xor_shr word other 1))

-- seven octets make a number of 56 bits
pub information_below : (information : List ℕ) → Information information → number_from_digits 256 information < 2 ^ 56
information_below information h = subst (λ x. number_from_digits 256 information < 256 ^ x) h.0 (number_lt 256 information h.1)

-- the remainder has seven bits
remainder_below : (i : ℕ) → i < 2 ^ 56 → remainder generator 7 (2 ^ 7 * i) < 2 ^ 7
remainder_below i h = divided_lower generator 7 refl (omega arith) 64 (2 ^ 7 * i) (omega arith)

pub check_bits_below : (i : ℕ) → i < 2 ^ 56 → check_bits i < 2 ^ 7
check_bits_below i h = xor_lt 7 (remainder generator 7 (2 ^ 7 * i)) 127 (remainder_below i h) (omega arith)

-- X^6 + X + 1 divides the generator, X + 1 being the other factor
factor_leaves_nothing : (i : ℕ) → i < 56 → remainder syndrome_polynomial 6 (2 ^ i * generator) ≡ 0
factor_leaves_nothing i h =
    let m = syndrome_polynomial in
    ap (divided m 6 64) (power_sum i (2 ^ 1 * m) m ∙ ap (λ x. x ⊕ 2 ^ i * m) (power_power i 1 m)) ∙ divided_sum m 6 64 (2 ^ (i + 1) * m) (2 ^ i * m)
    ∙ ap₂ ◌⊕◌ (power_leaves_nothing m 6 refl (omega arith) 64 (i + 1) (omega arith)) (power_leaves_nothing m 6 refl (omega arith) 64 i (omega arith))

-- and it has four coefficients that are 1
generator_is_even : (i : ℕ) → i < 56 → weight 63 (2 ^ i * generator) % 2 ≡ 0
generator_is_even i h =
    ap (λ x. weight 63 x % 2) (power_sum i (2 ^ 7 ⊕ 2 ^ 6) (2 ^ 2 ⊕ 2 ^ 0) ∙ ap₂ ◌⊕◌ (power_sum i (2 ^ 7) (2 ^ 6)) (power_sum i (2 ^ 2) (2 ^ 0)))
    ∙ parity_sum 63 (2 ^ i * 2 ^ 7 ⊕ 2 ^ i * 2 ^ 6) (2 ^ i * 2 ^ 2 ⊕ 2 ^ i * 2 ^ 0)
    ∙ ap₂ ◌⊕◌ (parity_sum 63 (2 ^ i * 2 ^ 7) (2 ^ i * 2 ^ 6) ∙ ap₂ ◌⊕◌ (one 7 (omega arith)) (one 6 (omega arith)))
    (parity_sum 63 (2 ^ i * 2 ^ 2) (2 ^ i * 2 ^ 0) ∙ ap₂ ◌⊕◌ (one 2 (omega arith)) (one 0 (omega arith)))
  where
    one : (d : ℕ) → d < 8 → weight 63 (2 ^ i * 2 ^ d) % 2 ≡ 1
    one d lt = ap (λ x. x % 2) (ap (weight 63) (sym (pow-add 2 i d)) ∙ weight_power 63 (i + d) (omega arith))

-- parity and number of a polynomial are those of its remainder by the generator
module _ (p : ℕ) (small : p < 2 ^ 63) where
  q : (cs : List ℕ) × (length cs ≡ 56) × AllBelowBase 2 cs × (p ≡ multiple generator cs ⊕ divided generator 7 56 p)
  q = quotient generator 7 56 p

  whole : p ≡ multiple generator q.0 ⊕ remainder generator 7 p
  whole = q.3 ∙ ap (λ x. multiple generator q.0 ⊕ x) (sym (divided_more generator 7 56 64 p (omega arith) small))

  pub parity_of_remainder : weight 63 p % 2 ≡ weight 63 (remainder generator 7 p) % 2
  parity_of_remainder =
      ap (λ x. weight 63 x % 2) whole ∙ parity_sum 63 (multiple generator q.0) (remainder generator 7 p)
      ∙ ap (λ x. x ⊕ weight 63 (remainder generator 7 p) % 2)
      (vanishes_on_multiples (λ x. weight 63 x % 2) (ap (λ x. x % 2) (weight_zero 63)) (parity_sum 63) generator 56 generator_is_even q.0 q.2 (omega (arith, q.1)))

  pub number_of_remainder : remainder syndrome_polynomial 6 p ≡ remainder syndrome_polynomial 6 (remainder generator 7 p)
  number_of_remainder =
      let m = syndrome_polynomial in
      ap (remainder m 6) whole ∙ divided_sum m 6 64 (multiple generator q.0) (remainder generator 7 p)
      ∙ ap (λ x. x ⊕ remainder m 6 (remainder generator 7 p))
      (vanishes_on_multiples (remainder m 6) (divided_zero m 6 64) (divided_sum m 6 64) generator 56 factor_leaves_nothing q.0 q.2 (omega (arith, q.1)))

half_of : (i c : ℕ) → (i * 256 + 2 * c) / 2 ≡ i * 2 ^ 7 + c
half_of i c = omega arith

-- the polynomial received where nothing is wrong is X^7 · I(X) with its remainder added
module _ (information : List ℕ) (h : Information information) where
  abbrev i : ℕ
  i = number_from_digits 256 information

  abbrev r : ℕ
  r = remainder generator 7 (2 ^ 7 * i)

  received_sent : received (sent information) ≡ 2 ^ 7 * i ⊕ r
  received_sent =
      ap (λ x. x ⊕ 127) (ap (λ x. x / 2) (number_push 256 information (2 * (r ⊕ 127))) ∙ half_of i (r ⊕ 127))
      ∙ xor_block 7 i 0 (r ⊕ 127) 127 (check_bits_below i (information_below information h)) (omega arith)
      ∙ ap₂ (λ (x y : ℕ). x * 2 ^ 7 + y) (xor_zero_r i) (added_twice r 127)
      ∙ sym (xor_shifted i 7 r (remainder_below i (information_below information h))) ∙ ap (λ x. x ⊕ r) (mul_comm i (2 ^ 7))

  -- so the generator divides it
  nothing_left : remainder generator 7 (received (sent information)) ≡ 0
  nothing_left =
      ap (remainder generator 7) received_sent ∙ divided_sum generator 7 64 (2 ^ 7 * i) r
      ∙ ap (λ x. r ⊕ x) (divided_low generator 7 64 r (remainder_below i (information_below information h))) ∙ xor_self r

  sent_below : received (sent information) < 2 ^ 63
  sent_below =
      let b = information_below information h in
      subst (λ x. x < 2 ^ 63) (sym received_sent) (xor_lt 63 (2 ^ 7 * i) r (omega arith) (omega (arith, remainder_below i b)))

  -- parity and number of a received word are those of the error pattern
  module _ (word : ℕ) where
    pub parity_of_pattern : weight 63 (received word) % 2 ≡ weight 63 ((sent information ⊕ word) / 2) % 2
    parity_of_pattern =
        let e = (sent information ⊕ word) / 2 in
        ap (λ x. weight 63 x % 2) (pattern_added (sent information) word) ∙ parity_sum 63 (received (sent information)) e
        ∙ ap (λ x. x ⊕ weight 63 e % 2) (parity_of_remainder (received (sent information)) sent_below ∙ ap (λ x. weight 63 x % 2) nothing_left ∙ ap (λ x. x % 2) (weight_zero 63))

    pub number_of_pattern : remainder syndrome_polynomial 6 (received word) ≡ remainder syndrome_polynomial 6 ((sent information ⊕ word) / 2)
    number_of_pattern =
        let m = syndrome_polynomial in
        let e = (sent information ⊕ word) / 2 in
        ap (remainder m 6) (pattern_added (sent information) word) ∙ divided_sum m 6 64 (received (sent information)) e
        ∙ ap (λ x. x ⊕ remainder m 6 e) (number_of_remainder (received (sent information)) sent_below ∙ ap (remainder m 6) nothing_left ∙ divided_zero m 6 64)
