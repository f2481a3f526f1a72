-- The received polynomial and its remainders. Assumes nothing.
use Rattle.std.proofs.Common.{◌≡◌, ℕ, suc, ◌+◌, ◌*◌, ◌/◌, ◌%◌, ◌^◌, ◌<◌, ◌≤◌, sym, refl, ap, ◌∙◌, ap₂, mul_comm, arith}
use native.Mathlib.Nat.{pow-succ'}
use lib.Bits.{xor_assoc, xor_zero_r, xor_block, xor_shifted, xor_lt}
use lib.Count.{ones}
use lib.Pow.{pow-lt}
use Rattle.std.specs.Int.Digits.{number_from_digits}
use Rattle.bch.specs.Polynomial.{◌⊕◌, weight, divided, remainder}
use Rattle.bch.specs.Codeblock.{generator, information_of}
use Rattle.bch.specs.Reception.{syndrome_polynomial, received, power_remainder}
use Rattle.bch.proofs.Division.{divided_sum, divided_low, divided_more, divided_lower, power_of_remainder}
use Rattle.bch.proofs.Syndromes.{parity_of_remainder}
use Rattle.bch.proofs.Weights.{weight_ones}

pub parity_by_ones : (p r : ℕ) → p < 2 ^ 63 → r < 256 → r ≡ remainder generator 7 p → ones r % 2 ≡ weight 63 p % 2
parity_by_ones p r small few e = sym (parity_of_remainder p small ∙ ap (λ x. weight 63 x % 2) (sym e) ∙ ap (λ x. x % 2) (weight_ones 63 r (omega arith)))

pub reduced_once : (r : ℕ) → 64 ≤ r → r < 2 ^ 7 → r ⊕ 67 ≡ remainder syndrome_polynomial 6 r
unfolding divided
reduced_once r low high =
    let one : r / 64 % 2 ≡ 1 = omega arith in
    sym (divided_more syndrome_polynomial 6 1 64 r (omega arith) high ∙ ap (λ x. r ⊕ x * 67) one)

information_number : (word : ℕ) → word < 2 ^ 64 → number_from_digits 256 (information_of word) ≡ word / 256
information_number word h = omega arith

-- the information, and the check bits complemented
received_is : (word : ℕ) → received word ≡ 2 ^ 7 * (word / 256) ⊕ (word % 256 / 2 ⊕ 127)
received_is word =
    let i = word / 256 in
    let check = word % 256 / 2 in
    let halves : word / 2 ≡ i * 2 ^ 7 + check = omega arith in
    let few : check < 2 ^ 7 = omega arith in
    ap (λ x. x ⊕ 127) halves ∙ xor_block 7 i 0 check 127 few (omega arith) ∙ ap (λ x. x * 2 ^ 7 + (check ⊕ 127)) (xor_zero_r i)
    ∙ sym (xor_shifted i 7 (check ⊕ 127) (xor_lt 7 check 127 few (omega arith))) ∙ ap (λ x. x ⊕ (check ⊕ 127)) (mul_comm i (2 ^ 7))

pub received_below : (word : ℕ) → word < 2 ^ 64 → received word < 2 ^ 63
received_below word h = xor_lt 63 (word / 2) 127 (omega arith) (omega arith)

pub received_remainder : (word r : ℕ) → word < 2 ^ 64 → r ≡ remainder generator 7 (2 ^ 7 * number_from_digits 256 (information_of word)) → r ⊕ word % 256 / 2 ⊕ 127 ≡ remainder generator 7 (received word)
received_remainder word r h e =
    let check = word % 256 / 2 in
    let few : check < 2 ^ 7 = omega arith in
    sym (ap (remainder generator 7) (received_is word) ∙ divided_sum generator 7 64 (2 ^ 7 * (word / 256)) (check ⊕ 127)
    ∙ ap₂ ◌⊕◌ (ap (λ x. remainder generator 7 (2 ^ 7 * x)) (sym (information_number word h)) ∙ sym e) (divided_low generator 7 64 (check ⊕ 127) (xor_lt 7 check 127 few (omega arith)))
    ∙ sym (xor_assoc r check 127))

-- from one power of X to the next
pub next_power : (d power : ℕ) → d < 63 → power ≡ power_remainder d → remainder syndrome_polynomial 6 (power * 2) ≡ power_remainder (suc d)
next_power d power h e =
    let m = syndrome_polynomial in
    ap (remainder m 6) (ap (λ x. x * 2) e ∙ mul_comm (power_remainder d) 2)
    ∙ sym (ap (remainder m 6) (pow-succ' 2 d) ∙ power_of_remainder m 6 refl (omega arith) 64 58 1 (2 ^ d) (omega arith) (pow-lt {i = d} {j = 64} (omega arith)))

pub power_below : (d : ℕ) → d < 64 → power_remainder d < 64
power_below d h = divided_lower syndrome_polynomial 6 refl (omega arith) 64 (2 ^ d) (pow-lt {i = d} {j = 70} (omega arith))
