-- Laws of the sum of polynomials: its order, powers of X, coefficients. Assumes nothing.
use Rattle.std.proofs.Common.{◌≡◌, ℕ, zero, suc, ◌+◌, ◌*◌, ◌/◌, ◌%◌, ◌^◌, ◌<◌, ◌≤◌, ◌⊎◌, sym, refl, ap, ◌∙◌, subst, ap₂, inl, inr, ⊎_elim, add-zero, mod-lt, mul_assoc, mul_comm, add_comm, one-mul, pow-suc, zero-mul, arith, pow_pos, pow-add, shl_lt, shr-shr}
use native.Mathlib.Nat.{div-eq_of_lt, div-eq_of_lt-le}
use lib.Bits.{bit_xor, xor_assoc, xor_comm, xor_self, xor_zero_l, xor_zero_r, xor_block, xor_shr, xor_mod}
use lib.Pow.{shl-shr}
use Rattle.std.proofs.str.Laws.{order}
use Rattle.bch.specs.Polynomial.{◌⊕◌, coefficient}

-- what is added twice is gone
pub added_twice : (p q : ℕ) → (p ⊕ q) ⊕ q ≡ p
added_twice p q = xor_assoc p q q ∙ ap (λ x. p ⊕ x) (xor_self q) ∙ xor_zero_r p

-- the middle two of four exchanged
pub exchange : (a b c d : ℕ) → (a ⊕ b) ⊕ (c ⊕ d) ≡ (a ⊕ c) ⊕ (b ⊕ d)
exchange a b c d =
    xor_assoc a b (c ⊕ d) ∙ ap (λ x. a ⊕ x) (sym (xor_assoc b c d) ∙ ap (λ x. x ⊕ d) (xor_comm b c) ∙ xor_assoc c b d)
    ∙ sym (xor_assoc a c (b ⊕ d))

-- a sum that is zero has equal parts
pub equal_from_sum : (p q : ℕ) → p ⊕ q ≡ 0 → p ≡ q
equal_from_sum p q e = sym (added_twice p q) ∙ ap (λ x. x ⊕ q) e ∙ xor_zero_l q

-- X^k · (p + q)
pub power_sum : (k p q : ℕ) → 2 ^ k * (p ⊕ q) ≡ (2 ^ k * p) ⊕ (2 ^ k * q)
power_sum k p q =
    mul_comm (2 ^ k) (p ⊕ q) ∙ sym (add-zero (bit_xor p q * 2 ^ k)) ∙ sym (xor_block k p q 0 0 (pow_pos k) (pow_pos k))
    ∙ ap₂ bit_xor (add-zero (p * 2 ^ k) ∙ mul_comm p (2 ^ k)) (add-zero (q * 2 ^ k) ∙ mul_comm q (2 ^ k))

pub coefficient_sum : (d p q : ℕ) → coefficient d (p ⊕ q) ≡ coefficient d p ⊕ coefficient d q
coefficient_sum d p q = ap (λ x. x % 2) (xor_shr p q d) ∙ xor_mod (p / 2 ^ d) (q / 2 ^ d) 1

pub bit_cases : (m : ℕ) → m < 2 → (m ≡ 0) ⊎ (m ≡ 1)
bit_cases zero h = inl refl
bit_cases (suc zero) h = inr refl
bit_cases (suc (suc m)) h = absurd (omega arith)

pub bit : (n : ℕ) → (n % 2 ≡ 0) ⊎ (n % 2 ≡ 1)
bit n = bit_cases (n % 2) (mod-lt n (omega arith))

-- a bit times a polynomial is the polynomial or nothing
times_bit_sum : (b c p : ℕ) → (b ≡ 0) ⊎ (b ≡ 1) → (c ≡ 0) ⊎ (c ≡ 1) → (b ⊕ c) * p ≡ b * p ⊕ c * p
times_bit_sum b c p (inl e) (inl f) = rw (e, f, zero-mul)
times_bit_sum b c p (inl e) (inr f) = rw (e, f, zero-mul)
times_bit_sum b c p (inr e) (inl f) = rw (e, f, zero-mul) (sym (xor_zero_r (1 * p)))
times_bit_sum b c p (inr e) (inr f) = rw (e, f, zero-mul) (sym (xor_self (1 * p)))

pub coefficient_times_sum : (d p q g : ℕ) → coefficient d (p ⊕ q) * g ≡ coefficient d p * g ⊕ coefficient d q * g
coefficient_times_sum d p q g =
    ap (λ x. x * g) (coefficient_sum d p q) ∙ times_bit_sum (coefficient d p) (coefficient d q) g (bit (p / 2 ^ d)) (bit (q / 2 ^ d))

-- no coefficient stands at or above the degree
pub no_coefficient : (d p : ℕ) → p < 2 ^ d → coefficient d p ≡ 0
no_coefficient d p h = ap (λ x. x % 2) (div-eq_of_lt h)

-- coefficients move up with a power of X
pub coefficient_power : (d k p : ℕ) → coefficient (d + k) (2 ^ k * p) ≡ coefficient d p
coefficient_power d k p =
    ap (λ x. x % 2) (ap (λ x. 2 ^ k * p / 2 ^ x) (add_comm d k) ∙ sym (shr-shr (2 ^ k * p) k d) ∙ ap (λ x. x / 2 ^ d) (ap (λ x. x / 2 ^ k) (mul_comm (2 ^ k) p) ∙ shl-shr p k))

-- X^j · (X^k · p)
pub power_power : (j k p : ℕ) → 2 ^ j * (2 ^ k * p) ≡ 2 ^ (j + k) * p
power_power j k p = sym (mul_assoc (2 ^ j) (2 ^ k) p) ∙ ap (λ x. x * p) (sym (pow-add 2 j k))

-- X^k · p has a degree higher by k
pub power_below : (k n p : ℕ) → p < 2 ^ n → 2 ^ k * p < 2 ^ (n + k)
power_below k n p h = subst (λ x. x < 2 ^ (n + k)) (mul_comm p (2 ^ k)) (shl_lt n k h)

-- with its highest coefficient 0 a polynomial has a lower degree
pub lower : (d p : ℕ) → p < 2 ^ suc d → coefficient d p ≡ 0 → p < 2 ^ d
lower d p h e = ⊎_elim (λ l. l) (λ l. absurd (high l)) (order p (2 ^ d))
  where
    below : p < 2 ^ d * 2
    below = subst (λ x. p < x) (pow-suc 2 d) h

    high : 2 ^ d ≤ p → ⊥
    high l =
        let one : p / 2 ^ d ≡ 1 = div-eq_of_lt-le {k = 1} (2 ^ d) (omega (arith, one-mul (2 ^ d))) (omega (arith, below)) in
        omega (arith, sym e ∙ ap (λ x. x % 2) one)
