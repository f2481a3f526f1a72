-- Laws of the weight of a polynomial, the number of its coefficients that are 1. Assumes nothing.
use Rattle.std.proofs.Common.{◌≡◌, ℕ, zero, suc, ◌+◌, ◌*◌, ◌/◌, ◌%◌, ◌^◌, ◌<◌, ◌≢◌, ◌⊎◌, sym, refl, ap, ◌∙◌, subst, ap₂, inl, inr, ⊎_elim, le_of_suc-le-suc, mul_comm, pow-suc, zero-add, add-one, arith, shr_lt}
use lib.Arith.{lt-one}
use lib.Bits.{xor_shr, xor_mod, xor_shifted}
use lib.Count.{ones, ones_step}
use Rattle.bch.specs.Polynomial.{◌⊕◌, weight}
use Rattle.bch.proofs.Sums.{bit, power_sum}

half : (k p : ℕ) → p < 2 ^ suc k → p / 2 < 2 ^ k
half k p h = shr_lt k 1 (subst (λ x. p < 2 ^ x) (sym (add-one k)) h)

pub weight_zero : (k : ℕ) → weight k 0 ≡ 0
unfolding weight
weight_zero zero = refl
weight_zero (suc k) = zero-add (weight k 0) ∙ weight_zero k

odd : (a b : ℕ) → (a ≡ 0) ⊎ (a ≡ 1) → (b ≡ 0) ⊎ (b ≡ 1) → (v w x : ℕ) → v % 2 ≡ (w + x) % 2 → ((a ⊕ b) + v) % 2 ≡ ((a + w) + (b + x)) % 2
odd a b (inl e) (inl f) v w x h = rw (e, f) (omega arith)
odd a b (inl e) (inr f) v w x h = rw (e, f) (omega arith)
odd a b (inr e) (inl f) v w x h = rw (e, f) (omega arith)
odd a b (inr e) (inr f) v w x h = rw (e, f) (omega arith)

-- weights add up modulo 2
pub weight_sum : (k p q : ℕ) → weight k (p ⊕ q) % 2 ≡ (weight k p + weight k q) % 2
unfolding weight
weight_sum zero p q = refl
weight_sum (suc k) p q =
    ap (λ x. x % 2) (ap₂ (λ (x y : ℕ). x + weight k y) (xor_mod p q 1) (xor_shr p q 1))
    ∙ odd (p % 2) (q % 2) (bit p) (bit q) (weight k (p / 2 ⊕ q / 2)) (weight k (p / 2)) (weight k (q / 2)) (weight_sum k (p / 2) (q / 2))

pub parity_sum : (k p q : ℕ) → weight k (p ⊕ q) % 2 ≡ weight k p % 2 ⊕ weight k q % 2
parity_sum k p q = weight_sum k p q ∙ two (bit (weight k p)) (bit (weight k q))
  where
    v : ℕ
    v = weight k p

    w : ℕ
    w = weight k q

    two : (v % 2 ≡ 0) ⊎ (v % 2 ≡ 1) → (w % 2 ≡ 0) ⊎ (w % 2 ≡ 1) → (v + w) % 2 ≡ v % 2 ⊕ w % 2
    two (inl e) (inl f) = rw (e, f) (omega arith)
    two (inl e) (inr f) = rw (e, f) (omega arith)
    two (inr e) (inl f) = rw (e, f) (omega arith)
    two (inr e) (inr f) = rw (e, f) (omega arith)

pub weight_power : (k d : ℕ) → d < k → weight k (2 ^ d) ≡ 1
unfolding weight
weight_power zero d h = absurd (omega arith)
weight_power (suc k) zero h = ap (λ x. 1 + x) (weight_zero k)
weight_power (suc k) (suc d) h =
    ap₂ (λ (x y : ℕ). x + weight k y) (omega (arith, pow-suc 2 d)) (omega (arith, pow-suc 2 d)) ∙ zero-add (weight k (2 ^ d))
    ∙ weight_power k d (le_of_suc-le-suc h)

pub weight_none : (k p : ℕ) → p < 2 ^ k → weight k p ≡ 0 → p ≡ 0
unfolding weight
weight_none zero p h e = lt-one h
weight_none (suc k) p h e = let rest : p / 2 ≡ 0 = weight_none k (p / 2) (half k p h) (omega arith) in omega arith

-- a polynomial of weight 1 is a power of X
pub weight_one : (k p : ℕ) → p < 2 ^ k → weight k p ≡ 1 → (d : ℕ) × (d < k) × (p ≡ 2 ^ d)
unfolding weight
weight_one zero p h e = absurd (omega arith)
weight_one (suc k) p h e =
    ⊎_elim
    (λ z.
    let rest = weight_one k (p / 2) (half k p h) (omega arith) in
    (suc rest.0, omega arith, omega (arith, pow-suc 2 rest.0)))
    (λ o. let rest : p / 2 ≡ 0 = weight_none k (p / 2) (half k p h) (omega arith) in (0, omega arith, omega arith))
    (bit p)

-- and one of weight 2 the sum of two different powers
pub weight_two : (k p : ℕ) → p < 2 ^ k → weight k p ≡ 2 → (d : ℕ) × (e : ℕ) × (d < k) × (e < k) × (d ≢ e) × (p ≡ 2 ^ d ⊕ 2 ^ e)
unfolding weight
weight_two zero p h w = absurd (omega arith)
weight_two (suc k) p h w =
    ⊎_elim
    (λ z.
    let rest = weight_two k (p / 2) (half k p h) (omega arith) in
    let d = rest.0 in
    let e = rest.1 in
    let twice : p ≡ 2 ^ 1 * (p / 2) = omega arith in (
      suc d,
      suc e,
      omega arith,
      omega arith,
      (λ x. rest.4 (omega arith)),
      twice ∙ ap (λ x. 2 ^ 1 * x) rest.5 ∙ power_sum 1 (2 ^ d) (2 ^ e)
          ∙ ap₂ ◌⊕◌ (mul_comm 2 (2 ^ d) ∙ sym (pow-suc 2 d)) (mul_comm 2 (2 ^ e) ∙ sym (pow-suc 2 e)),
    ))
    (λ o.
    let rest = weight_one k (p / 2) (half k p h) (omega arith) in
    let d = rest.0 in
    let more : p ≡ 2 ^ d * 2 ^ 1 + 1 = omega arith in (
      suc d,
      0,
      omega arith,
      omega arith,
      (λ x. omega arith),
      more ∙ sym (xor_shifted (2 ^ d) 1 1 (omega arith)) ∙ ap (λ x. x ⊕ 1) (sym (pow-suc 2 d)),
    ))
    (bit p)

-- what `count_ones` answers
pub weight_ones : (k p : ℕ) → p < 2 ^ k → weight k p ≡ ones p
unfolding weight ones
weight_ones zero p h = rw (lt-one h)
weight_ones (suc k) p h = ap (λ x. p % 2 + x) (weight_ones k (p / 2) (half k p h)) ∙ sym (ones_step p)
