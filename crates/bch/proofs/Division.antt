-- Laws of long division: it is additive, it leaves the remainder, and multiples of the divisor leave nothing. Assumes nothing.
use Rattle.std.proofs.Common.{◌≡◌, ℕ, zero, suc, ◌+◌, ◌*◌, ◌/◌, ◌^◌, ◌<◌, ◌≤◌, ◌⊎◌, List, [], ◌∷◌, length, sym, refl, ap, ◌∙◌, subst, ap₂, inl, inr, add-zero, add-suc, mod-lt, suc-add, one-mul, mul-zero, zero-mul, arith, pow_pos, pow_mono}
use native.Mathlib.Decide.{le_ind}
use lib.Bits.{xor_assoc, xor_comm, xor_self, xor_zero_r, xor_lt}
use Rattle.std.specs.Int.Digits.{AllBelowBase}
use Rattle.bch.specs.Polynomial.{◌⊕◌, coefficient, divided, remainder, multiple, DivisionLeavesTheRemainder}
use Rattle.bch.proofs.Sums.{added_twice, exchange, power_sum, bit, bit_cases, coefficient_sum, coefficient_times_sum, no_coefficient, coefficient_power, power_power, power_below, lower}

-- what is additive, and nothing at each power of X times g, is nothing at each multiple of g
pub vanishes_on_multiples : (F : ℕ → ℕ) → F 0 ≡ 0 → ((p q : ℕ) → F (p ⊕ q) ≡ F p ⊕ F q) → (g k : ℕ) → ((i : ℕ) → i < k → F (2 ^ i * g) ≡ 0) → (cs : List ℕ) → AllBelowBase 2 cs → length cs ≤ k → F (multiple g cs) ≡ 0
unfolding multiple
vanishes_on_multiples F none sum g k powers [] bs h = none
vanishes_on_multiples F none sum g k powers (c ∷ cs) bs h =
    sum (c * (2 ^ length cs * g)) (multiple g cs) ∙ ap₂ ◌⊕◌ (first (bit_cases c bs.0)) (vanishes_on_multiples F none sum g k powers cs bs.1 (omega arith))
  where
    first : (c ≡ 0) ⊎ (c ≡ 1) → F (c * (2 ^ length cs * g)) ≡ 0
    first (inl e) = rw (e, zero-mul) none
    first (inr e) = rw (e, one-mul) (powers (length cs) h)

module _ (g n : ℕ) where
  pub divided_sum : (k p q : ℕ) → divided g n k (p ⊕ q) ≡ divided g n k p ⊕ divided g n k q
  unfolding divided
  divided_sum zero p q = refl
  divided_sum (suc k) p q =
      ap (divided g n k) (ap (λ x. p ⊕ q ⊕ x) (coefficient_times_sum (n + k) p q (2 ^ k * g)) ∙ exchange p q (coefficient (n + k) p * (2 ^ k * g)) (coefficient (n + k) q * (2 ^ k * g)))
      ∙ divided_sum k (p ⊕ coefficient (n + k) p * (2 ^ k * g)) (q ⊕ coefficient (n + k) q * (2 ^ k * g))

  -- at a coefficient that is 0 nothing is taken away
  pass : (k p : ℕ) → coefficient (n + k) p ≡ 0 → divided g n (suc k) p ≡ divided g n k p
  unfolding divided
  pass k p e = ap (divided g n k) (ap (λ x. p ⊕ x * (2 ^ k * g)) e ∙ ap (λ x. p ⊕ x) (zero-mul (2 ^ k * g)) ∙ xor_zero_r p)

  -- steps above the degree do nothing
  pub divided_more : (k m p : ℕ) → k ≤ m → p < 2 ^ (n + k) → divided g n m p ≡ divided g n k p
  divided_more k m p h lt = le_ind (λ (x : ℕ). divided g n x p ≡ divided g n k p) refl (λ x kx e. pass x p (no_coefficient (n + x) p (omega (arith, lt, pow_mono {i = n + k} {j = n + x} (omega arith)))) ∙ e) m h

  pub divided_low : (m p : ℕ) → p < 2 ^ n → divided g n m p ≡ p
  unfolding divided
  divided_low m p h = divided_more 0 m p (omega arith) (subst (λ x. p < 2 ^ x) (sym (add-zero n)) h)

  pub divided_zero : (m : ℕ) → divided g n m 0 ≡ 0
  divided_zero m = divided_low m 0 (pow_pos n)

  -- p is what is left with a multiple of g added
  pub quotient : (k p : ℕ) → (cs : List ℕ) × (length cs ≡ k) × AllBelowBase 2 cs × (p ≡ multiple g cs ⊕ divided g n k p)
  unfolding divided multiple
  quotient zero p = ([], refl, tt, refl)
  quotient (suc k) p =
      let c = coefficient (n + k) p in
      let rest = quotient k (p ⊕ c * (2 ^ k * g)) in (
        c ∷ rest.0,
        ap suc rest.1,
        (mod-lt (p / 2 ^ (n + k)) (omega arith), rest.2),
        sym (added_twice p (c * (2 ^ k * g))) ∙ xor_comm (p ⊕ c * (2 ^ k * g)) (c * (2 ^ k * g)) ∙ ap (λ x. c * (2 ^ k * g) ⊕ x) rest.3
            ∙ sym (xor_assoc (c * (2 ^ k * g)) (multiple g rest.0) (divided g n k (p ⊕ c * (2 ^ k * g))))
            ∙ ap (λ x. c * (2 ^ x * g) ⊕ multiple g rest.0 ⊕ divided g n k (p ⊕ c * (2 ^ k * g))) (sym rest.1),
      )

  -- g has the degree n
  module _ (top : coefficient n g ≡ 1) (below : g < 2 ^ suc n) where
    one_step : (k p : ℕ) → p < 2 ^ (n + suc k) → p ⊕ coefficient (n + k) p * (2 ^ k * g) < 2 ^ (n + k)
    one_step k p h =
        lower (n + k) (p ⊕ c * (2 ^ k * g))
        (xor_lt (suc (n + k)) p (c * (2 ^ k * g)) (subst (λ x. p < 2 ^ x) (add-suc n k) h) (within (bit (p / 2 ^ (n + k)))))
        (coefficient_sum (n + k) p (c * (2 ^ k * g)) ∙ cancels (bit (p / 2 ^ (n + k))))
      where
        c : ℕ
        c = coefficient (n + k) p

        within : (c ≡ 0) ⊎ (c ≡ 1) → c * (2 ^ k * g) < 2 ^ suc (n + k)
        within (inl e) = rw (e, zero-mul) (pow_pos (suc (n + k)))
        within (inr e) = rw (e, one-mul) (subst (λ x. 2 ^ k * g < 2 ^ x) (suc-add n k) (power_below k (suc n) g below))

        cancels : (c ≡ 0) ⊎ (c ≡ 1) → c ⊕ coefficient (n + k) (c * (2 ^ k * g)) ≡ 0
        cancels (inl e) = rw (e, zero-mul) (no_coefficient (n + k) 0 (pow_pos (n + k)))
        cancels (inr e) = rw (e, one-mul) (ap (λ x. 1 ⊕ x) (coefficient_power n k g ∙ top))

    pub divided_lower : (k p : ℕ) → p < 2 ^ (n + k) → divided g n k p < 2 ^ n
    unfolding divided
    divided_lower zero p h = subst (λ x. p < 2 ^ x) (add-zero n) h
    divided_lower (suc k) p h = divided_lower k (p ⊕ coefficient (n + k) p * (2 ^ k * g)) (one_step k p h)

    -- a power of X times the divisor leaves nothing
    pub power_leaves_nothing : (m j : ℕ) → j < m → divided g n m (2 ^ j * g) ≡ 0
    unfolding divided
    power_leaves_nothing m j h =
        divided_more (suc j) m (2 ^ j * g) h (subst (λ x. 2 ^ j * g < 2 ^ x) (suc-add n j ∙ sym (add-suc n j)) (power_below j (suc n) g below))
        ∙ ap (divided g n j) (ap (λ x. (2 ^ j * g) ⊕ x * (2 ^ j * g)) (coefficient_power n j g ∙ top) ∙ ap (λ x. (2 ^ j * g) ⊕ x) (one-mul (2 ^ j * g)) ∙ xor_self (2 ^ j * g))
        ∙ divided_zero j

    -- and so does a multiple, also times a power of X
    pub multiple_leaves_nothing : (m j : ℕ) (cs : List ℕ) → AllBelowBase 2 cs → j + length cs ≤ m → divided g n m (2 ^ j * multiple g cs) ≡ 0
    multiple_leaves_nothing m j cs bs h =
        vanishes_on_multiples (λ p. divided g n m (2 ^ j * p)) (ap (divided g n m) (mul-zero (2 ^ j)) ∙ divided_zero m)
        (λ p q. ap (divided g n m) (power_sum j p q) ∙ divided_sum m (2 ^ j * p) (2 ^ j * q)) g (length cs)
        (λ i lt. ap (divided g n m) (power_power j i g) ∙ power_leaves_nothing m (j + i) (omega arith)) cs bs (omega arith)

    -- a power of X may be multiplied before or after the remainder is taken
    pub power_of_remainder : (m k j p : ℕ) → j + k ≤ m → p < 2 ^ (n + k) → divided g n m (2 ^ j * p) ≡ divided g n m (2 ^ j * divided g n m p)
    power_of_remainder m k j p h lt =
        let q = quotient k p in
        let r = divided g n k p in
        ap (λ x. divided g n m (2 ^ j * x)) q.3 ∙ ap (divided g n m) (power_sum j (multiple g q.0) r) ∙ divided_sum m (2 ^ j * multiple g q.0) (2 ^ j * r)
        ∙ ap (λ x. x ⊕ divided g n m (2 ^ j * r)) (multiple_leaves_nothing m j q.0 q.2 (omega (arith, q.1)))
        ∙ ap (λ x. divided g n m (2 ^ j * x)) (sym (divided_more k m p (omega arith) lt))

pub division_leaves_the_remainder : DivisionLeavesTheRemainder
division_leaves_the_remainder =
    record {
      leaves = λ g n p d h.
          let q = quotient g n 64 p in
          record { lower = divided_lower g n d.0 d.1 64 p h; quotient = q.0; bits = q.2; few = omega (arith, q.1); whole = q.3 };
      no_other = λ g n p r d is.
          sym (ap (remainder g n) is.whole ∙ divided_sum g n 64 (multiple g is.quotient) r
          ∙ ap₂ ◌⊕◌
          (ap (remainder g n) (sym (one-mul (multiple g is.quotient))) ∙ multiple_leaves_nothing g n d.0 d.1 64 0 is.quotient is.bits (omega (arith, is.few)))
          (divided_low g n 64 r is.lower));
    }
