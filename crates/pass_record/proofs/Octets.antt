-- The bits of one octet. Assumes nothing.
use Rattle.std.proofs.Common.{◌≡◌, ℕ, zero, suc, ◌+◌, ◌-◌, ◌*◌, ◌/◌, ◌%◌, ◌^◌, ◌<◌, ◌≤◌, Bool, true, false, cond, eqb, List, [], ◌∷◌, length, get_or, refl, ap, ◌∙◌, arith}
use Rattle.std.proofs.lemmas.Nat.{pow_pos, mod-pow-add, mul-le, shr-shr}
use Rattle.bch.specs.Bits.{bit_at, octet_bits}
use Rattle.pass_record.specs.Record.{octet_of}

-- what holds of each number below eight
pub below_eight : (P : ℕ → Type 0) → P 0 → P 1 → P 2 → P 3 → P 4 → P 5 → P 6 → P 7 → (m : ℕ) → m < 8 → P m
below_eight P a b c d e f g h zero l = a
below_eight P a b c d e f g h (suc zero) l = b
below_eight P a b c d e f g h (suc (suc zero)) l = c
below_eight P a b c d e f g h (suc (suc (suc zero))) l = d
below_eight P a b c d e f g h (suc (suc (suc (suc zero)))) l = e
below_eight P a b c d e f g h (suc (suc (suc (suc (suc zero))))) l = f
below_eight P a b c d e f g h (suc (suc (suc (suc (suc (suc zero)))))) l = g
below_eight P a b c d e f g h (suc (suc (suc (suc (suc (suc (suc zero))))))) l = h
below_eight P a b c d e f g h (suc (suc (suc (suc (suc (suc (suc (suc m)))))))) l = absurd (omega arith)

pub octet_bit : (x m : ℕ) (d : Bool) → m < 8 → get_or (octet_bits x) m d ≡ bit_at (7 - m) x
octet_bit x m d = below_eight (λ k. get_or (octet_bits x) k d ≡ bit_at (7 - k) x) refl refl refl refl refl refl refl refl m

-- a bit as a number
abbrev value : Bool → ℕ
value b = cond b 1 0

value_le : (b : Bool) → value b ≤ 1
value_le true = omega arith
value_le false = omega arith

value_test : (b : Bool) → eqb (value b) 1 ≡ b
value_test true = refl
value_test false = refl

weight : (w : ℕ) (b : Bool) → cond b w 0 ≡ w * value b
weight w true = omega arith
weight w false = omega arith

-- the bits of an octet that symbols were packed into
module _ (s : List Bool) where
  abbrev v : ℕ → ℕ
  v m = value (get_or s m false)

  octet_sum : octet_of s ≡ 128 * v 0 + 64 * v 1 + 32 * v 2 + 16 * v 3 + 8 * v 4 + 4 * v 5 + 2 * v 6 + v 7
  octet_sum =
      omega (arith, weight 128 (get_or s 0 false), weight 64 (get_or s 1 false), weight 32 (get_or s 2 false), weight 16 (get_or s 3 false), weight 8 (get_or s 4 false), weight 4 (get_or s 5 false), weight 2 (get_or s 6 false), weight 1 (get_or s 7 false))

  packed_value : (m : ℕ) → m < 8 → octet_of s / 2 ^ (7 - m) % 2 ≡ v m
  packed_value =
      let e = octet_sum in
      let b = λ (m : ℕ). value_le (get_or s m false) in
      let b0 = b 0 in
      let b1 = b 1 in
      let b2 = b 2 in
      let b3 = b 3 in
      let b4 = b 4 in
      let b5 = b 5 in
      let b6 = b 6 in
      let b7 = b 7 in
      below_eight (λ m. octet_of s / 2 ^ (7 - m) % 2 ≡ v m) (omega arith) (omega arith) (omega arith) (omega arith) (omega arith) (omega arith) (omega arith) (omega arith)

  pub packed_bit : (m : ℕ) → m < 8 → bit_at (7 - m) (octet_of s) ≡ get_or s m false
  packed_bit m h = ap (λ x. eqb x 1) (packed_value m h) ∙ value_test (get_or s m false)

bit_value : (x : ℕ) → x < 2 → value (eqb x 1) ≡ x
bit_value zero h = refl
bit_value (suc zero) h = refl
bit_value (suc (suc x)) h = absurd (omega arith)

bits_sum : (y : ℕ) → y < 256 → 128 * (y / 2 ^ 7 % 2) + 64 * (y / 2 ^ 6 % 2) + 32 * (y / 2 ^ 5 % 2) + 16 * (y / 2 ^ 4 % 2) + 8 * (y / 2 ^ 3 % 2) + 4 * (y / 2 ^ 2 % 2) + 2 * (y / 2 ^ 1 % 2) + y / 2 ^ 0 % 2 ≡ y
bits_sum y h = omega (arith, shr-shr y 1 1, shr-shr y 2 1, shr-shr y 3 1, shr-shr y 4 1, shr-shr y 5 1, shr-shr y 6 1)

-- symbols that are the bits of an octet pack into that octet
pub packed_again : (s : List Bool) (y : ℕ) → y < 256 → ((m : ℕ) → m < 8 → get_or s m false ≡ bit_at (7 - m) y) → octet_of s ≡ y
packed_again s y small same =
    let bit = λ (m : ℕ) (h : m < 8). ap value (same m h) ∙ bit_value (y / 2 ^ (7 - m) % 2) (omega arith) in
    omega (arith, octet_sum s, bits_sum y small, bit 0 (omega arith), bit 1 (omega arith), bit 2 (omega arith), bit 3 (omega arith), bit 4 (omega arith), bit 5 (omega arith), bit 6 (omega arith), bit 7 (omega arith))

-- the bits below the first that is not zero
pub low_zero : (u y d : ℕ) → y % 2 ^ u ≡ 0 → d < u → bit_at d y ≡ false
low_zero u y d none h =
    let j = u - d - 1 in
    let z = y / 2 ^ d in
    let split : (j + 1) + d ≡ u = omega arith in
    let whole = mod-pow-add y (j + 1) d in
    let high = mod-pow-add z j 1 in
    let sum : y % 2 ^ ((j + 1) + d) ≡ 0 = ap (λ k. y % 2 ^ k) split ∙ none in
    let product : (z % 2 ^ (j + 1)) * 2 ^ d ≡ 0 = omega arith in
    let more = mul-le (z % 2 ^ (j + 1)) 1 (z % 2 ^ (j + 1)) (2 ^ d) (omega arith) (pow_pos d) in
    let last : z % 2 ≡ 0 = omega arith in
    ap (λ x. eqb x 1) last

-- an octet of fewer than eight symbols has zeros in the bits left over
pub padding_zero : (t : List Bool) → length t ≤ 8 → octet_of t % 2 ^ (8 - length t) ≡ 0
padding_zero [] h = refl
padding_zero (a ∷ []) h = omega (arith, weight 128 a)
padding_zero (a ∷ b ∷ []) h = omega (arith, weight 128 a, weight 64 b)
padding_zero (a ∷ b ∷ c ∷ []) h = omega (arith, weight 128 a, weight 64 b, weight 32 c)
padding_zero (a ∷ b ∷ c ∷ d ∷ []) h = omega (arith, weight 128 a, weight 64 b, weight 32 c, weight 16 d)
padding_zero (a ∷ b ∷ c ∷ d ∷ e ∷ []) h = omega (arith, weight 128 a, weight 64 b, weight 32 c, weight 16 d, weight 8 e)
padding_zero (a ∷ b ∷ c ∷ d ∷ e ∷ f ∷ []) h = omega (arith, weight 128 a, weight 64 b, weight 32 c, weight 16 d, weight 8 e, weight 4 f)
padding_zero (a ∷ b ∷ c ∷ d ∷ e ∷ f ∷ g ∷ []) h = omega (arith, weight 128 a, weight 64 b, weight 32 c, weight 16 d, weight 8 e, weight 4 f, weight 2 g)
padding_zero (a ∷ b ∷ c ∷ d ∷ e ∷ f ∷ g ∷ i ∷ []) h = omega arith
padding_zero (a ∷ b ∷ c ∷ d ∷ e ∷ f ∷ g ∷ i ∷ j ∷ t) h = absurd (omega arith)
