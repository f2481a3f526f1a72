-- The remainder of X^7 · I(X), octet by octet. Assumes nothing.
use Rattle.std.proofs.Common.{◌≡◌, ℕ, ◌+◌, ◌*◌, ◌%◌, ◌^◌, ◌<◌, ◌≤◌, List, map, length, get_or, take, sym, refl, ap, ◌∙◌, subst, zero-add, arith}
use native.Mathlib.Nat.{pow-le-pow_right}
use lib.Bits.{xor_shifted}
use Rattle.std.specs.List.{range_with_len}
use Rattle.std.specs.Int.Digits.{number_from_digits}
use Rattle.std.proofs.lemmas.List.FromFn.{get_or-map-range_with_len}
use Rattle.std.proofs.lemmas.Int.Digits.{number_more, number_lt}
use Rattle.std.proofs.ByRecursion.{All-take, All-from_get_or}
use Rattle.std.proofs.lemmas.List.{length-take-le}
use Rattle.bch.specs.Polynomial.{◌⊕◌, remainder}
use Rattle.bch.specs.Codeblock.{generator}
use Rattle.bch.proofs.Sums.{power_sum}
use Rattle.bch.proofs.Division.{divided_sum, divided_lower, power_of_remainder}

-- what the table holds
pub octet_remainder : (v : ℕ) → v < 256 → get_or (map (λ (v : ℕ). remainder generator 7 (2 ^ 7 * v)) (range_with_len 0 256)) v 0 ≡ remainder generator 7 (2 ^ 7 * v)
octet_remainder v h = get_or-map-range_with_len (λ (v : ℕ). remainder generator 7 (2 ^ 7 * v)) 0 256 v v 0 h (zero-add v)

pub octet_remainder_below : (v : ℕ) → v < 256 → remainder generator 7 (2 ^ 7 * v) < 2 ^ 7
octet_remainder_below v h = divided_lower generator 7 refl (omega arith) 64 (2 ^ 7 * v) (omega arith)

-- one octet more
pub next_octet : (n b r : ℕ) → n < 2 ^ 48 → b < 256 → r ≡ remainder generator 7 (2 ^ 7 * n) → r < 2 ^ 7 → remainder generator 7 (2 ^ 7 * (n * 256 + b)) ≡ remainder generator 7 (2 ^ 7 * ((r * 2 % 256) ⊕ b))
next_octet n b r hn hb e hr =
    ap (remainder generator 7) (ap (λ x. 2 ^ 7 * x) (sym (xor_shifted n 8 b hb)) ∙ power_sum 7 (n * 2 ^ 8) b ∙ ap (λ x. x ⊕ 2 ^ 7 * b) up)
    ∙ divided_sum generator 7 64 (2 ^ 8 * (2 ^ 7 * n)) (2 ^ 7 * b)
    ∙ ap (λ x. x ⊕ remainder generator 7 (2 ^ 7 * b)) (power_of_remainder generator 7 refl (omega arith) 64 48 8 (2 ^ 7 * n) (omega arith) (omega arith) ∙ ap (λ x. remainder generator 7 (2 ^ 8 * x)) (sym e))
    ∙ sym (divided_sum generator 7 64 (2 ^ 8 * r) (2 ^ 7 * b))
    ∙ ap (remainder generator 7) (ap (λ x. x ⊕ 2 ^ 7 * b) down ∙ sym (power_sum 7 (r * 2 % 256) b))
  where
    up : 2 ^ 7 * (n * 2 ^ 8) ≡ 2 ^ 8 * (2 ^ 7 * n)
    up = omega arith

    down : 2 ^ 8 * r ≡ 2 ^ 7 * (r * 2 % 256)
    down = omega arith

-- the loop's step
module _ (xs : List ℕ) (octets : (i : ℕ) → get_or xs i 0 < 256) (i r : ℕ) (within : i < 7) (long : length xs ≡ 7) where
  front : number_from_digits 256 (take i xs) < 2 ^ 48
  front =
      let short : i ≤ length xs = omega arith in
      let few : 256 ^ i ≤ 256 ^ 6 = pow-le-pow_right {n = 256} (omega arith) {i = i} {j = 6} (omega arith) in
      let below = number_lt 256 (take i xs) (All-take (λ x. x < 256) i xs (All-from_get_or (λ x. x < 256) xs 0 (λ k h. octets k))) in
      omega (arith, few, subst (λ x. number_from_digits 256 (take i xs) < 256 ^ x) (length-take-le i xs short) below)

  pub step : r ≡ remainder generator 7 (2 ^ 7 * number_from_digits 256 (take i xs)) → r < 2 ^ 7 → remainder generator 7 (2 ^ 7 * ((r * 2 % 256) ⊕ get_or xs i 0)) ≡ remainder generator 7 (2 ^ 7 * number_from_digits 256 (take (i + 1) xs))
  step e hr = sym (next_octet (number_from_digits 256 (take i xs)) (get_or xs i 0) r front (octets i) e hr) ∙ ap (λ x. remainder generator 7 (2 ^ 7 * x)) (sym (number_more 256 xs i (omega arith)))
