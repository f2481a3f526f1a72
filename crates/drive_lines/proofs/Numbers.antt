-- Numbers in decimal digits. Assumes nothing.
use Rattle.std.proofs.Common.{◌≡◌, ℕ, suc, ◌+◌, ◌*◌, ◌-◌, ◌<◌, Bool, true, false, cond, List, [], ◌∷◌, length, drop, get_or, Option, None, refl, sym, ap, ◌∙◌, drop-cons, arith}
use Rattle.std.proofs.lemmas.Bool.Decides.{nat_tests}
use Rattle.std.specs.Char.{is_ascii_digit}
use Rattle.drive_lines.specs.Words.{value_behind, at_most, number}

-- a number that is too large stays so
grows : (n most : ℕ) (digits : List ℕ) → most < n → at_most most (value_behind n digits) ≡ None
grows n most [] large = grind (arith, nat_tests)
grows n most (x ∷ digits) large =
    by (is_ascii_digit x) (grows (10 * n + (x - 48)) most digits (omega arith))
  where
    by : (digit : Bool) → at_most most (value_behind (10 * n + (x - 48)) digits) ≡ None → at_most most (cond digit (value_behind (10 * n + (x - 48)) digits) None) ≡ None
    by true rest = rest
    by false rest = refl

nothing : (most : ℕ) (word : List ℕ) → at_most most (value_behind 0 word) ≡ None → None ≡ number most word
nothing most [] none = refl
nothing most (x ∷ word) none = sym none

-- where a digit makes the number too large, the word writes none
pub too_large : (most n i : ℕ) (word : List ℕ) → i < length word → value_behind n (drop i word) ≡ value_behind 0 word →
    is_ascii_digit (get_or word i 0) ≡ true → most < 10 * n + (get_or word i 0 - 48) → None ≡ number most word
too_large most n i word within same digit large =
    let x = get_or word i 0 in
    nothing most word
    (ap (at_most most) (sym same) ∙ ap (λ l. at_most most (value_behind n l)) (drop-cons word i 0 within)
    ∙ ap (λ b. at_most most (cond b (value_behind (10 * n + (x - 48)) (drop (suc i) word)) None)) digit
    ∙ grows (10 * n + (x - 48)) most (drop (suc i) word) large)
