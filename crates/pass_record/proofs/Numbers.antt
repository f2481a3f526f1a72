-- A number in four octets, written and read. Assumes nothing.
use Rattle.std.proofs.Common.{◌≡◌, ℕ, suc, ◌+◌, ◌*◌, ◌/◌, ◌%◌, ◌^◌, ◌<◌, ◌≤◌, List, [], ◌∷◌, ◌++◌, length, get_or, take, drop, sym, refl, ap, ◌∙◌, ap₂, arith}
use lib.Seq.{get_or-append_seam}
use Rattle.std.proofs.lemmas.Nat.{shr-shr}
use Rattle.std.proofs.lemmas.List.{get_or-append-add, drop_more}
use Rattle.pass_record.specs.Record.{four_octets}
use Rattle.pass_record.specs.Reading.{number_at}

digits_sum : (n : ℕ) → n < 2 ^ 32 → n / 2 ^ 24 % 256 * 16777216 + n / 2 ^ 16 % 256 * 65536 + n / 2 ^ 8 % 256 * 256 + n % 256 ≡ n
digits_sum n small =
    let lowest : n ≡ 256 * (n / 2 ^ 8) + n % 256 = omega arith in
    let low : n / 2 ^ 8 ≡ 256 * (n / 2 ^ 16) + n / 2 ^ 8 % 256 = omega (arith, shr-shr n 8 8) in
    let high : n / 2 ^ 16 ≡ 256 * (n / 2 ^ 24) + n / 2 ^ 16 % 256 = omega (arith, shr-shr n 16 8) in
    let highest : n / 2 ^ 24 % 256 ≡ n / 2 ^ 24 = omega arith in
    omega arith

-- four octets that are read where they were written
pub number_read : (xs ys : List ℕ) (n place : ℕ) → n < 2 ^ 32 → length xs ≡ place → number_at (xs ++ (four_octets n ++ ys)) place ≡ n
number_read xs ys n place small e =
    let all = four_octets n ++ ys in
    let there = λ (k : ℕ). ap (λ p. get_or (xs ++ all) (p + k) 0) (sym e) ∙ get_or-append-add xs all k 0 in
    let first : get_or (xs ++ all) place 0 ≡ n / 2 ^ 24 % 256 = ap (λ p. get_or (xs ++ all) p 0) (sym e) ∙ get_or-append_seam xs (n / 2 ^ 24 % 256) _ 0 in
    let second : get_or (xs ++ all) (place + 1) 0 ≡ n / 2 ^ 16 % 256 = there 1 in
    let third : get_or (xs ++ all) (place + 2) 0 ≡ n / 2 ^ 8 % 256 = there 2 in
    let fourth : get_or (xs ++ all) (place + 3) 0 ≡ n % 256 = there 3 in
    ap₂ (λ a b. a * 16777216 + b * 65536 + get_or (xs ++ all) (place + 2) 0 * 256 + get_or (xs ++ all) (place + 3) 0) first second
    ∙ ap₂ (λ a b. n / 2 ^ 24 % 256 * 16777216 + n / 2 ^ 16 % 256 * 65536 + a * 256 + b) third fourth ∙ digits_sum n small

one_of : (n i j : ℕ) (xs : List ℕ) → j ≡ i + 1 → i < length xs → take (suc n) (drop i xs) ≡ get_or xs i 0 ∷ take n (drop j xs)
one_of n i j xs e h = ap (take (suc n)) (drop_more xs i 0 h) ∙ ap (λ k. get_or xs i 0 ∷ take n (drop k xs)) (sym e)

four_of : (i : ℕ) (xs : List ℕ) → i + 4 ≤ length xs → take 4 (drop i xs) ≡ get_or xs i 0 ∷ get_or xs (i + 1) 0 ∷ get_or xs (i + 2) 0 ∷ get_or xs (i + 3) 0 ∷ []
four_of i xs h =
    one_of 3 i (i + 1) xs refl (omega arith)
    ∙ ap (λ l. get_or xs i 0 ∷ l) (one_of 2 (i + 1) (i + 2) xs (omega arith) (omega arith)
    ∙ ap (λ l. get_or xs (i + 1) 0 ∷ l) (one_of 1 (i + 2) (i + 3) xs (omega arith) (omega arith)
    ∙ ap (λ l. get_or xs (i + 2) 0 ∷ l) (one_of 0 (i + 3) (i + 4) xs (omega arith) (omega arith))))

digits_back : (a b c d : ℕ) → a < 256 → b < 256 → c < 256 → d < 256 → four_octets (a * 16777216 + b * 65536 + c * 256 + d) ≡ a ∷ b ∷ c ∷ d ∷ []
digits_back a b c d ha hb hc hd =
    let n = a * 16777216 + b * 65536 + c * 256 + d in
    let a' : n / 2 ^ 24 % 256 ≡ a = omega arith in
    let b' : n / 2 ^ 16 % 256 ≡ b = omega arith in
    let c' : n / 2 ^ 8 % 256 ≡ c = omega arith in
    let d' : n % 256 ≡ d = omega arith in
    λ i. a' i ∷ b' i ∷ c' i ∷ d' i ∷ []

-- a number that is written again is the octets where it was read
pub number_written : (xs : List ℕ) (place : ℕ) → ((k : ℕ) → get_or xs k 0 < 256) → place + 4 ≤ length xs → four_octets (number_at xs place) ≡ take 4 (drop place xs)
number_written xs place fits h =
    digits_back _ _ _ _ (fits place) (fits (place + 1)) (fits (place + 2)) (fits (place + 3)) ∙ sym (four_of place xs h)
