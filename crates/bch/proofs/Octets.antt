-- The octets of information in a word. Assumes nothing.
use Rattle.std.proofs.Common.{◌≡◌, ℕ, ◌+◌, ◌*◌, ◌/◌, ◌%◌, ◌^◌, List, [], ◌∷◌, length, sym, ap, ◌∙◌, arith, shr-shr}
use Rattle.std.specs.Int.Digits.{number_from_digits, AllBelowBase}
use Rattle.bch.specs.Codeblock.{check_bits, Information, sent, octet, information_of}
use Rattle.bch.proofs.Syndromes.{information_below, check_bits_below}

-- what holds of every list of seven
pub seven : (P : List ℕ → Type 0) → ((a b c d e f g : ℕ) → P (a ∷ b ∷ c ∷ d ∷ e ∷ f ∷ g ∷ [])) → (xs : List ℕ) → length xs ≡ 7 → P xs
seven P q [] n = absurd (omega arith)
seven P q (a ∷ []) n = absurd (omega arith)
seven P q (a ∷ b ∷ []) n = absurd (omega arith)
seven P q (a ∷ b ∷ c ∷ []) n = absurd (omega arith)
seven P q (a ∷ b ∷ c ∷ d ∷ []) n = absurd (omega arith)
seven P q (a ∷ b ∷ c ∷ d ∷ e ∷ []) n = absurd (omega arith)
seven P q (a ∷ b ∷ c ∷ d ∷ e ∷ f ∷ []) n = absurd (omega arith)
seven P q (a ∷ b ∷ c ∷ d ∷ e ∷ f ∷ g ∷ []) n = q a b c d e f g
seven P q (a ∷ b ∷ c ∷ d ∷ e ∷ f ∷ g ∷ h ∷ xs) n = absurd (omega arith)

octet_from : (d word other : ℕ) → word / 2 ≡ other / 2 → octet (1 + d) word ≡ octet (1 + d) other
octet_from d word other e = ap (λ x. x % 256) (sym (shr-shr word 1 d) ∙ ap (λ x. x / 2 ^ d) e ∙ shr-shr other 1 d)

-- the information is read from the first 63 bits
pub information_from : (word other : ℕ) → word / 2 ≡ other / 2 → information_of word ≡ information_of other
information_from word other e =
    let same = λ (d : ℕ). octet_from d word other e in
    λ i. same 55 i ∷ same 47 i ∷ same 39 i ∷ same 31 i ∷ same 23 i ∷ same 15 i ∷ same 7 i ∷ []

read_back : (a b c d e f g h : ℕ) → AllBelowBase 256 (a ∷ b ∷ c ∷ d ∷ e ∷ f ∷ g ∷ h ∷ []) → information_of (number_from_digits 256 (a ∷ b ∷ c ∷ d ∷ e ∷ f ∷ g ∷ h ∷ [])) ≡ a ∷ b ∷ c ∷ d ∷ e ∷ f ∷ g ∷ []
read_back a b c d e f g h u =
    let w = number_from_digits 256 (a ∷ b ∷ c ∷ d ∷ e ∷ f ∷ g ∷ h ∷ []) in
    let a' : octet 56 w ≡ a = omega arith in
    let b' : octet 48 w ≡ b = omega arith in
    let c' : octet 40 w ≡ c = omega arith in
    let d' : octet 32 w ≡ d = omega arith in
    let e' : octet 24 w ≡ e = omega arith in
    let f' : octet 16 w ≡ f = omega arith in
    let g' : octet 8 w ≡ g = omega arith in
    λ i. a' i ∷ b' i ∷ c' i ∷ d' i ∷ e' i ∷ f' i ∷ g' i ∷ []

pub information_sent : (information : List ℕ) → Information information → information_of (sent information) ≡ information
information_sent information h =
    seven (λ xs. Information xs → information_of (sent xs) ≡ xs)
    (λ a b c d e f g o.
    let xs = a ∷ b ∷ c ∷ d ∷ e ∷ f ∷ g ∷ [] in
    let last = check_bits_below (number_from_digits 256 xs) (information_below xs o) in
    read_back a b c d e f g (2 * check_bits (number_from_digits 256 xs)) (omega arith))
    information h.0 h
