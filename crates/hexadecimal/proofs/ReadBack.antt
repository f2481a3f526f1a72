-- Digits and octets read back from one another. Assumes nothing.
use Rattle.std.proofs.Common.{◌≡◌, ℕ, zero, suc, ◌+◌, ◌*◌, ◌/◌, ◌%◌, ◌<◌, ◌==◌, Bool, true, cond, ◌&&◌, List, [], ◌∷◌, map, slice_index, Option, Some, None, nat_lt, inl, inr, refl, sym, ap, ap₂, ◌∙◌, arith}
use Rattle.std.specs.Char.{to_ascii_uppercase}
use Rattle.std.specs.Result.{result_ok}
use Rattle.std.proofs.lemmas.Bool.{and_parts, cases_lt, eqb-true}
use Rattle.std.proofs.lemmas.Bool.Decides.{nat_tests}
use Rattle.hex.specs.Hex.{encode_upper, encode_with, hex_digit_value, upper_digits}
use Rattle.hex.proofs.HexLemmas.{decode_of-encode_lower, decode_of-encode_upper}
use Rattle.hexadecimal.specs.Text.{octets_written, DigitsReadBack}
use Rattle.hexadecimal.proofs.OctetByOctet.{octet_of, before, an_octet_more, nothing_writes}

-- ---- either case

digit_in_capitals : (c : ℕ) → hex_digit_value (to_ascii_uppercase c) ≡ hex_digit_value c
digit_in_capitals c = grind (arith, nat_tests)

either_case : (text : List ℕ) → octets_written (map to_ascii_uppercase text) ≡ octets_written text
either_case [] = refl
either_case (a ∷ []) = refl
either_case (a ∷ b ∷ text) =
    an_octet_more (to_ascii_uppercase a) (to_ascii_uppercase b) (map to_ascii_uppercase text)
    ∙ ap₂ before (ap₂ octet_of (digit_in_capitals a) (digit_in_capitals b)) (either_case text)
    ∙ sym (an_octet_more a b text)

-- ---- what is read are the digits of the octets

-- the code of the capital digit of a value below 16
abbrev capital : ℕ → ℕ
capital v = cond (nat_lt v 10) (48 + v) (55 + v)

abbrev all_capital : ℕ → Bool
all_capital zero = true
all_capital (suc n) = (slice_index upper_digits n == capital n) && all_capital n

capital_below : (n v : ℕ) → all_capital n ≡ true → v < n → slice_index upper_digits v ≡ capital v
capital_below zero v all below = absurd (omega arith)
capital_below (suc n) v all below =
    let parts = and_parts (slice_index upper_digits n == capital n) (all_capital n) all in
    elim (cases_lt v n) [
      | inl further ↦ capital_below n v parts.1 further
      | inr last ↦
          let same : v ≡ n = omega arith in
          rw same (eqb-true (slice_index upper_digits n) (capital n) parts.0)
    ]

digit_of : (c v : ℕ) → hex_digit_value c ≡ Some v → (v < 16) × (to_ascii_uppercase c ≡ slice_index upper_digits v)
digit_of c v is =
    let small : v < 16 = grind (arith, nat_tests) in
    let capital_is : to_ascii_uppercase c ≡ capital v = grind (arith, nat_tests) in
    (small, capital_is ∙ sym (capital_below 16 v refl small))

-- two digits and what they write, before a text and what that writes
digits_before : (a b : ℕ) (text octets : List ℕ) (high low : Option ℕ) (further : Option (List ℕ))
    → hex_digit_value a ≡ high → hex_digit_value b ≡ low
    → ((written : List ℕ) → further ≡ Some written → map to_ascii_uppercase text ≡ encode_upper written)
    → before (octet_of high low) further ≡ Some octets
    → to_ascii_uppercase a ∷ to_ascii_uppercase b ∷ map to_ascii_uppercase text ≡ encode_upper octets
unfolding encode_with
digits_before a b text octets None low further is_high is_low go is = cc is
digits_before a b text octets (Some h) None further is_high is_low go is = cc is
digits_before a b text octets (Some h) (Some l) None is_high is_low go is = cc is
digits_before a b text octets (Some h) (Some l) (Some written) is_high is_low go is =
    let high = digit_of a h is_high in
    let low = digit_of b l is_low in
    let first : h ≡ (h * 16 + l) / 16 = omega (arith, high.0, low.0) in
    let second : l ≡ (h * 16 + l) % 16 = omega (arith, high.0, low.0) in
    let same : (h * 16 + l) ∷ written ≡ octets = cc is in
    ap₂ (λ x y. x ∷ y) (high.1 ∙ ap (slice_index upper_digits) first) (ap₂ (λ x y. x ∷ y) (low.1 ∙ ap (slice_index upper_digits) second) (go written refl))
    ∙ ap encode_upper same

only_so : (text octets : List ℕ) → octets_written text ≡ Some octets → map to_ascii_uppercase text ≡ encode_upper octets
unfolding encode_with
only_so [] octets is = let none : [] ≡ octets = cc (sym nothing_writes ∙ is) in ap encode_upper none
only_so (a ∷ []) octets is = cc is
only_so (a ∷ b ∷ text) octets is =
    digits_before a b text octets (hex_digit_value a) (hex_digit_value b) (octets_written text) refl refl (only_so text) (sym (an_octet_more a b text) ∙ is)

pub digits_read_back : DigitsReadBack
digits_read_back = record {
  capitals = λ octets are. ap result_ok (decode_of-encode_upper octets are);
  small_letters = λ octets are. ap result_ok (decode_of-encode_lower octets are);
  either_case = either_case;
  only_so = only_so;
}
