-- Within the allowance a codeblock is accepted with its information, and the tail sequence is rejected. Assumes nothing.
use Rattle.std.proofs.Common.{◌≡◌, ℕ, zero, suc, ◌+◌, ◌*◌, ◌/◌, ◌%◌, ◌^◌, ◌<◌, ◌≤◌, Bool, true, false, ◌≢◌, List, [], ◌∷◌, length, None, sym, refl, ap, ◌∙◌, subst, ap₂, add-zero, add-suc, suc-add, arith, shr_lt}
use lib.Bits.{xor_lt}
use Rattle.std.specs.Int.Digits.{number_from_digits}
use Rattle.bch.specs.declared.Mode.{Mode}
use Rattle.bch.specs.declared.Mode.TheVariants.{Detecting, Correcting}
use Rattle.bch.specs.Polynomial.{◌⊕◌, weight, divided, remainder}
use Rattle.bch.specs.Codeblock.{Information, sent}
use Rattle.bch.specs.Reception.{syndrome_polynomial, received, power_remainder, place_from, wrong_place, accepted, rejected, judged, verdict, wrong_bits}
use Rattle.bch.proofs.Division.{divided_sum, divided_zero}
use Rattle.bch.proofs.Laws.{undamaged_is_accepted, one_wrong_bit_is_corrected}
use Rattle.bch.proofs.Places.{place_of_power}
use Rattle.bch.proofs.Syndromes.{pattern_added}
use Rattle.bch.proofs.Weights.{parity_sum, weight_none, weight_one}
use Rattle.cltu.specs.Cltu.{tail_sequence}
use Rattle.reception.specs.Symbols.{bit_value}
use Rattle.reception.specs.Allowance.{value_from, value, block_tolerance, tail_tolerance}
use Rattle.reception.proofs.Words.{doubled}

value_from_below : (bits : List Bool) (n w : ℕ) → w < 2 ^ n → value_from w bits < 2 ^ (n + length bits)
value_from_below [] n w h = subst (λ k. w < 2 ^ k) (sym (add-zero n)) h
value_from_below (b ∷ bs) n w h =
    subst (λ k. value_from (2 * w + bit_value b) bs < 2 ^ k) (suc-add n (length bs) ∙ sym (add-suc n (length bs)))
    (value_from_below bs (suc n) (2 * w + bit_value b) (doubled n w b h))

pub value_below : (bits : List Bool) (n : ℕ) → length bits ≡ n → value bits < 2 ^ n
value_below bits n e = let all : 0 + length bits ≡ n = omega arith in subst (λ k. value bits < 2 ^ k) all (value_from_below bits 0 0 (omega arith))

pub accepted_within : (mode : Mode) (information : List ℕ) → Information information → (word : ℕ) → word < 2 ^ 64 → wrong_bits (sent information) word ≤ block_tolerance mode →
    (c : Bool) × (verdict mode word ≡ accepted information c) × (bit_value c ≡ wrong_bits (sent information) word)
accepted_within Detecting information i word w few = (false, undamaged_is_accepted Detecting word w information i (omega arith), omega arith)
accepted_within Correcting information i word w few = by (wrong_bits (sent information) word) refl few
  where
    by : (n : ℕ) → wrong_bits (sent information) word ≡ n → n ≤ 1 →
        (c : Bool) × (verdict Correcting word ≡ accepted information c) × (bit_value c ≡ wrong_bits (sent information) word)
    by zero e few = (false, undamaged_is_accepted Correcting word w information i e, sym e)
    by (suc zero) e few = (true, one_wrong_bit_is_corrected Correcting word w information i refl e, sym e)
    by (suc (suc n)) e few = absurd (omega arith)

-- the tail sequence, with the bits of a pattern turned
abbrev tail_word : ℕ
tail_word = number_from_digits 256 tail_sequence

tail_parity : weight 63 (received tail_word) % 2 ≡ 1
unfolding weight
tail_parity = refl

tail_number : remainder syndrome_polynomial 6 (received tail_word) ≡ 0
unfolding divided
tail_number = refl

no_place : wrong_place 0 ≡ None
unfolding divided place_from
no_place = refl

module _ (word : ℕ) (w : word < 2 ^ 64) where
  abbrev e : ℕ
  e = (tail_word ⊕ word) / 2

  below : e < 2 ^ 63
  below = shr_lt 63 1 (xor_lt 64 tail_word word (omega arith) w)

  parity_is : weight 63 (received word) % 2 ≡ 1 ⊕ weight 63 e % 2
  parity_is = ap (λ x. weight 63 x % 2) (pattern_added tail_word word) ∙ parity_sum 63 (received tail_word) e ∙ ap (λ x. x ⊕ weight 63 e % 2) tail_parity

  number_is : remainder syndrome_polynomial 6 (received word) ≡ remainder syndrome_polynomial 6 e
  number_is = ap (remainder syndrome_polynomial 6) (pattern_added tail_word word) ∙ divided_sum syndrome_polynomial 6 64 (received tail_word) e ∙ ap (λ x. x ⊕ remainder syndrome_polynomial 6 e) tail_number

  verdict_by : (mode : Mode) (p n : ℕ) → 1 ⊕ weight 63 e % 2 ≡ p → remainder syndrome_polynomial 6 e ≡ n → verdict mode word ≡ judged mode word p n
  verdict_by mode p n a b = ap₂ (judged mode word) (parity_is ∙ a) (number_is ∙ b)

  -- with no wrong bit the number is 0, which has no place
  whole_tail : (mode : Mode) → weight 63 e ≡ 0 → verdict mode word ≡ rejected
  whole_tail mode none =
      verdict_by mode 1 0 (ap (λ x. 1 ⊕ x % 2) none) (ap (remainder syndrome_polynomial 6) (weight_none 63 e below none) ∙ divided_zero syndrome_polynomial 6 64) ∙ by mode
    where
      by : (mode : Mode) → judged mode word 1 0 ≡ rejected
      by Detecting = refl
      by Correcting = ap (λ o. Rattle.bch.specs.Reception.corrected word o) no_place

  -- with one the parity is 0 and the number is not
  nonzero : (n : ℕ) → n ≢ 0 → (mode : Mode) → judged mode word 0 n ≡ rejected
  nonzero zero ne mode = absurd (ne refl)
  nonzero (suc n) ne mode = refl

  damaged_tail : (mode : Mode) → weight 63 e ≡ 1 → verdict mode word ≡ rejected
  damaged_tail mode one =
      let at = weight_one 63 e below one in
      let d = at.0 in
      verdict_by mode 0 (power_remainder d) (ap (λ x. 1 ⊕ x % 2) one) (ap (remainder syndrome_polynomial 6) at.2)
      ∙ nonzero (power_remainder d) (λ z. let found = sym (place_of_power d at.1) ∙ ap wrong_place z ∙ no_place in let absurdly : ◌≡◌ {A = ℕ} 0 1 = cc in omega arith) mode

  twice_damaged_tail : weight 63 e ≡ 2 → verdict Detecting word ≡ rejected
  twice_damaged_tail two = verdict_by Detecting 1 (remainder syndrome_polynomial 6 e) (ap (λ x. 1 ⊕ x % 2) two) refl

  pub tail_is_rejected : (mode : Mode) → wrong_bits tail_word word ≤ tail_tolerance mode → verdict mode word ≡ rejected
  tail_is_rejected mode few = by mode (weight 63 e) refl few
    where
      by : (mode : Mode) (n : ℕ) → weight 63 e ≡ n → n ≤ tail_tolerance mode → verdict mode word ≡ rejected
      by mode zero is few = whole_tail mode is
      by mode (suc zero) is few = damaged_tail mode is
      by Correcting (suc (suc n)) is few = absurd (omega arith)
      by Detecting (suc (suc zero)) is few = twice_damaged_tail is
      by Detecting (suc (suc (suc n))) is few = absurd (omega arith)
