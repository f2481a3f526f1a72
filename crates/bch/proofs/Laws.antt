-- The laws of wrong bits and of the filler, for the verdict on a word of 64 bits. Assumes nothing.
use Rattle.std.proofs.Common.{◌≡◌, ℕ, zero, suc, ◌*◌, ◌/◌, ◌%◌, ◌^◌, ◌<◌, true, false, ◌≢◌, List, Some, None, Option, sym, refl, ap, ◌∙◌, ap₂, ⊎_elim, pow-suc, arith, shr_lt}
use lib.Bits.{xor_shr, xor_comm, xor_zero_r, xor_lt}
use Rattle.std.specs.Int.Digits.{number_from_digits}
use Rattle.std.proofs.lemmas.Int.Digits.{number_push}
use Rattle.bch.specs.declared.Mode.{Mode}
use Rattle.bch.specs.declared.Mode.TheVariants.{Detecting, Correcting}
use Rattle.bch.specs.Polynomial.{◌⊕◌, weight, remainder}
use Rattle.bch.specs.Codeblock.{check_bits, Information, sent, information_of}
use Rattle.bch.specs.Reception.{syndrome_polynomial, syndrome, power_remainder, wrong_place, turned, accepted, rejected, corrected, judged, verdict, wrong_bits}
use Rattle.bch.specs.Laws.{UndamagedIsAccepted, OneWrongBitIsCorrected, TwoWrongBitsAreRejected, OneOrThreeWrongBitsAreDetected, SameButForTheFiller, TheFillerDecidesNothing}
use Rattle.bch.proofs.Sums.{added_twice, equal_from_sum}
use Rattle.bch.proofs.Division.{divided_sum, divided_zero}
use Rattle.bch.proofs.Weights.{weight_none, weight_one, weight_two}
use Rattle.bch.proofs.Octets.{information_from, information_sent}
use Rattle.bch.proofs.Places.{place_of_power, same_some}
use Rattle.bch.proofs.Syndromes.{information_below, check_bits_below, parity_of_pattern, number_of_pattern}

half_power : (d : ℕ) → 2 ^ d ≡ 2 ^ suc d / 2
half_power d = omega (arith, pow-suc 2 d)

number_rejected : (mode : Mode) (word n : ℕ) → n ≢ 0 → judged mode word 0 n ≡ rejected
number_rejected mode word zero ne = absurd (ne refl)
number_rejected mode word (suc n) ne = refl

module _ (information : List ℕ) (h : Information information) (word : ℕ) (w : word < 2 ^ 64) where
  -- the error pattern
  abbrev e : ℕ
  e = (sent information ⊕ word) / 2

  number_sent : sent information < 2 ^ 64
  number_sent =
      let i = number_from_digits 256 information in
      omega (arith, number_push 256 information (2 * check_bits i), information_below information h, check_bits_below i (information_below information h))

  below : e < 2 ^ 63
  below = shr_lt 63 1 (xor_lt 64 (sent information) word number_sent w)

  -- what the verdict is, by the error pattern
  by_pattern : (mode : Mode) (p n : ℕ) → weight 63 e % 2 ≡ p → remainder syndrome_polynomial 6 e ≡ n → verdict mode word ≡ judged mode word p n
  by_pattern mode p n a b = ap₂ (judged mode word) (parity_of_pattern information h word ∙ a) (number_of_pattern information h word ∙ b)

  -- where the first 63 bits are those that were sent, the information is
  information_same : (other : ℕ) → sent information / 2 ≡ other / 2 → information_of other ≡ information
  information_same other same = sym (information_from (sent information) other same) ∙ information_sent information h

  -- the first 63 bits of what was sent are those of the word with the pattern added
  with_pattern : sent information / 2 ≡ word / 2 ⊕ e
  with_pattern = sym (added_twice (sent information / 2) (word / 2)) ∙ ap (λ x. x ⊕ word / 2) (sym (xor_shr (sent information) word 1)) ∙ xor_comm e (word / 2)

  pub undamaged : (mode : Mode) → wrong_bits (sent information) word ≡ 0 → verdict mode word ≡ accepted information false
  undamaged mode none =
      let zero_pattern : e ≡ 0 = weight_none 63 e below none in
      by_pattern mode 0 0 (ap (λ x. x % 2) none) (ap (remainder syndrome_polynomial 6) zero_pattern ∙ divided_zero syndrome_polynomial 6 64)
      ∙ ap (λ x. accepted x false) (information_same word (with_pattern ∙ ap (λ x. word / 2 ⊕ x) zero_pattern ∙ xor_zero_r (word / 2)))

  pub one_corrected : wrong_bits (sent information) word ≡ 1 → verdict Correcting word ≡ accepted information true
  one_corrected one =
      let at = weight_one 63 e below one in
      let d = at.0 in
      by_pattern Correcting 1 (power_remainder d) (ap (λ x. x % 2) one) (ap (remainder syndrome_polynomial 6) at.2)
      ∙ ap (corrected word) (place_of_power d at.1)
      ∙ ap (λ x. accepted x true) (information_same (turned d word) (with_pattern ∙ ap (λ x. word / 2 ⊕ x) (at.2 ∙ half_power d) ∙ sym (xor_shr word (2 ^ suc d) 1)))

  pub two_rejected : (mode : Mode) → wrong_bits (sent information) word ≡ 2 → verdict mode word ≡ rejected
  two_rejected mode two =
      let at = weight_two 63 e below two in
      let d = at.0 in
      let f = at.1 in
      let n = power_remainder d ⊕ power_remainder f in
      by_pattern mode 0 n (ap (λ x. x % 2) two) (ap (remainder syndrome_polynomial 6) at.5 ∙ divided_sum syndrome_polynomial 6 64 (2 ^ d) (2 ^ f))
      ∙ number_rejected mode word n
      (λ none. at.4 (same_some d f (sym (place_of_power d at.2) ∙ ap wrong_place (equal_from_sum (power_remainder d) (power_remainder f) none) ∙ place_of_power f at.3)))

  pub odd_detected : weight 63 e % 2 ≡ 1 → verdict Detecting word ≡ rejected
  odd_detected odd = by_pattern Detecting 1 (remainder syndrome_polynomial 6 e) odd refl

pub undamaged_is_accepted : (mode : Mode) (word : ℕ) → word < 2 ^ 64 → UndamagedIsAccepted word (verdict mode word)
undamaged_is_accepted mode word w information h = undamaged information h word w mode

pub one_wrong_bit_is_corrected : (mode : Mode) (word : ℕ) → word < 2 ^ 64 → OneWrongBitIsCorrected mode word (verdict mode word)
one_wrong_bit_is_corrected mode word w information h is one = ap (λ m. verdict m word) is ∙ one_corrected information h word w one

pub two_wrong_bits_are_rejected : (mode : Mode) (word : ℕ) → word < 2 ^ 64 → TwoWrongBitsAreRejected word (verdict mode word)
two_wrong_bits_are_rejected mode word w information h = two_rejected information h word w mode

pub one_or_three_wrong_bits_are_detected : (mode : Mode) (word : ℕ) → word < 2 ^ 64 → OneOrThreeWrongBitsAreDetected mode word (verdict mode word)
one_or_three_wrong_bits_are_detected mode word w information h is few =
    ap (λ m. verdict m word) is ∙ odd_detected information h word w (⊎_elim (λ one. ap (λ x. x % 2) one) (λ three. ap (λ x. x % 2) three) few)

-- two words that differ in the filler alone
module _ (word other : ℕ) (same : SameButForTheFiller word other) where
  same_information : information_of word ≡ information_of other
  same_information = information_from word other same

  same_turned : (d : ℕ) → information_of (turned d word) ≡ information_of (turned d other)
  same_turned d =
      information_from (turned d word) (turned d other)
      (xor_shr word (2 ^ suc d) 1 ∙ ap (λ x. x ⊕ 2 ^ suc d / 2) same ∙ sym (xor_shr other (2 ^ suc d) 1))

  same_corrected : (place : Option ℕ) → corrected word place ≡ corrected other place
  same_corrected None = refl
  same_corrected (Some d) = ap (λ x. accepted x true) (same_turned d)

  same_judged : (mode : Mode) (p n : ℕ) → judged mode word p n ≡ judged mode other p n
  same_judged mode zero zero = ap (λ x. accepted x false) same_information
  same_judged mode zero (suc n) = refl
  same_judged Detecting (suc p) n = refl
  same_judged Correcting (suc p) n = same_corrected (wrong_place n)

  same_syndrome : syndrome word ≡ syndrome other
  same_syndrome = ap (λ x. (weight 63 (x ⊕ 127) % 2, remainder syndrome_polynomial 6 (x ⊕ 127))) same

  pub same_verdict : (mode : Mode) → verdict mode word ≡ verdict mode other
  same_verdict mode = same_judged mode (syndrome word).0 (syndrome word).1 ∙ ap (λ s. judged mode other s.0 s.1) same_syndrome

pub the_filler_decides_nothing : (mode : Mode) (word : ℕ) → TheFillerDecidesNothing mode word (verdict mode word)
the_filler_decides_nothing mode word other same = same_verdict word other same mode
