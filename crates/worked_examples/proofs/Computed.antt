-- The worked examples, computed by the checker. Assumes nothing.
use Rattle.std.proofs.Common.{◌≡◌, ℕ, ◌+◌, ◌*◌, true, false, refl, ap, ◌∙◌}
use Rattle.bch.specs.declared.Mode.{Mode}
use Rattle.bch.specs.declared.Mode.TheVariants.{Detecting, Correcting}
use Rattle.std.specs.Int.Digits.{number_from_digits}
use Rattle.bch.specs.Polynomial.{weight, divided}
use Rattle.bch.specs.Reception.{place_from, rejected, verdict}
use Rattle.cltu.specs.Cltu.{codeblocks_for, tail_sequence}
use Rattle.cltu.proofs.Places.{length_cltu}
use Rattle.worked_examples.specs.Worked.{starts, idle_from_zero, CltuOctets, WorkedExamples}

tail_rejected : (mode : Mode) → verdict mode (number_from_digits 256 tail_sequence) ≡ rejected
unfolding divided weight place_from
tail_rejected Detecting = refl
tail_rejected Correcting = refl

idle_from_zero_rejected : (mode : Mode) → verdict mode idle_from_zero ≡ rejected
unfolding divided weight place_from
idle_from_zero_rejected Detecting = refl
idle_from_zero_rejected Correcting = refl

whole_start : (mode : Mode) → starts mode 0xEB90 ≡ true
unfolding weight
whole_start Detecting = refl
whole_start Correcting = refl

two_wrong_bits : (mode : Mode) → starts mode 0xEB93 ≡ false
unfolding weight
two_wrong_bits Detecting = refl
two_wrong_bits Correcting = refl

octets : (n : ℕ) → CltuOctets n (10 + 8 * codeblocks_for n)
octets n r frame e = length_cltu r frame ∙ ap (λ k. 10 + 8 * codeblocks_for k) e

pub worked_examples : WorkedExamples
unfolding divided weight place_from
worked_examples =
    record {
      zeros = refl;
      tail_octets = refl;
      one = refl;
      fill_octets = refl;
      randomizer = refl;
      tail_syndrome = refl;
      tail_rejected = tail_rejected;
      idle_from_zero_syndrome = refl;
      idle_from_zero_rejected = idle_from_zero_rejected;
      idle_from_one_syndrome = refl;
      idle_from_one_place = refl;
      idle_from_one_detected = refl;
      idle_from_one_corrected = refl;
      cltu_of_1 = octets 1;
      cltu_of_7 = octets 7;
      cltu_of_8 = octets 8;
      cltu_of_1024 = octets 1024;
      tail_with_two_wrong_bits = refl;
      tail_with_three_wrong_bits = refl;
      start_undamaged = whole_start;
      start_with_a_wrong_bit = refl;
      start_with_a_wrong_bit_detected = refl;
      start_with_two_wrong_bits = two_wrong_bits;
      still_decoding_at_idle_bit_130 = tt;
      back_at_idle_bit_131 = refl;
    }
