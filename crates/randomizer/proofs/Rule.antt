-- The sequence follows its rule. Assumes nothing.
use Rattle.std.proofs.Common.{◌≡◌, ℕ, zero, suc, ◌+◌, ◌%◌, sym, refl, ◌∙◌, suc-add, zero-add}
use Rattle.std.proofs.lemmas.List.FromFn.{get_or-map-range_with_len}
use Rattle.std.proofs.lemmas.List.{get_or-replicate}
use Rattle.randomizer.specs.Sequence.{bit_after, sequence_bit, FollowsTheRule}

bit_after_goes_on : (n a b c d e f g h : ℕ) →
    let bit = bit_after a b c d e f g h in
    bit (n + 8) ≡ (bit n + bit (n + 1) + bit (n + 2) + bit (n + 3) + bit (n + 4) + bit (n + 6)) % 2
bit_after_goes_on zero a b c d e f g h = refl
bit_after_goes_on (suc n) a b c d e f g h = simp suc-add (bit_after_goes_on n b c d e f g h ((a + b + c + d + e + g) % 2))

pub sequence_follows_the_rule : FollowsTheRule sequence_bit
sequence_follows_the_rule = record {
  begins = λ n below. sym (get_or-map-range_with_len sequence_bit 0 8 n n 0 below (zero-add n)) ∙ get_or-replicate 8 n 1 0 below;
  goes_on = λ n. bit_after_goes_on n 1 1 1 1 1 1 1 1;
}
