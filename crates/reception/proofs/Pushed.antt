-- A bit that is shifted into a word from its end. Assumes nothing.
use Rattle.std.proofs.Common.{◌≡◌, ℕ, ◌+◌, ◌*◌, ◌%◌, ◌<◌, Bool, true, false, sym, refl, ap, ◌∙◌, arith}
use lib.Bits.{bit_or}
use mir.Val.{bool_byte}
use Rattle.std.proofs.lemmas.Nat.{or_shifted}
use Rattle.reception.specs.Symbols.{bit_value}

byte_is : (b : Bool) → bool_byte b ≡ bit_value b
byte_is true = refl
byte_is false = refl

below_two : (b : Bool) → bit_value b < 2
below_two true = omega arith
below_two false = omega arith

-- of a word that is shifted by one, so much is left: q, and behind it a 0
pub pushed : (m q w r : ℕ) (b : Bool) → r ≡ bool_byte b → w * 2 % m ≡ q * 2 → ((n : ℕ) → n < 2 → (2 * w + n) % m ≡ q * 2 + n) → bit_or (w * 2 % m) r ≡ (2 * w + bit_value b) % m
pushed m q w r b e left whole =
    ap (bit_or (w * 2 % m)) (e ∙ byte_is b) ∙ ap (λ x. bit_or x (bit_value b)) left ∙ or_shifted q 1 (bit_value b) (below_two b) ∙ sym (whole (bit_value b) (below_two b))
