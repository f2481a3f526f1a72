-- Bits that enter a word. Assumes nothing.
use Rattle.std.proofs.Common.{ℕ, suc, ◌+◌, ◌*◌, ◌^◌, ◌<◌, Bool, true, false, pow-suc, arith, pow_mono}
use Rattle.reception.specs.Symbols.{bit_value}

-- so many bits make a number below that power of 2
pub doubled : (n w : ℕ) (b : Bool) → w < 2 ^ n → 2 * w + bit_value b < 2 ^ suc n
doubled n w true h = omega (arith, pow-suc 2 n)
doubled n w false h = omega (arith, pow-suc 2 n)

-- and fewer than 64 bits, and one more, fit a word
pub fits_word : (n w : ℕ) (b : Bool) → w < 2 ^ n → n < 64 → 2 * w + bit_value b < 2 ^ 64
fits_word n w b h few = omega (arith, doubled n w b h, pow_mono {i = suc n} {j = 64} few)
