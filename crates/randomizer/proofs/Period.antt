-- The octets of the sequence repeat after 255, and one period of them, computed in one run. Assumes nothing.
use Rattle.std.proofs.Common.{◌≡◌, ℕ, zero, suc, ◌+◌, ◌*◌, ◌/◌, ◌%◌, ◌<◌, List, get_or, sym, refl, ap, ◌∙◌, le_of_suc-le-suc, not-suc-le-zero, suc-add, zero-add, arith}
use mathlib.Core.Path.{fun_ext}
use Rattle.randomizer.specs.Sequence.{bit_after, octet_of, sequence_bit, sequence_octet, octets_after, first_octets}

-- any eight bits in a row give all that come after them
bit_after_add : (m n a b c d e f g h : ℕ) →
    let bit = bit_after a b c d e f g h in
    bit (m + n) ≡ bit_after (bit m) (bit (m + 1)) (bit (m + 2)) (bit (m + 3)) (bit (m + 4)) (bit (m + 5)) (bit (m + 6)) (bit (m + 7)) n
bit_after_add zero n a b c d e f g h = rw zero-add
bit_after_add (suc m) n a b c d e f g h = simp suc-add (bit_after_add m n b c d e f g h ((a + b + c + d + e + g) % 2))

-- 255 octets are 2040 bits, after which the next eight are ones again
sequence_bit_repeats : (times n : ℕ) → sequence_bit (times * 2040 + n) ≡ sequence_bit n
sequence_bit_repeats zero n = rw zero-add
sequence_bit_repeats (suc times) n =
    let once_more : suc times * 2040 + n ≡ 2040 + (times * 2040 + n) = omega arith in
    ap sequence_bit once_more ∙ bit_after_add 2040 (times * 2040 + n) 1 1 1 1 1 1 1 1 ∙ sequence_bit_repeats times n

pub sequence_octet_repeats : (place : ℕ) → sequence_octet (place % 255) ≡ sequence_octet place
sequence_octet_repeats place =
    ap octet_of (fun_ext (λ i.
    let there : place / 255 * 2040 + (8 * (place % 255) + i) ≡ 8 * place + i = omega arith in
    sym (sequence_bit_repeats (place / 255) (8 * (place % 255) + i)) ∙ ap sequence_bit there))

get_or_octets_after : (count k a b c d e f g h : ℕ) → k < count →
    get_or (octets_after count a b c d e f g h) k 0 ≡ octet_of (λ i. bit_after a b c d e f g h (8 * k + i))
get_or_octets_after zero k a b c d e f g h within = absurd (not-suc-le-zero within)
get_or_octets_after (suc count) zero a b c d e f g h within = refl
get_or_octets_after (suc count) (suc k) a b c d e f g h within =
    let bit = bit_after a b c d e f g h in
    get_or_octets_after count k (bit 8) (bit 9) (bit 10) (bit 11) (bit 12) (bit 13) (bit 14) (bit 15) (le_of_suc-le-suc within)
    ∙ ap octet_of (fun_ext (λ i.
    let there : 8 + (8 * k + i) ≡ 8 * suc k + i = omega arith in
    sym (bit_after_add 8 (8 * k + i) a b c d e f g h) ∙ ap bit there))

pub get_or_one_period : (xs : List ℕ) (place k : ℕ) → xs ≡ first_octets 255 → place % 255 ≡ k → get_or xs k 0 ≡ sequence_octet place
get_or_one_period xs place k one here =
    ap (λ l. get_or l k 0) one ∙ sym (ap (λ j. get_or (first_octets 255) j 0) here)
    ∙ get_or_octets_after 255 (place % 255) 1 1 1 1 1 1 1 1 (omega arith) ∙ sequence_octet_repeats place
