-- Symbols packed into octets, and unpacked again. Assumes nothing.
use Rattle.std.proofs.Common.{◌≡◌, ℕ, suc, ◌+◌, ◌-◌, ◌*◌, ◌/◌, ◌%◌, ◌^◌, ◌<◌, ◌≤◌, Bool, false, List, [], ◌∷◌, ◌++◌, length, get_or, take, drop, sym, refl, ap, ◌∙◌, subst, ⊎_elim, zero-add, arith}
use Rattle.std.proofs.lemmas.List.FromFn.{length-map-range_with_len, get_or-map-range_with_len}
use Rattle.std.proofs.lemmas.List.{length-append, length-take-le, length-drop, get_or_append_left, get_or-append_right, get_or-take, get_or-drop, get_or_past, ext_get_or}
use Rattle.std.proofs.lemmas.Bool.{cases_lt}
use Rattle.bch.specs.Bits.{bit_at, octet_bits, bits_of}
use Rattle.pass_record.specs.Record.{octet_of, octets_for, packed}
use Rattle.pass_record.specs.Reading.{unused}
use Rattle.pass_record.proofs.Octets.{octet_bit, packed_bit, packed_again, low_zero, padding_zero}

pub length_packed : (s : List Bool) → length (packed s) ≡ octets_for (length s)
length_packed s = length-map-range_with_len (λ k. octet_of (drop (8 * k) s)) 0 (octets_for (length s))

packed_at : (s : List Bool) (j : ℕ) → j < octets_for (length s) → get_or (packed s) j 0 ≡ octet_of (drop (8 * j) s)
packed_at s j h = get_or-map-range_with_len (λ k. octet_of (drop (8 * k) s)) 0 (octets_for (length s)) j j 0 h (zero-add j)

pub length_bits_of : (xs : List ℕ) → length (bits_of xs) ≡ 8 * length xs
length_bits_of [] = refl
length_bits_of (x ∷ xs) = omega (arith, length-append (octet_bits x) (bits_of xs), length_bits_of xs)

pub bits_of_at : (xs : List ℕ) (k : ℕ) (d : Bool) → k < 8 * length xs → get_or (bits_of xs) k d ≡ bit_at (7 - k % 8) (get_or xs (k / 8) 0)
bits_of_at [] k d h = absurd (omega arith)
bits_of_at (x ∷ xs) k d h =
    ⊎_elim
    (λ within.
    let first : 0 ≡ k / 8 = omega arith in
    let same : k ≡ k % 8 = omega arith in
    get_or_append_left (octet_bits x) (bits_of xs) d k within ∙ octet_bit x k d within ∙ ap (λ m. bit_at (7 - m) x) same ∙ ap (λ j. bit_at (7 - k % 8) (get_or (x ∷ xs) j 0)) first)
    (λ past.
    let next : suc ((k - 8) / 8) ≡ k / 8 = omega arith in
    let same : (k - 8) % 8 ≡ k % 8 = omega arith in
    get_or-append_right (octet_bits x) (bits_of xs) 8 k d refl past ∙ bits_of_at xs (k - 8) d (omega arith)
    ∙ ap (λ m. bit_at (7 - m) (get_or xs ((k - 8) / 8) 0)) same ∙ ap (λ j. bit_at (7 - k % 8) (get_or (x ∷ xs) j 0)) next)
    (cases_lt k 8)

-- symbols that were packed are the first bits of the octets
pub unpacked : (s : List Bool) (rest : List ℕ) → take (length s) (bits_of (packed s ++ rest)) ≡ s
unpacked s rest =
    let all = packed s ++ rest in
    let long : length all ≡ octets_for (length s) + length rest = length-append (packed s) rest ∙ ap (λ n. n + length rest) (length_packed s) in
    let enough : length s ≤ length (bits_of all) = omega (arith, length_bits_of all) in
    let same : length (take (length s) (bits_of all)) ≡ length s = length-take-le (length s) (bits_of all) enough in
    ext_get_or false (take (length s) (bits_of all)) s same
    (λ k h.
    let within : k < length s = omega arith in
    let place : 8 * (k / 8) + k % 8 ≡ k = omega arith in
    get_or-take (length s) (bits_of all) k false within ∙ bits_of_at all k false (omega arith)
    ∙ ap (bit_at (7 - k % 8)) (get_or_append_left (packed s) rest 0 (k / 8) (omega (arith, length_packed s)) ∙ packed_at s (k / 8) (omega arith))
    ∙ packed_bit (drop (8 * (k / 8)) s) (k % 8) (omega arith) ∙ get_or-drop (8 * (k / 8)) s (k % 8) false ∙ ap (λ p. get_or s p false) place)

-- the last octet of a segment is padded with zeros
pub last_padded : (s : List Bool) → 0 < length s → get_or (packed s) (octets_for (length s) - 1) 0 % 2 ^ unused (length s) ≡ 0
last_padded s some =
    let j = octets_for (length s) - 1 in
    let left : 8 - length (drop (8 * j) s) ≡ unused (length s) = omega (arith, length-drop (8 * j) s) in
    ap (λ x. x % 2 ^ unused (length s)) (packed_at s j (omega arith)) ∙ ap (λ u. octet_of (drop (8 * j) s) % 2 ^ u) (sym left)
    ∙ padding_zero (drop (8 * j) s) (omega (arith, length-drop (8 * j) s))

-- the first bits of octets, packed, are these octets, where the bits left over are zero
module _ (ys : List ℕ) (n : ℕ) (fits : (k : ℕ) → get_or ys k 0 < 256) (some : 0 < n) (enough : n ≤ 8 * length ys) (zeros : get_or ys (octets_for n - 1) 0 % 2 ^ unused n ≡ 0) where
  abbrev s : List Bool
  s = take n (bits_of ys)

  pub length_first_bits : length s ≡ n
  length_first_bits = length-take-le n (bits_of ys) (omega (arith, length_bits_of ys))

  within_octet : (j m : ℕ) → m < 8 → 8 * j + m < n → get_or (drop (8 * j) s) m false ≡ bit_at (7 - m) (get_or ys j 0)
  within_octet j m h inside =
      let bit : (8 * j + m) % 8 ≡ m = omega arith in
      let octet : (8 * j + m) / 8 ≡ j = omega arith in
      get_or-drop (8 * j) s m false ∙ get_or-take n (bits_of ys) (8 * j + m) false inside ∙ bits_of_at ys (8 * j + m) false (omega arith)
      ∙ ap (λ b. bit_at (7 - b) (get_or ys ((8 * j + m) / 8) 0)) bit ∙ ap (λ o. bit_at (7 - m) (get_or ys o 0)) octet

  past_octet : (j m : ℕ) → j < octets_for n → m < 8 → n ≤ 8 * j + m → get_or (drop (8 * j) s) m false ≡ bit_at (7 - m) (get_or ys j 0)
  past_octet j m hj h past =
      let last : octets_for n - 1 ≡ j = omega arith in
      get_or-drop (8 * j) s m false ∙ get_or_past s (8 * j + m) false (omega (arith, length_first_bits))
      ∙ sym (low_zero (unused n) (get_or ys j 0) (7 - m) (subst (λ k. get_or ys k 0 % 2 ^ unused n ≡ 0) last zeros) (omega arith))

  pub repacked : packed s ≡ take (octets_for n) ys
  repacked =
      let size : length (packed s) ≡ octets_for n = length_packed s ∙ ap octets_for length_first_bits in
      ext_get_or 0 (packed s) (take (octets_for n) ys) (size ∙ sym (length-take-le (octets_for n) ys (omega arith)))
      (λ j h.
      let hj : j < octets_for n = omega arith in
      packed_at s j (omega (arith, length_packed s))
      ∙ packed_again (drop (8 * j) s) (get_or ys j 0) (fits j) (λ m hm. ⊎_elim (within_octet j m hm) (past_octet j m hj hm) (cases_lt (8 * j + m) n))
      ∙ sym (get_or-take (octets_for n) ys j 0 hj))
