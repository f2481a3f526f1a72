-- A CLTU that is received as it was sent is within the allowance. Assumes nothing.
use Rattle.std.proofs.Common.{◌≡◌, ℕ, zero, suc, ◌+◌, ◌*◌, ◌/◌, ◌%◌, ◌^◌, ◌<◌, ◌≤◌, Bool, eqb, ◌⊎◌, List, [], ◌∷◌, ◌++◌, length, take, drop, sym, refl, ap, ◌∙◌, inl, inr, append_assoc, append-nil, arith}
use lib.Bits.{xor_self}
use Rattle.std.specs.Int.Digits.{AllBelowBase, number_from_digits, number_from_digits_after}
use Rattle.std.specs.List.{flat_map}
use Rattle.std.proofs.ByRecursion.{All-take, All-drop}
use Rattle.std.proofs.lemmas.List.{length-append, length-take-le, length-drop}
use Rattle.bch.specs.declared.Mode.{Mode}
use Rattle.bch.specs.Polynomial.{◌⊕◌, weight}
use Rattle.bch.specs.Codeblock.{check_bits, codeblock, sent}
use Rattle.bch.specs.Reception.{wrong_bits}
use Rattle.bch.proofs.Sums.{bit}
use Rattle.bch.proofs.Syndromes.{information_below, check_bits_below}
use Rattle.bch.proofs.Weights.{weight_zero}
use Rattle.randomizer.specs.declared.Randomizer.{Randomizer}
use Rattle.randomizer.specs.Sequence.{randomized}
use Rattle.randomizer.proofs.Laws.{octets_stay_octets}
use Rattle.cltu.specs.Cltu.{codeblocks_for, filled, coded, start_sequence, tail_sequence, cltu}
use Rattle.cltu.proofs.Places.{length_sent}
use Rattle.hold.specs.Candidates.{Showing}
use Rattle.reception.specs.Symbols.{bit_value}
use Rattle.reception.specs.Decoding.{Settings}
use Rattle.reception.specs.Rules.{made}
use Rattle.reception.specs.Runs.{after_events}
use Rattle.bch.specs.Bits.{bit_at, octet_bits, bits_of}
use Rattle.reception.specs.Allowance.{value_from, value, block_tolerance, BlocksWithin, WithinAllowance, blocks_of, undamaged, symbols_of, AsSentIsWithinTheAllowance}
use Rattle.reception.specs.Finished.{new_candidates}
use Rattle.reception.specs.Sent.{UndamagedComesBack, Transmission, WellSent}
use Rattle.reception.proofs.Sent.{under_filled, what_is_sent_then_is_received}

bit_is : (m : ℕ) → (m ≡ 0) ⊎ (m ≡ 1) → bit_value (eqb m 1) ≡ m
bit_is m (inl e) = rw e refl
bit_is m (inr e) = rw e refl

value_octet : (w x : ℕ) (rest : List Bool) → x < 256 → value_from w (octet_bits x ++ rest) ≡ value_from (w * 256 + x) rest
value_octet w x rest h =
    let b = λ (d : ℕ). bit_is (x / 2 ^ d % 2) (bit (x / 2 ^ d)) in
    let all : 2 * (2 * (2 * (2 * (2 * (2 * (2 * (2 * w + bit_value (bit_at 7 x)) + bit_value (bit_at 6 x)) + bit_value (bit_at 5 x)) + bit_value (bit_at 4 x)) + bit_value (bit_at 3 x)) + bit_value (bit_at 2 x)) + bit_value (bit_at 1 x)) + bit_value (bit_at 0 x) ≡ w * 256 + x =
    omega (arith, b 7, b 6, b 5, b 4, b 3, b 2, b 1, b 0) in
    ap (λ n. value_from n rest) all

value_of : (xs : List ℕ) (w : ℕ) → AllBelowBase 256 xs → value_from w (bits_of xs) ≡ number_from_digits_after 256 w xs
value_of [] w h = refl
value_of (x ∷ xs) w h = value_octet w x (bits_of xs) h.0 ∙ value_of xs (w * 256 + x) h.1

pub bits_append : (xs ys : List ℕ) → bits_of (xs ++ ys) ≡ bits_of xs ++ bits_of ys
bits_append [] ys = refl
bits_append (x ∷ xs) ys = ap (λ l. octet_bits x ++ l) (bits_append xs ys) ∙ sym (append_assoc (octet_bits x) (bits_of xs) (bits_of ys))

length_bits : (xs : List ℕ) → length (bits_of xs) ≡ 8 * length xs
length_bits [] = refl
length_bits (x ∷ xs) = omega (arith, length_bits xs, length-append (octet_bits x) (bits_of xs))

joined_blocks : (n : ℕ) (octets : List ℕ) → flat_map (λ block. block) (blocks_of n octets) ≡ bits_of (coded n octets)
joined_blocks zero octets = refl
joined_blocks (suc n) octets = ap (λ l. bits_of (codeblock (take 7 octets)) ++ l) (joined_blocks n (drop 7 octets)) ∙ sym (bits_append (codeblock (take 7 octets)) (coded n (drop 7 octets)))

pub length_blocks : (n : ℕ) (octets : List ℕ) → length (blocks_of n octets) ≡ n
length_blocks zero octets = refl
length_blocks (suc n) octets = ap suc (length_blocks n (drop 7 octets))

under_more : (xs : List ℕ) (y : ℕ) → AllBelowBase 256 xs → y < 256 → AllBelowBase 256 (xs ++ y ∷ [])
under_more [] y h lt = (lt, tt)
under_more (x ∷ xs) y h lt = (h.0, under_more xs y h.1 lt)

nothing_wrong : (word : ℕ) → wrong_bits word word ≡ 0
nothing_wrong word = ap (λ x. weight 63 (x / 2)) (xor_self word) ∙ weight_zero 63

block_undamaged : (mode : Mode) (information : List ℕ) → length information ≡ 7 → AllBelowBase 256 information →
    (length (bits_of (codeblock information)) ≡ 64) × (wrong_bits (sent information) (value (bits_of (codeblock information))) ≤ block_tolerance mode)
block_undamaged mode information seven octets =
    let i = number_from_digits 256 information in
    let check = check_bits_below i (information_below information (seven, octets)) in
    let whole = value_of (codeblock information) 0 (under_more information (2 * check_bits i) octets (omega arith)) in (
      omega (arith, length_bits (codeblock information), length-append information (2 * check_bits i ∷ [])),
      omega (arith, ap (wrong_bits (sent information)) whole, nothing_wrong (sent information)),
    )

blocks_undamaged : (mode : Mode) (n : ℕ) (octets : List ℕ) → AllBelowBase 256 octets → 7 * n ≡ length octets → BlocksWithin mode octets (blocks_of n octets)
blocks_undamaged mode zero octets h e = tt
blocks_undamaged mode (suc n) octets h e =
    let one = block_undamaged mode (take 7 octets) (length-take-le 7 octets (omega arith)) (All-take (λ x. x < 256) 7 octets h) in
    (one.0, one.1, blocks_undamaged mode n (drop 7 octets) (All-drop (λ x. x < 256) 7 octets h) (omega (arith, length-drop 7 octets)))

start_undamaged : weight 16 (value (bits_of start_sequence) ⊕ number_from_digits 256 start_sequence) ≡ 0
unfolding weight
start_undamaged = refl

tail_undamaged : wrong_bits (number_from_digits 256 tail_sequence) (value (bits_of tail_sequence)) ≡ 0
unfolding weight
tail_undamaged = refl

pub symbols_undamaged : (randomizer : Randomizer) (frame : List ℕ) → bits_of (cltu randomizer frame) ≡ symbols_of (undamaged randomizer frame)
symbols_undamaged randomizer frame =
    let blocks = coded (codeblocks_for (length frame)) (randomized randomizer (filled frame)) in
    bits_append start_sequence (blocks ++ tail_sequence) ∙ ap (λ l. bits_of start_sequence ++ l) (bits_append blocks tail_sequence ∙ ap (λ l. l ++ bits_of tail_sequence) (sym (joined_blocks (codeblocks_for (length frame)) (randomized randomizer (filled frame)))))

module _ (settings : Settings) (randomizer : Randomizer) where
  within_undamaged : (frame : List ℕ) → AllBelowBase 256 frame → 1 ≤ length frame → codeblocks_for (length frame) ≤ settings.limit → WithinAllowance settings (randomized randomizer (filled frame)) (undamaged randomizer frame)
  within_undamaged frame octets some few =
      let n = codeblocks_for (length frame) in
      let sent_octets = randomized randomizer (filled frame) in
      let count = length_blocks n sent_octets in
      record {
        start_long = refl;
        start_right = omega (arith, start_undamaged);
        blocks_all = omega (arith, count, length_sent randomizer frame);
        blocks_some = omega (arith, count);
        blocks_few = omega (arith, count);
        blocks_right = blocks_undamaged settings.mode n sent_octets (octets_stay_octets randomizer 0 (filled frame) (under_filled frame octets)) (sym (length_sent randomizer frame));
        tail_long = refl;
        tail_right = omega (arith, tail_undamaged);
      }

  pub as_sent_is_within_the_allowance : AsSentIsWithinTheAllowance settings randomizer
  as_sent_is_within_the_allowance frame octets some few = (
    within_undamaged frame octets some few,
    sym (symbols_undamaged randomizer frame),
    length_blocks (codeblocks_for (length frame)) (randomized randomizer (filled frame)),
  )

module _ (settings : Settings) (showing : Showing) (randomizer : Randomizer) where
  pub undamaged_comes_back : UndamagedComesBack settings showing randomizer
  undamaged_comes_back hold earlier later frame clear octets some few space up symbols matches =
      let then = after_events settings showing (made hold) earlier in
      let sent = as_sent_is_within_the_allowance settings randomizer frame octets some few in
      let t : Transmission = record { gap = []; frame = frame; received = undamaged randomizer frame; events = later } in
      let well : WellSent settings showing randomizer then t = record { octets = octets; carrier = up; symbols = symbols ∙ sym sent.1; within = sent.0; space = omega (arith, sent.2) } in
      let all = what_is_sent_then_is_received settings showing randomizer hold earlier (t ∷ []) clear (refl, well, tt) in
      ap (new_candidates settings showing then) (sym (append-nil later)) ∙ all.2 matches
