-- What shows through the layer. Assumes nothing.
use Rattle.std.proofs.Common.{◌≡◌, ℕ, zero, suc, ◌+◌, ◌*◌, ◌/◌, ◌<◌, take, drop, set, get_or, add-zero, cond, eqb, List, [], ◌∷◌, ◌++◌, length, Some, None, Option, sym, refl, ap, ap₂, ◌%◌, ◌∙◌, arith}
use lib.Bits.{bit_xor, xor_zero_r}
use Rattle.randomizer.specs.declared.Randomizer.TheVariants.{On, Off}
use Rattle.randomizer.specs.Sequence.{sequence_octet, randomized_from}
use Rattle.randomizer.proofs.Period.{sequence_octet_repeats}
use Rattle.hold.specs.Candidates.{Candidate, Showing, Matches, shown_from, free_space, open_codeblocks, OpenWhole, after_add}
use Rattle.derandomizing.specs.Derandomized.{derandomized}
use Rattle.derandomizing.specs.Apart.{twice}

module _ (below : Showing) where
  -- over a hold that matches a sender with the randomizer off, the layer matches one with it on
  pub matches_over : Matches below Off → Matches (derandomized below) On
  matches_over off place x h = ap (below place) (twice x (sequence_octet place) ∙ sym (xor_zero_r x)) ∙ off place x h

  shown_derandomized : (place : ℕ) (xs : List ℕ) → shown_from below place (randomized_from On place xs) ≡ shown_from (derandomized below) place xs
  shown_derandomized place [] = refl
  shown_derandomized place (x ∷ xs) = ap (λ l. below place (bit_xor x (sequence_octet place)) ∷ l) (shown_derandomized (suc place) xs)

  -- adding the derandomized octets below is adding the octets to the layer
  added_below : (capacity : ℕ) (finished : List Candidate) (opened : Option Candidate) (octets : List ℕ) → OpenWhole opened →
      after_add below capacity finished opened (randomized_from On (7 * open_codeblocks opened) octets) ≡ after_add (derandomized below) capacity finished opened octets
  added_below capacity finished None octets whole = refl
  added_below capacity finished (Some candidate) octets whole =
      let place : 7 * (length candidate / 7) ≡ length candidate = omega arith in
      ap (λ l. cond (eqb (free_space capacity finished (Some candidate)) 0) (Some candidate) (Some (candidate ++ l)))
      (ap (λ n. shown_from below (length candidate) (randomized_from On n octets)) place ∙ shown_derandomized (length candidate) octets)

  -- places as far within the sequence's period have the same octets added
  same_in_period : (p q : ℕ) (xs : List ℕ) → p % 255 ≡ q % 255 → randomized_from On p xs ≡ randomized_from On q xs
  same_in_period p q [] e = refl
  same_in_period p q (x ∷ xs) e =
      let same : sequence_octet p ≡ sequence_octet q =
      sym (sequence_octet_repeats p) ∙ ap sequence_octet e ∙ sequence_octet_repeats q
      in
      ap₂ ◌∷◌ (ap (bit_xor x) same) (same_in_period (suc p) (suc q) xs (omega arith))

  -- and so it is where the place is taken within the period
  pub added_over : (capacity : ℕ) (finished : List Candidate) (opened after : Option Candidate) →
      (octets under : List ℕ) (codeblocks : ℕ) →
      after ≡ after_add below capacity finished opened under →
      under ≡ randomized_from On (7 * (codeblocks % 255)) octets →
      codeblocks ≡ open_codeblocks opened → OpenWhole opened →
      after ≡ after_add (derandomized below) capacity finished opened octets
  added_over capacity finished opened after octets under codeblocks e added at whole =
      let on : under ≡ randomized_from On (7 * codeblocks) octets =
      added ∙ same_in_period (7 * (codeblocks % 255)) (7 * codeblocks) octets (omega arith)
      in
      let there : under ≡ randomized_from On (7 * open_codeblocks opened) octets =
      on ∙ ap (λ n. randomized_from On (7 * n) octets) at
      in
      e ∙ ap (after_add below capacity finished opened) there ∙ added_below capacity finished opened octets whole

-- with the sequence added to one octet more
pub randomized_more : (place i : ℕ) (octets : List ℕ) → i < length octets →
    let so_far = randomized_from On place (take i octets) ++ drop i octets in
    set so_far i (bit_xor (get_or so_far i 0) (sequence_octet (place + i))) ≡ randomized_from On place (take (i + 1) octets) ++ drop (i + 1) octets
randomized_more place i [] h = absurd (omega arith)
randomized_more place zero (x ∷ xs) h = ap (λ n. bit_xor x (sequence_octet n) ∷ xs) (add-zero place)
randomized_more place (suc i) (x ∷ xs) h =
    let on : place + suc i ≡ suc place + i = omega arith in
    let past : suc (i + 1) ≡ suc i + 1 = omega arith in
    let so_far = randomized_from On (suc place) (take i xs) ++ drop i xs in
    ap (λ l. bit_xor x (sequence_octet place) ∷ l) (ap (λ n. set so_far i (bit_xor (get_or so_far i 0) (sequence_octet n))) on ∙ randomized_more (suc place) i xs (omega arith))
    ∙ ap (λ n. randomized_from On place (take n (x ∷ xs)) ++ drop n (x ∷ xs)) past
