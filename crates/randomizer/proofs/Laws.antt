-- Octets with the sequence added: how many, which at each place, what adding it again gives, and that each is below 256. Assumes nothing.
use Rattle.std.proofs.Common.{◌≡◌, ℕ, zero, suc, ◌+◌, ◌-◌, ◌<◌, List, [], ◌∷◌, length, get_or, refl, ap, ap₂, ⊎_elim, le_of_suc-le-suc, not-suc-le-zero, add-zero, add-suc, mod-lt, suc-add, arith, lit<}
use lib.Bits.{bit_xor, xor_assoc, xor_self, xor_zero_r, xor_lt}
use Rattle.std.specs.List.{AllByRecursion}
use Rattle.std.proofs.lemmas.Bool.{cases_lt}
use Rattle.randomizer.specs.declared.Randomizer.{Randomizer}
use Rattle.randomizer.specs.declared.Randomizer.TheVariants.{On, Off}
use Rattle.randomizer.specs.Sequence.{sequence_bit, sequence_octet, added_at, randomized_from}
use Rattle.randomizer.proofs.Rule.{sequence_follows_the_rule}

pub length_randomized_from : (r : Randomizer) (p : ℕ) (xs : List ℕ) → length (randomized_from r p xs) ≡ length xs
length_randomized_from r p [] = refl
length_randomized_from r p (x ∷ xs) = ap suc (length_randomized_from r (suc p) xs)

pub get_or_randomized_from : (r : Randomizer) (p : ℕ) (xs : List ℕ) (k : ℕ) → k < length xs →
    get_or (randomized_from r p xs) k 0 ≡ bit_xor (get_or xs k 0) (added_at r (p + k))
get_or_randomized_from r p [] k within = absurd (not-suc-le-zero within)
get_or_randomized_from r p (x ∷ xs) zero within = rw add-zero
get_or_randomized_from r p (x ∷ xs) (suc k) within =
    rw (add-suc, ← suc-add) (get_or_randomized_from r (suc p) xs k (le_of_suc-le-suc within))

pub randomizing_twice_gives_back : (r : Randomizer) (p : ℕ) (xs : List ℕ) → randomized_from r p (randomized_from r p xs) ≡ xs
randomizing_twice_gives_back r p [] = refl
randomizing_twice_gives_back r p (x ∷ xs) =
    ap₂ ◌∷◌ (rw (xor_assoc, xor_self, xor_zero_r)) (randomizing_twice_gives_back r (suc p) xs)

pub randomized_off : (p : ℕ) (xs : List ℕ) → randomized_from Off p xs ≡ xs
randomized_off p [] = refl
randomized_off p (x ∷ xs) = ap₂ ◌∷◌ (xor_zero_r x) (randomized_off (suc p) xs)

sequence_bit_lt : (n : ℕ) → sequence_bit n < 2
sequence_bit_lt n =
    ⊎_elim
    (λ early. rw (sequence_follows_the_rule.begins n early) (lit< tt))
    (λ late.
    let n_is : n - 8 + 8 ≡ n = omega arith in
    rw (← n_is, sequence_follows_the_rule.goes_on (n - 8)) (mod-lt _ (lit< tt)))
    (cases_lt n 8)

pub sequence_octet_lt : (place : ℕ) → sequence_octet place < 256
sequence_octet_lt place = omega (arith, sequence_bit_lt)

pub added_at_lt : (r : Randomizer) (place : ℕ) → added_at r place < 256
added_at_lt On place = sequence_octet_lt place
added_at_lt Off place = lit< tt

pub octets_stay_octets : (r : Randomizer) (p : ℕ) (xs : List ℕ) → AllByRecursion (λ x. x < 256) xs → AllByRecursion (λ x. x < 256) (randomized_from r p xs)
octets_stay_octets r p [] octets = tt
octets_stay_octets r p (x ∷ xs) (octet, octets) = (xor_lt 8 x (added_at r p) octet (added_at_lt r p), octets_stay_octets r (suc p) xs octets)
