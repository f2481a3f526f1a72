-- Laws of the plain showing. Assumes nothing.
use Rattle.std.proofs.Common.{◌≡◌, ℕ, suc, List, [], ◌∷◌, refl, ap}
use lib.Bits.{xor_zero_r}
use Rattle.randomizer.specs.declared.Randomizer.TheVariants.{Off}
use Rattle.hold.specs.Candidates.{Matches, shown_from}
use Rattle.hold.specs.Plain.{plain_showing}

-- it matches a sender that does not randomize
pub plain_matches : Matches plain_showing Off
plain_matches place x h = xor_zero_r x

-- and alters no octet
pub shown_plain : (place : ℕ) (xs : List ℕ) → shown_from plain_showing place xs ≡ xs
shown_plain place [] = refl
shown_plain place (x ∷ xs) = ap (λ l. x ∷ l) (shown_plain (suc place) xs)
