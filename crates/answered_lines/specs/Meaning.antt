-- What octets are answered by. Assumes nothing.
use Rattle.std.specs.Prelude.{◌≡◌, ℕ, List, Option}
use Rattle.hexadecimal.specs.Kept.{kept}

-- the text that octets are answered by, how many of what the program counts are in it, and of how many octets notice is
-- taken, or of all
pub record Meaning : Type 0 where
  pub text : List ℕ → List ℕ
  pub count : List ℕ → ℕ
  pub most : Option ℕ

-- octets behind those make no difference
pub record FurtherOctetsChangeNothing (meaning : Meaning) : Type 0 where
  pub text : (octets : List ℕ) → meaning.text (kept meaning.most octets) ≡ meaning.text octets
  pub count : (octets : List ℕ) → meaning.count (kept meaning.most octets) ≡ meaning.count octets
