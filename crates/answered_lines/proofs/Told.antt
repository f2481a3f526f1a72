-- The answer of what is kept of a line. Assumes nothing.
use Rattle.std.proofs.Common.{◌≡◌, ℕ, List, Option, Some, None, refl, ap, ◌∙◌}
use Rattle.std.specs.Option.{option_map}
use Rattle.hexadecimal.specs.Kept.{kept}
use Rattle.answered_lines.specs.Meaning.{Meaning, FurtherOctetsChangeNothing}
use Rattle.answered_lines.specs.Printed.{text_of, count_of}

-- what is kept is answered as all octets are
pub kept_is_told : (meaning : Meaning) → FurtherOctetsChangeNothing meaning → (written : Option (List ℕ)) (octets : List ℕ) → Some octets ≡ option_map (kept meaning.most) written
    → (meaning.text octets ≡ text_of meaning written) × (meaning.count octets ≡ count_of meaning written)
kept_is_told meaning law None octets is = cc
kept_is_told meaning law (Some all) octets is = let same : octets ≡ kept meaning.most all = cc in (ap meaning.text same ∙ law.text all, ap meaning.count same ∙ law.count all)

pub nothing_is_kept : (most : Option ℕ) (written : Option (List ℕ)) → None ≡ option_map (kept most) written → written ≡ None
nothing_is_kept most None is = refl
nothing_is_kept most (Some all) is = cc
