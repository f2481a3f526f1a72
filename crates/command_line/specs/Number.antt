-- Numbers in arguments. Assumes nothing.
use Rattle.std.specs.Prelude.{◌≡◌, ◌≤◌, ℕ, List}
use Rattle.std.specs.Str.Parse.{IsNumeral, digits_value, without_leading_plus}

-- the text is this number in decimal digits, before which a plus may stand
abbrev pub Writes : List ℕ → ℕ → Type 0
Writes text number = IsNumeral 10 (without_leading_plus text)
    × (digits_value 10 (without_leading_plus text) ≡ number)

-- the text is this number, and the number is from least to most
abbrev pub WritesWithin : (least most : ℕ) → List ℕ → ℕ → Type 0
WritesWithin least most text number = Writes text number × (least ≤ number) × (number ≤ most)
