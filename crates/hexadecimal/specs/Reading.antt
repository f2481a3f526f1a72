-- What a reader of digits has read. Assumes nothing.
use Rattle.std.specs.Prelude.{◌≡◌, ℕ, List, [], ◌∷◌, ◌++◌, Option, Some, None}
use Rattle.hexadecimal.specs.Text.{octets_written}
use Rattle.hexadecimal.specs.Kept.{kept}
use Rattle.hexadecimal.specs.declared.digit_reader.Progress.{Progress}
use Rattle.hexadecimal.specs.declared.digit_reader.Progress.TheVariants.{Whole, Half, Unreadable}
use Rattle.hexadecimal.specs.declared.digit_reader.DigitReader.{DigitReader}

-- these are the octets that a text writes, as far as they are kept
abbrev pub Writes : Option ℕ → List ℕ → List ℕ → Type 0
Writes most octets text = (all : List ℕ) × (octets_written text ≡ Some all) × (octets ≡ kept most all)

-- no text that begins so is whole octets, and what is kept are octets that a part at its front writes
pub record NothingMends (most : Option ℕ) (octets text : List ℕ) : Type 0 where
  pub unreadable : (further : List ℕ) → octets_written (text ++ further) ≡ None
  pub front : List ℕ
  pub behind : List ℕ
  pub is : text ≡ front ++ behind
  pub keeps : Writes most octets front

-- the text is whole octets; or such a text with a byte behind it; or nothing mends it
abbrev pub Reads : Progress → Option ℕ → List ℕ → List ℕ → Type 0
Reads Whole most octets text = Writes most octets text
Reads (Half byte) most octets text = (front : List ℕ) × (text ≡ front ++ byte ∷ []) × Writes most octets front
Reads Unreadable most octets text = NothingMends most octets text

-- this reader has read this text since it was made or cleared
abbrev pub HasRead : DigitReader → List ℕ → Type 0
HasRead reader text = Reads reader.progress reader.most reader.octets.items text

-- how many octets a reader keeps at most
abbrev pub most_kept : DigitReader → Option ℕ
most_kept reader = reader.most
