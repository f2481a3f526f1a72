-- What the code promises of an answer to a received word of 64 bits: over every information that may have been sent and
-- every place of the wrong bits, and of the filler. Assumes nothing.
use Rattle.std.specs.Prelude.{◌≡◌, ℕ, ◌/◌, ◌<◌, true, false, ◌≢◌, ◌⊎◌, List, is_some, Some, None, Option, nat_lt}
use Rattle.bch.specs.declared.Mode.{Mode}
use Rattle.bch.specs.declared.Mode.TheVariants.{Detecting, Correcting}
use Rattle.bch.specs.declared.Accepted.{Accepted}
use Rattle.bch.specs.Codeblock.{Information, sent}
use Rattle.bch.specs.Reception.{power_remainder, wrong_bits, accepted, rejected, verdict}

-- what a wrong place is: the power of X there, and no other below X^63, has the remainder n
abbrev pub IsTheWrongPlace : ℕ → Option ℕ → Type 0
IsTheWrongPlace n None = (d : ℕ) → d < 63 → power_remainder d ≢ n
IsTheWrongPlace n (Some d) = (d < 63) × (power_remainder d ≡ n) × ((e : ℕ) → e < 63 → power_remainder e ≡ n → e ≡ d)

-- it is absent just where the number is 0
abbrev pub AbsentOnlyAtZero : ℕ → Option ℕ → Type 0
AbsentOnlyAtZero n place = n < 64 → is_some place ≡ nat_lt 0 n

abbrev pub UndamagedIsAccepted : ℕ → Option Accepted → Type 0
UndamagedIsAccepted word answer =
    (information : List ℕ)
    → Information information
    → wrong_bits (sent information) word ≡ 0
    → answer ≡ accepted information false

abbrev pub OneWrongBitIsCorrected : Mode → ℕ → Option Accepted → Type 0
OneWrongBitIsCorrected mode word answer =
    (information : List ℕ)
    → Information information
    → mode ≡ Correcting
    → wrong_bits (sent information) word ≡ 1
    → answer ≡ accepted information true

abbrev pub TwoWrongBitsAreRejected : ℕ → Option Accepted → Type 0
TwoWrongBitsAreRejected word answer =
    (information : List ℕ)
    → Information information
    → wrong_bits (sent information) word ≡ 2
    → answer ≡ rejected

abbrev pub OneOrThreeWrongBitsAreDetected : Mode → ℕ → Option Accepted → Type 0
OneOrThreeWrongBitsAreDetected mode word answer =
    (information : List ℕ)
    → Information information
    → mode ≡ Detecting
    → (wrong_bits (sent information) word ≡ 1) ⊎ (wrong_bits (sent information) word ≡ 3)
    → answer ≡ rejected

-- the first 63 bits of two words are the same, so that they differ in the filler alone or not at all
abbrev pub SameButForTheFiller : ℕ → ℕ → Type 0
SameButForTheFiller word other = word / 2 ≡ other / 2

-- every word that differs from it in the filler alone has the same verdict
abbrev pub TheFillerDecidesNothing : Mode → ℕ → Option Accepted → Type 0
TheFillerDecidesNothing mode word answer = (other : ℕ) → SameButForTheFiller word other → answer ≡ verdict mode other
