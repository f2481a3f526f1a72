-- What the octets of a header tell. Assumes nothing.
use Rattle.std.proofs.Common.{◌≡◌, ℕ, ◌+◌, ◌*◌, ◌/◌, ◌%◌, ◌<◌, ◌≤◌, List, [], ◌∷◌, length, get_or, None, arith}
use Rattle.std.proofs.lemmas.Bool.Decides.{nat_tests}
use Rattle.cutting.specs.Cutting.{version, length_by_header, frame_octets}

pub version_read : (left : List ℕ) → ((k : ℕ) → get_or left k 0 < 256) → 5 ≤ length left → version left ≡ get_or left 0 0 / 64
version_read (a ∷ b ∷ c ∷ d ∷ e ∷ rest) fits long =
    let fa : a < 256 = fits 0 in
    let fb : b < 256 = fits 1 in
    let fc : c < 256 = fits 2 in
    let fd : d < 256 = fits 3 in
    let fe : e < 256 = fits 4 in
    omega arith
version_read [] fits long = absurd (omega arith)
version_read (a ∷ []) fits long = absurd (omega arith)
version_read (a ∷ b ∷ []) fits long = absurd (omega arith)
version_read (a ∷ b ∷ c ∷ []) fits long = absurd (omega arith)
version_read (a ∷ b ∷ c ∷ d ∷ []) fits long = absurd (omega arith)

pub told_read : (left : List ℕ) → ((k : ℕ) → get_or left k 0 < 256) → 5 ≤ length left → length_by_header left ≡ 256 * (get_or left 2 0 % 4) + get_or left 3 0 + 1
told_read (a ∷ b ∷ c ∷ d ∷ e ∷ rest) fits long =
    let fa : a < 256 = fits 0 in
    let fb : b < 256 = fits 1 in
    let fc : c < 256 = fits 2 in
    let fd : d < 256 = fits 3 in
    let fe : e < 256 = fits 4 in
    omega arith
told_read [] fits long = absurd (omega arith)
told_read (a ∷ []) fits long = absurd (omega arith)
told_read (a ∷ b ∷ []) fits long = absurd (omega arith)
told_read (a ∷ b ∷ c ∷ []) fits long = absurd (omega arith)
told_read (a ∷ b ∷ c ∷ d ∷ []) fits long = absurd (omega arith)

pub none_read : (left : List ℕ) → length left < 5 → frame_octets left ≡ None
none_read left short = grind (arith, nat_tests)

-- what the reading of a header cites
pub ruleset header_read = (version_read, told_read, none_read)
