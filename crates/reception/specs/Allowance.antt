-- A CLTU as it is received, and when it is within the allowance. Bits are taken as numbers, the first bit the highest.
-- Assumes nothing.
use Rattle.std.specs.Prelude.{◌≡◌, ℕ, zero, suc, ◌+◌, ◌*◌, ◌≤◌, Bool, List, [], ◌∷◌, ◌++◌, length, take, drop}
use Rattle.std.specs.Int.Digits.{AllBelowBase, number_from_digits}
use Rattle.std.specs.List.{flat_map}
use Rattle.bch.specs.declared.Mode.{Mode}
use Rattle.bch.specs.declared.Mode.TheVariants.{Detecting, Correcting}
use Rattle.bch.specs.Bits.{bits_of}
use Rattle.bch.specs.Polynomial.{◌⊕◌, weight}
use Rattle.bch.specs.Codeblock.{codeblock, sent}
use Rattle.bch.specs.Reception.{wrong_bits}
use Rattle.randomizer.specs.declared.Randomizer.{Randomizer}
use Rattle.randomizer.specs.Sequence.{randomized}
use Rattle.cltu.specs.Cltu.{codeblocks_for, filled, start_sequence, tail_sequence, cltu}
use Rattle.reception.specs.Symbols.{bit_value}
use Rattle.reception.specs.Searching.{start_tolerance}
use Rattle.reception.specs.Decoding.{Settings}

-- the number that bits write behind a number
abbrev pub value_from : ℕ → List Bool → ℕ
value_from w [] = w
value_from w (b ∷ bs) = value_from (2 * w + bit_value b) bs

abbrev pub value : List Bool → ℕ
value bits = value_from 0 bits

-- sixteen symbols of the start sequence, 64 of each codeblock and 64 of the tail sequence
pub record ReceivedCltu : Type 0 where
  pub start : List Bool
  pub blocks : List (List Bool)
  pub tail : List Bool

abbrev pub symbols_of : ReceivedCltu → List Bool
symbols_of cltu = cltu.start ++ (flat_map (λ block. block) cltu.blocks ++ cltu.tail)

-- how many of the first 63 bits of a codeblock, and of the tail sequence, may be wrong; each 64th bit may be anything
abbrev pub block_tolerance : Mode → ℕ
block_tolerance Correcting = 1
block_tolerance Detecting = 0

abbrev pub tail_tolerance : Mode → ℕ
tail_tolerance Correcting = 1
tail_tolerance Detecting = 2

-- the codeblocks of these octets, seven each
abbrev pub BlocksWithin : Mode → List ℕ → List (List Bool) → Type 0
BlocksWithin mode octets [] = Unit {0}
BlocksWithin mode octets (block ∷ blocks) =
    (length block ≡ 64) × (wrong_bits (sent (take 7 octets)) (value block) ≤ block_tolerance mode)
    × BlocksWithin mode (drop 7 octets) blocks

-- how many of these bits are wrong, the 64th of each codeblock left out
abbrev pub wrong_in : List ℕ → List (List Bool) → ℕ
wrong_in octets [] = 0
wrong_in octets (block ∷ blocks) = wrong_bits (sent (take 7 octets)) (value block) + wrong_in (drop 7 octets) blocks

-- of the CLTU whose information is these octets
pub record WithinAllowance (settings : Settings) (octets : List ℕ) (cltu : ReceivedCltu) : Type 0 where
  pub start_long : length cltu.start ≡ 16
  pub start_right : weight 16 (value cltu.start ⊕ number_from_digits 256 start_sequence) ≤ start_tolerance settings.mode
  pub blocks_all : 7 * length cltu.blocks ≡ length octets
  pub blocks_some : 1 ≤ length cltu.blocks
  pub blocks_few : length cltu.blocks ≤ settings.limit
  pub blocks_right : BlocksWithin settings.mode octets cltu.blocks
  pub tail_long : length cltu.tail ≡ 64
  pub tail_right : wrong_bits (number_from_digits 256 tail_sequence) (value cltu.tail) ≤ tail_tolerance settings.mode

-- a CLTU as it was sent: its codeblocks are those of so many times seven octets
abbrev pub blocks_of : ℕ → List ℕ → List (List Bool)
blocks_of zero octets = []
blocks_of (suc count) octets = bits_of (codeblock (take 7 octets)) ∷ blocks_of count (drop 7 octets)

abbrev pub undamaged : Randomizer → List ℕ → ReceivedCltu
undamaged randomizer frame =
    record {
      start = bits_of start_sequence;
      blocks = blocks_of (codeblocks_for (length frame)) (randomized randomizer (filled frame));
      tail = bits_of tail_sequence;
    }

-- where the limit allows its codeblocks, what is received as it was sent is within the allowance
abbrev pub AsSentIsWithinTheAllowance : Settings → Randomizer → Type 0
AsSentIsWithinTheAllowance settings randomizer =
    (frame : List ℕ) → AllBelowBase 256 frame → 1 ≤ length frame → codeblocks_for (length frame) ≤ settings.limit →
    WithinAllowance settings (randomized randomizer (filled frame)) (undamaged randomizer frame)
    × (symbols_of (undamaged randomizer frame) ≡ bits_of (cltu randomizer frame))
    × (length (undamaged randomizer frame).blocks ≡ codeblocks_for (length frame))
