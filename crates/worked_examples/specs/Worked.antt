-- Worked examples of the definitions, to be checked against the standard by eye. Assumes nothing.
use Rattle.std.specs.Prelude.{◌≡◌, ℕ, Bool, true, false, List, [], ◌∷◌, ◌++◌, length, replicate, Some, None}
use Rattle.std.specs.Int.Digits.{number_from_digits}
use Rattle.bch.specs.declared.Mode.{Mode}
use Rattle.bch.specs.declared.Mode.TheVariants.{Detecting, Correcting}
use Rattle.bch.specs.Codeblock.{codeblock}
use Rattle.bch.specs.Reception.{accepted, rejected, syndrome, wrong_place, verdict}
use Rattle.randomizer.specs.declared.Randomizer.{Randomizer}
use Rattle.randomizer.specs.Sequence.{sequence_octet}
use Rattle.reception.specs.Searching.{is_start}
use Rattle.reception.specs.Decoding.{settings}
use Rattle.reception.specs.Rules.{Phase, SEARCH, DECODE, INACTIVE, Event, carrier_up, symbol, made}
use Rattle.reception.specs.Runs.{after_events, idle}
use Rattle.cltu.specs.Cltu.{tail_sequence, cltu}

-- the codeblock of this information ends with this octet
abbrev pub Ends : List ℕ → ℕ → Type 0
Ends information last = codeblock information ≡ information ++ last ∷ []

-- the first five octets of the randomizer's sequence
abbrev pub first_octets : List ℕ
first_octets = sequence_octet 0 ∷ sequence_octet 1 ∷ sequence_octet 2 ∷ sequence_octet 3 ∷ sequence_octet 4 ∷ []

-- idle is alternating bits: 64 of them from a zero on, and from a one on
abbrev pub idle_from_zero : ℕ
idle_from_zero = 0x5555_5555_5555_5555

abbrev pub idle_from_one : ℕ
idle_from_one = 0xAAAA_AAAA_AAAA_AAAA

-- the octets of the CLTU of every frame of so many octets
abbrev pub CltuOctets : (frame octets : ℕ) → Type 0
CltuOctets n octets = (r : Randomizer) (frame : List ℕ) → length frame ≡ n → length (cltu r frame) ≡ octets

abbrev pub InDecode : Phase → Type 0
InDecode INACTIVE = ⊥
InDecode (SEARCH count window) = ⊥
InDecode (DECODE r) = Unit {0}

-- what a receiver's settings make of a full window
abbrev pub starts : Mode → ℕ → Bool
starts mode window = is_start mode 16 window

-- bits before the idle after which recovery takes longest in correcting mode: all of a start sequence but its last
-- three bits
abbrev pub before_idle : List Bool
before_idle =
    true ∷ true ∷ true ∷ false ∷ true ∷ false ∷ true ∷ true ∷ true ∷ false ∷ false ∷ true ∷ false ∷ []

abbrev pub symbols : List Bool → List Event
symbols [] = []
symbols (b ∷ bs) = symbol b ∷ symbols bs

-- the state after these and so many idle bits from a zero on, correcting, with a limit of 1 and an empty hold of one
-- codeblock
abbrev pub after_idle : ℕ → Phase
after_idle bits =
    let empty = made (record { capacity = 1; finished = []; opened = None }) in
    let events = carrier_up ∷ symbols (before_idle ++ idle false bits) in
    (after_events (settings Correcting 1) (λ place x. x) empty events).phase

pub record WorkedExamples : Type 0 where
  pub zeros : Ends (replicate 7 0) 0xFE
  pub tail_octets : Ends (replicate 7 0xC5) 0xFE
  pub one : Ends (replicate 6 0 ++ 1 ∷ []) 0x74
  pub fill_octets : Ends (replicate 7 0x55) 0xD6
  pub randomizer : first_octets ≡ 0xFF ∷ 0x39 ∷ 0x9E ∷ 0x5A ∷ 0x68 ∷ []
  pub tail_syndrome : syndrome (number_from_digits 256 tail_sequence) ≡ (1, 0)
  pub tail_rejected : (mode : Mode) → verdict mode (number_from_digits 256 tail_sequence) ≡ rejected
  pub idle_from_zero_syndrome : syndrome idle_from_zero ≡ (0, 2)
  pub idle_from_zero_rejected : (mode : Mode) → verdict mode idle_from_zero ≡ rejected
  pub idle_from_one_syndrome : syndrome idle_from_one ≡ (1, 2)
  pub idle_from_one_place : wrong_place 2 ≡ Some 1
  pub idle_from_one_detected : verdict Detecting idle_from_one ≡ rejected
  pub idle_from_one_corrected : verdict Correcting idle_from_one ≡ accepted (replicate 7 0xAA) true
  pub cltu_of_1 : CltuOctets 1 18
  pub cltu_of_7 : CltuOctets 7 18
  pub cltu_of_8 : CltuOctets 8 26
  pub cltu_of_1024 : CltuOctets 1024 1186
  pub tail_with_two_wrong_bits : verdict Correcting 0xC5C5_C5C5_C5C5_C57F ≡ accepted (replicate 7 0xC5) true
  pub tail_with_three_wrong_bits : verdict Detecting 0xC5C5_C5C5_C5C5_C5FF ≡ accepted (replicate 7 0xC5) false
  pub start_undamaged : (mode : Mode) → starts mode 0xEB90 ≡ true
  pub start_with_a_wrong_bit : starts Correcting 0xEB91 ≡ true
  pub start_with_a_wrong_bit_detected : starts Detecting 0xEB91 ≡ false
  pub start_with_two_wrong_bits : (mode : Mode) → starts mode 0xEB93 ≡ false
  pub still_decoding_at_idle_bit_130 : InDecode (after_idle 130)
  pub back_at_idle_bit_131 : after_idle 131 ≡ SEARCH 0 0
