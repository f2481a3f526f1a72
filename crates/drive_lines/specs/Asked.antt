-- What a line asks for. Assumes nothing.
use Rattle.std.specs.Prelude.{ℕ, Bool, true, false, cond, ◌==◌, List, [], ◌∷◌, map, Option, Some, None, ℤ, codes, nat_eq}
use Rattle.std.specs.Cmp.Lexicographic.{pointwise}
use Rattle.std.specs.Option.{option_map}
use Rattle.std.specs.Result.{result_ok}
use Rattle.hex.specs.Hex.{decode_of}
use Rattle.bch.specs.Bits.{bits_of}
use Rattle.reception.specs.Runs.{idle}
use Rattle.searching.specs.Levels.{is_negative}
use Rattle.drive_lines.specs.declared.call.Call.{Call}
use Rattle.drive_lines.specs.declared.call.Call.TheVariants.{Up, Down, Release, Bits, Levels, Oldest, State}
use Rattle.drive_lines.specs.declared.line.Line.{Line}
use Rattle.drive_lines.specs.declared.line.Line.TheVariants.{PassedOver, Call as IsCall, Unreadable}
use Rattle.drive_lines.specs.Words.{words, strip_return, number, bit, bits, levels}

-- what may be asked of a receiver: three events, symbols, and two questions
pub data Asked : Type 0 where
  ask_up : Asked
  ask_down : Asked
  ask_release : Asked
  ask_symbols : List Bool → Asked
  ask_oldest : Asked
  ask_state : Asked

-- what a line is
pub data Reading : Type 0 where
  passed_over : Reading
  asks : Asked → Reading
  unreadable : Reading

abbrev pub is : (name word : List ℕ) → Bool
is name word = pointwise nat_eq word name

-- a word alone
abbrev pub asked_by_name : List ℕ → Option Asked
asked_by_name name =
    cond (is (codes "up") name) (Some ask_up)
    (cond (is (codes "down") name) (Some ask_down)
    (cond (is (codes "release") name) (Some ask_release)
    (cond (is (codes "oldest") name) (Some ask_oldest)
    (cond (is (codes "state") name) (Some ask_state)
    None))))

-- symbols as bits, as octets, the first bit of each its most significant, or as levels, of which the negative are ones
abbrev pub asked_by_symbols : (name written : List ℕ) → Option Asked
asked_by_symbols name written =
    cond (is (codes "bits") name) (option_map ask_symbols (bits written))
    (cond (is (codes "octets") name) (option_map (λ octets. ask_symbols (bits_of octets)) (result_ok (decode_of written)))
    (cond (is (codes "levels") name) (option_map (λ levels. ask_symbols (map is_negative levels)) (levels written))
    None))

-- a bit in one digit
abbrev pub first_bit : List ℕ → Option Bool
first_bit [] = None
first_bit (x ∷ []) = bit x
first_bit (x ∷ y ∷ further) = None

-- idle: its first bit, and how many bits
abbrev pub idle_bits : Option Bool → Option ℕ → Option (List Bool)
idle_bits None count = None
idle_bits (Some first) None = None
idle_bits (Some first) (Some count) = Some (idle first count)

abbrev pub asked_by_idle : (name first count : List ℕ) → Option Asked
asked_by_idle name first count =
    cond (is (codes "idle") name) (option_map ask_symbols (idle_bits (first_bit first) (number 1_000_000 count))) None

abbrev pub asked_by : List (List ℕ) → Option Asked
asked_by [] = None
asked_by (name ∷ []) = asked_by_name name
asked_by (name ∷ written ∷ []) = asked_by_symbols name written
asked_by (name ∷ first ∷ count ∷ []) = asked_by_idle name first count
asked_by (name ∷ first ∷ count ∷ more ∷ words) = None

abbrev pub or_unreadable : Option Asked → Reading
or_unreadable None = unreadable
or_unreadable (Some asked) = asks asked

abbrev pub reading_of_words : List (List ℕ) → Reading
reading_of_words [] = passed_over
reading_of_words (name ∷ further) = or_unreadable (asked_by (name ∷ further))

-- a line that begins with # is a comment
abbrev pub begins_comment : List ℕ → Bool
begins_comment [] = false
begins_comment (x ∷ further) = x == 35

abbrev pub reading_of : List ℕ → Reading
reading_of line = cond (begins_comment line) passed_over (reading_of_words (words line))

-- what a line is, with or without a carriage return at its end
abbrev pub reading : List ℕ → Reading
reading line = reading_of (strip_return line)

-- what a call asks, and what a line is
abbrev pub asked : Call → Asked
asked Up = ask_up
asked Down = ask_down
asked Release = ask_release
asked (Bits bits) = ask_symbols bits.items
asked (Levels levels) = ask_symbols (map is_negative levels.items)
asked Oldest = ask_oldest
asked State = ask_state

abbrev pub meant : Line → Reading
meant PassedOver = passed_over
meant (IsCall call) = asks (asked call)
meant Unreadable = unreadable
