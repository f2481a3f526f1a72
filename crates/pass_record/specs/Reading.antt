-- What octets tell at the places where a pass record has its numbers, and what makes these right. Assumes nothing.
use Rattle.std.specs.Prelude.{◌≡◌, ℕ, ◌+◌, ◌-◌, ◌*◌, ◌%◌, ◌^◌, ◌<◌, ◌≤◌, Bool, List, map, length, take, drop, slice_index, slice_index_or}
use Rattle.std.specs.List.{range_with_len}
use Rattle.bch.specs.Bits.{bits_of}
use Rattle.pass_record.specs.Record.{octets_for}

-- the number in the four octets from a place on, the highest first
abbrev pub number_at : List ℕ → ℕ → ℕ
number_at octets place =
    slice_index octets place * 16777216
    + slice_index octets (place + 1) * 65536
    + slice_index octets (place + 2) * 256
    + slice_index octets (place + 3)

-- the bits of the last octet that so many symbols leave unused
abbrev pub unused : ℕ → ℕ
unused symbols = 8 * octets_for symbols - symbols

module _ (octets : List ℕ) where
  -- how many entries there are, and the place of the first
  abbrev pub told_count : ℕ
  told_count = number_at octets (length octets - 8)

  abbrev pub told_place : ℕ
  told_place = number_at octets (length octets - 4)

  -- what the entry of a segment tells: the place of its first octet, and how many symbols it has
  abbrev pub told_begin : ℕ → ℕ
  told_begin i = number_at octets (told_place + 8 * i)

  abbrev pub told_size : ℕ → ℕ
  told_size i = number_at octets (told_place + 8 * i + 4)

  -- the symbols of a segment, by its entry
  abbrev pub told_segment : ℕ → List Bool
  told_segment i = take (told_size i) (bits_of (drop (told_begin i) octets))

  -- the first so many segments, and all of them
  abbrev pub first_segments : ℕ → List (List Bool)
  first_segments n = map told_segment (range_with_len 0 n)

  abbrev pub told_segments : List (List Bool)
  told_segments = first_segments told_count

  -- they are neither too few nor too many, and the entries end where the last eight begin
  pub record RightEnd : Type 0 where
    pub least : 8 ≤ length octets
    pub most : length octets ≤ 65535
    pub ends : told_place + 8 * told_count + 8 ≡ length octets

  -- the segment of an entry begins at a place and has a symbol, and it ends, padded with zero bits, before the entries
  pub record RightEntry (i begin : ℕ) : Type 0 where
    pub begins : told_begin i ≡ begin
    pub some : 0 < told_size i
    pub within : begin + octets_for (told_size i) ≤ told_place
    pub padded : slice_index_or octets (begin + octets_for (told_size i) - 1) 0 % 2 ^ unused (told_size i) ≡ 0
