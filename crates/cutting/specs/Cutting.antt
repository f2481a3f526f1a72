-- How the octets of a candidate are cut into frames and fill. Assumes nothing.
use Rattle.std.specs.Prelude.{ℕ, zero, suc, ◌+◌, ◌-◌, ◌/◌, ◌%◌, ◌^◌, Bool, cond, ◌&&◌, ◌==◌, nat_le, List, [], ◌∷◌, length, take, Option, Some, None}
use Rattle.std.specs.Int.Digits.{number_from_digits}
use Rattle.std.specs.List.{list_all}
use Rattle.cltu.specs.Cltu.{fill_octet}

-- the header of a frame is its first five octets
abbrev pub header_octets : ℕ
header_octets = 5

-- it is taken as a number of 40 bits, of which bit 0 is the highest
abbrev pub header : List ℕ → ℕ
header octets = number_from_digits 256 (take header_octets octets)

-- the number in some bits of a header, from a first to a last one
abbrev pub bits : (first last : ℕ) → ℕ → ℕ
bits first last number = number / 2 ^ (39 - last) % 2 ^ (last + 1 - first)

abbrev pub version : List ℕ → ℕ
version octets = bits 0 1 (header octets)

-- how many octets a frame has by its header, which tells one less
abbrev pub length_by_header : List ℕ → ℕ
length_by_header octets = bits 22 31 (header octets) + 1

-- fill is less than the information of a codeblock
abbrev pub most_fill : ℕ
most_fill = 6

-- octets that are left of a candidate are fill: at most six, all 55
abbrev pub is_fill : List ℕ → Bool
is_fill left = nat_le (length left) most_fill && list_all (λ x. x == fill_octet) left

-- they begin with a frame: of version 00, and with as many octets as its header tells, five at least
abbrev pub is_frame_in_front : List ℕ → Bool
is_frame_in_front left =
    version left == 0
    && (nat_le header_octets (length_by_header left) && nat_le (length_by_header left) (length left))

-- of how many octets that frame is
abbrev pub frame_octets : List ℕ → Option ℕ
frame_octets left = cond (is_frame_in_front left) (Some (length_by_header left)) None

pub data Kind : Type 0 where
  frame : Kind
  fill : Kind

-- a part of a candidate: a frame or the fill, and the place of its first octet
pub record Part : Type 0 where
  pub kind : Kind
  pub place : ℕ
  pub octets : List ℕ

abbrev pub part : Kind → ℕ → List ℕ → Part
part kind place octets = record { kind = kind; place = place; octets = octets }

-- the part that octets left at a place begin with
abbrev pub frame_part : ℕ → List ℕ → Option ℕ → Option Part
frame_part place left None = None
frame_part place left (Some count) = Some (part frame place (take count left))

abbrev pub part_in_front : ℕ → List ℕ → Option Part
part_in_front place left =
    cond (is_fill left) (Some (part fill place left)) (frame_part place left (frame_octets left))

-- a cutting: the parts in their order, and the place at which it is refused, if it is
pub record Cutting : Type 0 where
  pub parts : List Part
  pub refused_at : Option ℕ

abbrev pub cut_behind : (ℕ → Cutting) → ℕ → Option Part → Cutting
cut_behind behind place None = record { parts = []; refused_at = Some place }
cut_behind behind place (Some first) =
    let rest = behind (length first.octets) in
    record { parts = first ∷ rest.parts; refused_at = rest.refused_at }

-- the cutting of octets from a place on, of which the first so many belong to a part that is cut already
abbrev pub cut_from : (place done : ℕ) → List ℕ → Cutting
cut_from place done [] = record { parts = []; refused_at = None }
cut_from place (suc done) (x ∷ octets) = cut_from (suc place) done octets
cut_from place zero (x ∷ octets) =
    cut_behind (λ count. cut_from (suc place) (count - 1) octets) place (part_in_front place (x ∷ octets))

-- the cutting of a candidate, from place 0
abbrev pub cutting : List ℕ → Cutting
cutting candidate = cut_from 0 0 candidate
