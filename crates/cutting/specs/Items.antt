-- The items that a cutter gives, and what it has still to cut. Assumes nothing.
use Rattle.std.specs.Prelude.{◌≡◌, ℕ, ◌+◌, ◌-◌, ◌<◌, List, [], ◌∷◌, length, drop, Option, Some, None, Result, Ok, Err}
use Rattle.std.specs.Option.{option_map}
use Rattle.refusals.specs.declared.Refusal.{Refusal}
use Rattle.refusals.specs.declared.Refusal.TheVariants.{NeitherFrameNorFill}
use Rattle.cutting.specs.declared.Item.{Item}
use Rattle.cutting.specs.declared.Item.TheVariants.{Frame, Fill}
use Rattle.cutting.specs.declared.cutter.Cutter.{Cutter}
use Rattle.cutting.specs.Cutting.{Part, part, frame, fill, Cutting, cut_from}

-- the part of a candidate that an item is
abbrev pub part_of : Item → Part
part_of (Frame place octets) = part frame place octets.now
part_of (Fill place octets) = part fill place octets.now

-- what a call answered, by the part that its item is
abbrev pub answered : Result (Option Item) Refusal → Result (Option Part) Refusal
answered (Ok item) = Ok (option_map part_of item)
answered (Err why) = Err why

-- how many octets a cutter has left
abbrev pub octets_left : Cutter → ℕ
octets_left cutter = length cutter.candidate.now - cutter.place

-- what a cutter has still to cut
abbrev pub to_cut : Cutter → Cutting
to_cut cutter = cut_from cutter.place 0 (drop cutter.place cutter.candidate.now)

-- the first part that comes: none at the end, and a refusal where cutting is refused
abbrev pub end_of : Option ℕ → Result (Option Part) Refusal
end_of None = Ok None
end_of (Some place) = Err (NeitherFrameNorFill place)

abbrev pub first_of_parts : List Part → Option ℕ → Result (Option Part) Refusal
first_of_parts [] refused_at = end_of refused_at
first_of_parts (first ∷ rest) refused_at = Ok (Some first)

abbrev pub first_to_come : Cutting → Result (Option Part) Refusal
first_to_come cut = first_of_parts cut.parts cut.refused_at

-- what comes behind it; where none comes, it stays so
abbrev pub behind_first : List Part → List Part
behind_first [] = []
behind_first (first ∷ rest) = rest

abbrev pub rest_to_come : Cutting → Cutting
rest_to_come cut = record { parts = behind_first cut.parts; refused_at = cut.refused_at }

-- an item has an octet at least, and behind its octets the rest is to be cut
pub record ComesNext (cutter : Cutter) (item : Item) : Type 0 where
  pub some : 0 < length (part_of item).octets
  pub behind :
      let next = cutter.place + length (part_of item).octets in
      cut_from next 0 (drop next cutter.candidate.now) ≡ rest_to_come (to_cut cutter)
