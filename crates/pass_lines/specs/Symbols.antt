-- The symbols of CLTUs with idle in front, in segments, and what errors make of them. Assumes nothing.
use Rattle.std.specs.Prelude.{ℕ, ◌+◌, ◌*◌, Bool, true, false, not, cond, ◌==◌, List, [], ◌∷◌, ◌++◌, length, map, take, drop}
use Rattle.std.specs.List.{flat_map, list_any}
use Rattle.bch.specs.Bits.{bits_of}
use Rattle.reception.specs.Runs.{idle}

-- so many bits of idle, of which the first is this, and then the bits of the CLTU
abbrev pub with_guard : (first : Bool) (guard : ℕ) (cltu : List ℕ) → List Bool
with_guard first guard cltu = idle first guard ++ bits_of cltu

-- a segment for each CLTU, or one for all; without a CLTU there is none
abbrev pub segments_sent : (apart first : Bool) (guard : ℕ) (cltus : List (List ℕ)) → List (List Bool)
segments_sent true first guard cltus = map (with_guard first guard) cltus
segments_sent false first guard [] = []
segments_sent false first guard (cltu ∷ cltus) = flat_map (with_guard first guard) (cltu ∷ cltus) ∷ []

-- symbols that follow one another from a place on, those at the wrong places inverted
abbrev pub inverted_at : (wrong : List ℕ) (place : ℕ) → List Bool → List Bool
inverted_at wrong place [] = []
inverted_at wrong place (bit ∷ bits) =
    cond (list_any (λ one. one == place) wrong) (not bit) bit ∷ inverted_at wrong (place + 1) bits

-- the same of segments: places are counted over the symbols of all
abbrev pub segments_received : (wrong : List ℕ) (place : ℕ) → List (List Bool) → List (List Bool)
segments_received wrong place [] = []
segments_received wrong place (segment ∷ segments) =
    inverted_at wrong place segment ∷ segments_received wrong (place + length segment) segments

-- the symbols of all segments, one behind the other
abbrev pub all_symbols : List (List Bool) → List Bool
all_symbols segments = flat_map (λ segment. segment) segments

-- the segments of these symbols, one behind the other: a guard and the bits of the CLTU in each
abbrev pub parts : (guard : ℕ) (cltus : List (List ℕ)) → List Bool → List (List Bool)
parts guard [] symbols = []
parts guard (cltu ∷ cltus) symbols =
    let here = guard + 8 * length cltu in
    take here symbols ∷ parts guard cltus (drop here symbols)

-- how many symbols they have together
abbrev pub parts_length : (guard : ℕ) (cltus : List (List ℕ)) → ℕ
parts_length guard [] = 0
parts_length guard (cltu ∷ cltus) = guard + 8 * length cltu + parts_length guard cltus
