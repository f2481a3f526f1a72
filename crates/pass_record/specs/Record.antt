-- A pass record: the octets that hold given segments of received symbols. Assumes nothing.
use Rattle.std.specs.Prelude.{◌≡◌, ℕ, ◌+◌, ◌*◌, ◌/◌, ◌%◌, ◌^◌, ◌<◌, ◌≤◌, Bool, false, cond, List, [], ◌∷◌, ◌++◌, map, length, drop, slice_index_or}
use Rattle.std.specs.List.{range_with_len, flat_map, AllByRecursion}

-- a symbol with its weight in an octet; past the last symbol the bits are zero
abbrev pub weighed : ℕ → List Bool → ℕ → ℕ
weighed weight symbols place = cond (slice_index_or symbols place false) weight 0

-- the first eight symbols in an octet, the first in its most significant bit
abbrev pub octet_of : List Bool → ℕ
octet_of s =
    weighed 128 s 0 + weighed 64 s 1 + weighed 32 s 2 + weighed 16 s 3
    + weighed 8 s 4 + weighed 4 s 5 + weighed 2 s 6 + weighed 1 s 7

-- how many octets hold so many symbols, eight to an octet
abbrev pub octets_for : ℕ → ℕ
octets_for symbols = (symbols + 7) / 8

-- the symbols in whole octets: octet k has the eight symbols that follow the first 8 * k
abbrev pub packed : List Bool → List ℕ
packed s = map (λ k. octet_of (drop (8 * k) s)) (range_with_len 0 (octets_for (length s)))

-- a number below 2 ^ 32 in four octets, the highest first
abbrev pub four_octets : ℕ → List ℕ
four_octets n = n / 2 ^ 24 % 256 ∷ n / 2 ^ 16 % 256 ∷ n / 2 ^ 8 % 256 ∷ n % 256 ∷ []

-- the entry of a segment: the place of its first octet, and how many symbols it has
abbrev pub entry : ℕ → List Bool → List ℕ
entry place segment = four_octets place ++ four_octets (length segment)

-- the entries of segments that follow one another from a place on
abbrev pub entries : ℕ → List (List Bool) → List ℕ
entries place [] = []
entries place (segment ∷ rest) = entry place segment ++ entries (place + length (packed segment)) rest

-- all segments, their entries, how many entries there are, and the place of the first
abbrev pub record_of : List (List Bool) → List ℕ
record_of segments =
    flat_map packed segments
    ++ (entries 0 segments
    ++ (four_octets (length segments) ++ four_octets (length (flat_map packed segments))))

-- these octets are the record of these segments, none of which is empty
pub record IsRecord (octets : List ℕ) (segments : List (List Bool)) : Type 0 where
  pub layout : octets ≡ record_of segments
  pub most : length octets ≤ 65535
  pub some : AllByRecursion (λ segment. 0 < length segment) segments

-- octets are the record of no segments whatever
abbrev pub IsNoRecord : List ℕ → Type 0
IsNoRecord octets = (segments : List (List Bool)) → IsRecord octets segments → ⊥

-- octets are the record of one list of segments only
abbrev pub OneListOfSegments : List ℕ → Type 0
OneListOfSegments octets = (a b : List (List Bool)) → IsRecord octets a → IsRecord octets b → a ≡ b
