-- Places that are named, and one that is named twice. Assumes nothing.
use Rattle.std.specs.Prelude.{◌≡◌, ◌≢◌, ℕ, ◌<◌, cond, ◌==◌, List, [], ◌∷◌, Option, Some, None, length, slice_index}
use Rattle.std.specs.List.{list_any}
use Rattle.pass_lines.specs.declared.places.WrongPlaces.{WrongPlaces}

abbrev pub places_of : WrongPlaces → List ℕ
places_of wrong = wrong.places.items

-- the first that is named again behind
abbrev pub named_twice : List ℕ → Option ℕ
named_twice [] = None
named_twice (place ∷ places) = cond (list_any (λ one. one == place) places) (Some place) (named_twice places)

-- what is told: that no two are the same, or one that stands at two of them
pub record NamedTwice (places : List ℕ) : Type 0 where
  pub none : named_twice places ≡ None → (i j : ℕ) → i < j → j < length places
      → slice_index places i ≢ slice_index places j
  pub some : (place : ℕ) → named_twice places ≡ Some place
      → (i : ℕ) × (j : ℕ) × (i < j) × (j < length places) × (slice_index places i ≡ place) × (slice_index places j ≡ place)
