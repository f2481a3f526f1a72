-- A list as a circle: after its last place comes its first. Assumes nothing.
use Rattle.std.specs.Prelude.{◌≡◌, ℕ, ◌+◌, ◌-◌, ◌<◌, ◌≤◌, ◌⊎◌, List, ◌++◌, take, drop}

-- every place once, from one on: after the last comes the first, for which a place past the last stands too
abbrev pub round_from : {X : Type 0} → ℕ → List X → List X
round_from place xs = drop place xs ++ take place xs

-- a place that comes so many after a first one: on to the last, and then from the first of all
abbrev pub Turned : (places first turn place : ℕ) → Type 0
Turned places first turn place =
    ((turn < places - first) × (place ≡ first + turn)) ⊎ ((places - first ≤ turn) × (place + (places - first) ≡ turn))
