-- A pass as events of a receiver, each at a place, and the receiver that it is given to. Assumes nothing.
use Rattle.std.specs.Prelude.{ℕ, suc, Bool, List, [], ◌∷◌, ◌++◌, map, length, None}
use Rattle.std.specs.List.{flat_map}
use Rattle.randomizer.specs.declared.Randomizer.{Randomizer}
use Rattle.randomizer.specs.declared.Randomizer.TheVariants.{On, Off}
use Rattle.hold.specs.Candidates.{Showing}
use Rattle.hold.specs.Plain.{plain_showing}
use Rattle.derandomizing.specs.Derandomized.{derandomized}
use Rattle.reception.specs.Decoding.{Settings}
use Rattle.reception.specs.Rules.{State, made, Event, carrier_up, carrier_down, symbol}
use Rattle.reception.specs.Calls.{symbol_events}
use Rattle.decoding.specs.Meaning.{rules_of}
use Rattle.receive_lines.specs.declared.place.Place.{Place}
use Rattle.receive_lines.specs.declared.setup.Setup.{Setup}

-- each segment between carrier up and carrier down
abbrev pub segment_events : List Bool → List Event
segment_events symbols = carrier_up ∷ (symbol_events symbols ++ carrier_down ∷ [])

abbrev pub pass_events : List (List Bool) → List Event
pass_events segments = flat_map segment_events segments

-- an event, and where in the pass it happens
pub record Placed : Type 0 where
  pub place : Place
  pub event : Event

abbrev pub placed : Place → Event → Placed
placed place event = record { place = place; event = event }

abbrev pub place_in : (of number : ℕ) → Place
place_in of number = record { segment = of; symbol = number }

-- the symbols behind a place of their segment
abbrev pub next_symbol : Place → Place
next_symbol place = place_in place.segment (suc place.symbol)

abbrev pub placed_symbols : Place → List Bool → List Placed
placed_symbols place [] = []
placed_symbols place (b ∷ bs) = placed (next_symbol place) (symbol b) ∷ placed_symbols (next_symbol place) bs

-- a segment, by its number: the carrier goes up before the first symbol, and down at the last
abbrev pub placed_segment : ℕ → List Bool → List Placed
placed_segment number symbols =
    placed (place_in number 0) carrier_up
    ∷ (placed_symbols (place_in number 0) symbols ++ placed (place_in number (length symbols)) carrier_down ∷ [])

-- segments, behind so many earlier ones
abbrev pub placed_segments : (earlier : ℕ) → List (List Bool) → List Placed
placed_segments earlier [] = []
placed_segments earlier (symbols ∷ segments) =
    placed_segment (suc earlier) symbols ++ placed_segments (suc earlier) segments

abbrev pub placed_pass : List (List Bool) → List Placed
placed_pass segments = placed_segments 0 segments

abbrev pub events_among : List Placed → List Event
events_among events = map (λ p. p.event) events

-- what the receiver is set to, and as what its hold shows octets
abbrev pub rules_for : Setup → Settings
rules_for setup = rules_of setup.settings

abbrev pub showing_for : Randomizer → Showing
showing_for On = derandomized plain_showing
showing_for Off = plain_showing

-- a receiver over an empty hold of so many cells
abbrev pub over_cells : ℕ → State
over_cells cells = made (record { capacity = cells; finished = []; opened = None })

-- one over a hold that has space for a codeblock at each of these events: it never fills, though nothing is released
abbrev pub ready_for : List Event → State
ready_for events = over_cells (length events)
