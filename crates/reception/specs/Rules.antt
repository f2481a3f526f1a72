-- The rules of reception: what a receiver does at each event, by its settings, its state and what its hold means. They
-- are total: an event that is refused changes nothing. Searching and decoding are apart, each in a file of its own;
-- what becomes of windows and of the state when a start is found or a candidate ends is said here. Assumes nothing.
use Rattle.std.specs.Prelude.{ℕ, Bool, true, false, List, [], ◌∷◌}
use Rattle.hold.specs.Candidates.{Showing}
use Rattle.reception.specs.declared.Reason.TheVariants.{Down}
use Rattle.reception.specs.declared.Report.{Report}
use Rattle.reception.specs.Searching.{next_count, next_window, is_start}
use Rattle.reception.specs.Decoding.{Settings, Held, opening, abandoning, releasing, Reading, begun, Decoded, goes_on, ends, report, read_symbol}

pub data Phase : Type 0 where
  INACTIVE : Phase
  SEARCH : (count window : ℕ) → Phase
  DECODE : Reading → Phase

pub record State : Type 0 where
  pub phase : Phase
  pub held : Held

abbrev pub state : Phase → Held → State
state phase held = record { phase = phase; held = held }

pub data Event : Type 0 where
  carrier_up : Event
  carrier_down : Event
  symbol : Bool → Event
  release : Event

-- the state after an event, and the reports that it makes, one at most
pub record Outcome : Type 0 where
  pub after : State
  pub reports : List Report

abbrev pub quietly : Phase → Held → Outcome
quietly phase held = record { after = state phase held; reports = [] }

abbrev pub reporting : Phase → Held → Report → Outcome
reporting phase held one = record { after = state phase held; reports = one ∷ [] }

-- a search that begins: its window is empty
abbrev pub searching : Phase
searching = SEARCH 0 0

-- a start opens a candidate
abbrev pub at_window : Held → (count window : ℕ) → (found : Bool) → Outcome
at_window h count window true = quietly (DECODE begun) (opening h)
at_window h count window false = quietly (SEARCH count window) h

-- a candidate that ends leads back to SEARCH
abbrev pub at_decoded : Decoded → Outcome
at_decoded (goes_on h r) = quietly (DECODE r) h
at_decoded (ends h one) = reporting searching h one

abbrev pub at_symbol : Settings → Showing → Phase → Held → Bool → Outcome
at_symbol settings showing INACTIVE h b = quietly INACTIVE h
at_symbol settings showing (SEARCH count window) h b =
    at_window h (next_count count) (next_window window b)
    (is_start settings.mode (next_count count) (next_window window b))
at_symbol settings showing (DECODE r) h b = at_decoded (read_symbol settings showing h r b)

abbrev pub at_up : Phase → Held → Outcome
at_up INACTIVE h = quietly searching h
at_up (SEARCH count window) h = quietly (SEARCH count window) h
at_up (DECODE r) h = quietly (DECODE r) h

abbrev pub at_down : Phase → Held → Outcome
at_down INACTIVE h = quietly INACTIVE h
at_down (SEARCH count window) h = quietly INACTIVE h
at_down (DECODE r) h = reporting INACTIVE (abandoning h) (report Down r.codeblocks r.corrections)

abbrev pub at_event : Settings → Showing → State → Event → Outcome
at_event settings showing s carrier_up = at_up s.phase s.held
at_event settings showing s carrier_down = at_down s.phase s.held
at_event settings showing s (symbol b) = at_symbol settings showing s.phase s.held b
at_event settings showing s release = quietly s.phase (releasing s.held)

-- making: the hold's open candidate is abandoned, and the receiver is INACTIVE
abbrev pub made : Held → State
made h = state INACTIVE (abandoning h)
