-- The calls of a receiver. A call is a list of events; the state at its beginning decides whether it is refused, and a
-- refused call changes nothing. The reports of a call go into the queue that the caller brings, and what finds no place
-- there is lost. Assumes nothing.
use Rattle.std.specs.Prelude.{◌≡◌, ℕ, ◌+◌, ◌-◌, min, Bool, List, [], ◌∷◌, ◌++◌, length, take, Some, None, Ok, Err, Option, Result}
use Rattle.refusals.specs.declared.Refusal.{Refusal}
use Rattle.refusals.specs.declared.Refusal.TheVariants.{CarrierAlreadyUp, CarrierDown, NoCandidate}
use Rattle.hold.specs.Candidates.{Candidate, Showing}
use Rattle.reception.specs.declared.Report.{Report}
use Rattle.reception.specs.Decoding.{Settings, Held}
use Rattle.reception.specs.Rules.{made, State, Phase, INACTIVE, SEARCH, DECODE, Event, carrier_up, carrier_down, symbol, release}
use Rattle.reception.specs.Runs.{after_events, reports_of}

-- carrier down and symbols bring a queue with so many free slots, also none
pub data Call : Type 0 where
  call_up : Call
  call_down : (free : ℕ) → Call
  call_symbols : (bits : List Bool) (free : ℕ) → Call
  call_release : Call

abbrev pub symbol_events : List Bool → List Event
symbol_events [] = []
symbol_events (b ∷ bs) = symbol b ∷ symbol_events bs

abbrev pub events_in : Call → List Event
events_in call_up = carrier_up ∷ []
events_in (call_down free) = carrier_down ∷ []
events_in (call_symbols bits free) = symbol_events bits
events_in call_release = release ∷ []

abbrev pub refused_if_up : Phase → Option Refusal
refused_if_up INACTIVE = None
refused_if_up (SEARCH count window) = Some CarrierAlreadyUp
refused_if_up (DECODE r) = Some CarrierAlreadyUp

abbrev pub refused_if_down : Phase → Option Refusal
refused_if_down INACTIVE = Some CarrierDown
refused_if_down (SEARCH count window) = None
refused_if_down (DECODE r) = None

abbrev pub refused_if_none : List Candidate → Option Refusal
refused_if_none [] = Some NoCandidate
refused_if_none (candidate ∷ rest) = None

-- symbols are refused in INACTIVE also where there are none
abbrev pub refusal : State → Call → Option Refusal
refusal s call_up = refused_if_up s.phase
refusal s (call_down free) = refused_if_down s.phase
refusal s (call_symbols bits free) = refused_if_down s.phase
refusal s call_release = refused_if_none s.held.finished

-- what a call answers that may be refused
abbrev pub answered : {X : Type 0} → Option Refusal → X → Result X Refusal
answered None answer = Ok answer
answered (Some why) answer = Err why

-- the reports that a queue takes, and the lost count, which is 0 at the making and stops at 65,535
abbrev pub reports_put : (free : ℕ) → List Report → List Report
reports_put free reports = take free reports

abbrev pub lost_after : (free lost : ℕ) → List Report → ℕ
lost_after free lost reports = min 65535 (lost + (length reports - free))

-- the events of calls, put together; the calls are listed with the latest first
abbrev pub events_of_calls : List Call → List Event
events_of_calls [] = []
events_of_calls (latest ∷ earlier) = events_of_calls earlier ++ events_in latest

module _ (settings : Settings) (showing : Showing) where
  abbrev pub after_call : State → Call → State
  after_call s call = after_events settings showing s (events_in call)

  -- all that a call makes, put or lost: what a symbols call answers is their number
  abbrev pub reports_in : State → Call → List Report
  reports_in s call = reports_of settings showing s (events_in call)

  -- the state of a receiver that was made over a hold and then called so, the latest call first
  abbrev pub after_calls : Held → List Call → State
  after_calls hold [] = made hold
  after_calls hold (latest ∷ earlier) = after_call (after_calls hold earlier) latest

  -- so that what holds after every list of events holds after every list of calls, however symbols are spread over them
  abbrev pub CallsRunAsTheirEvents : Type 0
  CallsRunAsTheirEvents =
      (hold : Held) (calls : List Call) →
      after_calls hold calls ≡ after_events settings showing (made hold) (events_of_calls calls)

  abbrev pub ARefusedCallChangesNothing : Type 0
  ARefusedCallChangesNothing =
      (s : State) (call : Call) (why : Refusal) → refusal s call ≡ Some why →
      (after_call s call ≡ s) × (reports_in s call ≡ [])
