-- A run of events, and one behind it, are one run: so a caller puts together what he knows of each. Assumes nothing.
use Rattle.std.specs.Prelude.{◌≡◌, ℕ, ◌+◌, Bool, List, ◌++◌, drop, replicate}
use Rattle.hold.specs.Candidates.{Showing}
use Rattle.reception.specs.Decoding.{Settings}
use Rattle.reception.specs.Rules.{State, state, Event, release}
use Rattle.reception.specs.Runs.{after_events, reports_of, symbols_in, CarrierStaysUp, Clear}
use Rattle.reception.specs.Calls.{symbol_events}
use Rattle.reception.specs.Finished.{new_candidates, releases_accepted}
use Rattle.reception.specs.Gaps.{CarrierStaysDown}

-- a state, without so many of the oldest finished candidates
abbrev pub without_oldest : ℕ → State → State
without_oldest count s =
    state s.phase (record { capacity = s.held.capacity; finished = drop count s.held.finished; opened = s.held.opened })

pub record RunsAreJoined (settings : Settings) (showing : Showing) : Type 0 where
  pub state : (s : State) (first then : List Event) →
      after_events settings showing s (first ++ then)
      ≡ after_events settings showing (after_events settings showing s first) then
  pub reports : (s : State) (first then : List Event) →
      reports_of settings showing s (first ++ then)
      ≡ reports_of settings showing s first
      ++ reports_of settings showing (after_events settings showing s first) then
  pub candidates : (s : State) (first then : List Event) →
      new_candidates settings showing s (first ++ then)
      ≡ new_candidates settings showing s first
      ++ new_candidates settings showing (after_events settings showing s first) then
  pub releases : (s : State) (first then : List Event) →
      releases_accepted settings showing s (first ++ then)
      ≡ releases_accepted settings showing s first
      + releases_accepted settings showing (after_events settings showing s first) then
  pub symbols : (first then : List Event) → symbols_in (first ++ then) ≡ symbols_in first ++ symbols_in then
  pub up : (first then : List Event) → CarrierStaysUp first → CarrierStaysUp then → CarrierStaysUp (first ++ then)
  pub down : (first then : List Event) →
      CarrierStaysDown first → CarrierStaysDown then → CarrierStaysDown (first ++ then)
  -- a symbols call has its symbols, leaves the carrier up, joins with another to one, and releases none
  pub symbols_called : (bits : List Bool) → symbols_in (symbol_events bits) ≡ bits
  pub up_called : (bits : List Bool) → CarrierStaysUp (symbol_events bits)
  pub symbols_joined : (bits more : List Bool) →
      symbol_events (bits ++ more) ≡ symbol_events bits ++ symbol_events more
  pub none_released : (s : State) (bits : List Bool) →
      releases_accepted settings showing s (symbol_events bits) ≡ 0
  -- releases, one behind the other, take as many of the oldest and change nothing else
  pub released : (s : State) (count : ℕ) →
      after_events settings showing s (replicate count release) ≡ without_oldest count s
  -- so a receiver that is clear stays so
  pub stays_clear : (s : State) (count : ℕ) →
      Clear s.phase s.held → Clear (without_oldest count s).phase (without_oldest count s).held
