-- A command that came in stays in: whatever is received later, a finished candidate keeps its octets and its turn until
-- a reader releases it. Assumes nothing.
use Rattle.std.specs.Prelude.{◌≡◌, ℕ, ◌+◌, List, [], ◌∷◌, ◌++◌, drop, Some, None, Option}
use Rattle.hold.specs.Candidates.{Candidate, Showing}
use Rattle.reception.specs.declared.Reason.{Reason}
use Rattle.reception.specs.declared.Reason.TheVariants.{Closed, Empty, Long, Full, Down}
use Rattle.reception.specs.declared.Report.{Report}
use Rattle.reception.specs.Decoding.{Settings, Held}
use Rattle.reception.specs.Rules.{State, Event, carrier_up, carrier_down, symbol, release, at_event, made}
use Rattle.reception.specs.Runs.{after_events}

-- a candidate that is announced: the one that was open when *closed* was reported
abbrev pub announced_by : Option Candidate → Reason → List Candidate
announced_by None reason = []
announced_by (Some candidate) Closed = candidate ∷ []
announced_by (Some candidate) Empty = []
announced_by (Some candidate) Long = []
announced_by (Some candidate) Full = []
announced_by (Some candidate) Down = []

abbrev pub announced : Option Candidate → List Report → List Candidate
announced opened [] = []
announced opened (one ∷ more) = announced_by opened one.reason ++ announced opened more

-- a release is accepted where a finished candidate waits
abbrev pub accepted_release : Event → List Candidate → ℕ
accepted_release carrier_up finished = 0
accepted_release carrier_down finished = 0
accepted_release (symbol b) finished = 0
accepted_release release [] = 0
accepted_release release (candidate ∷ rest) = 1

module _ (settings : Settings) (showing : Showing) where
  -- the candidates that a run announces, in order, and how many releases it accepts
  abbrev pub new_candidates : State → List Event → List Candidate
  new_candidates s [] = []
  new_candidates s (e ∷ es) =
      announced s.held.opened (at_event settings showing s e).reports
      ++ new_candidates (at_event settings showing s e).after es

  abbrev pub releases_accepted : State → List Event → ℕ
  releases_accepted s [] = 0
  releases_accepted s (e ∷ es) =
      accepted_release e s.held.finished + releases_accepted (at_event settings showing s e).after es

  -- of what was finished earlier and the new candidates behind it, each accepted release has taken the first
  abbrev pub WhatIsFinishedStays : Type 0
  WhatIsFinishedStays =
      (hold : Held) (earlier later : List Event) →
      let then = after_events settings showing (made hold) earlier in
      (after_events settings showing then later).held.finished
      ≡ drop (releases_accepted then later) (then.held.finished ++ new_candidates then later)
