-- A run in which each candidate is released as soon as it is closed, and the places of what it reports. Assumes nothing.
use Rattle.std.specs.Prelude.{◌≡◌, ℕ, ◌<◌, ◌≤◌, Bool, false, cond, List, [], ◌∷◌, ◌++◌, map, length}
use Rattle.hold.specs.Candidates.{Showing}
use Rattle.reception.specs.declared.Report.{Report}
use Rattle.reception.specs.Decoding.{Settings}
use Rattle.reception.specs.Rules.{State, Event, release, at_event}
use Rattle.reception.specs.Runs.{after_events, reports_of}
use Rattle.receive_lines.specs.declared.place.Place.{Place}
use Rattle.receive_lines.specs.Lines.{Told, told_at, is_closed}
use Rattle.receive_lines.specs.Pass.{Placed, placed, events_among}

-- an event makes one report at most
abbrev pub closes : List Report → Bool
closes [] = false
closes (one ∷ more) = is_closed one.reason

module _ (settings : Settings) (showing : Showing) where
  -- an event, with a release behind it if it closes a candidate
  abbrev pub with_release : State → Event → List Event
  with_release s e = e ∷ cond (closes (at_event settings showing s e).reports) (release ∷ []) []

  abbrev pub with_releases : State → List Event → List Event
  with_releases s [] = []
  with_releases s (e ∷ es) = with_release s e ++ with_releases (after_events settings showing s (with_release s e)) es

  -- the reports of such a run, each at the place of the event that makes it
  abbrev pub told_of : State → List Placed → List Told
  told_of s [] = []
  told_of s (p ∷ ps) =
      map (told_at p.place) (at_event settings showing s p.event).reports
      ++ told_of (after_events settings showing s (with_release s p.event)) ps

  -- so many reports are made by events
  abbrev pub reports_by : State → List Placed → ℕ
  reports_by s ps = length (reports_of settings showing s (with_releases s (events_among ps)))

  -- a report, counted from 0, is there first with an event at this place
  pub record FirstAt (s : State) (events : List Placed) (number : ℕ) (place : Place) : Type 0 where
    pub before : List Placed
    pub event : Event
    pub behind : List Placed
    pub all : events ≡ before ++ placed place event ∷ behind
    pub not_yet : reports_by s before ≤ number
    pub by_then : number < reports_by s (before ++ placed place event ∷ [])
