-- What events make of a receiver, inside a call, and where reports go. Assumes nothing.
use Rattle.std.specs.Prelude.{◌≡◌, List, [], ◌∷◌, Some, None, Ok, Err, Option, Result}
use Rattle.std.specs.Option.{option_to_list}
use Rattle.refusals.specs.declared.Refusal.{Refusal}
use Rattle.hold.specs.declared.Hold.{Ghosts}
use Rattle.queue.specs.declared.slots.Queue.{Queue}
use Rattle.queue.specs.Waiting.{slots_of, with_behind}
use Rattle.reception.specs.declared.Report.{Report}
use Rattle.reception.specs.Rules.{Phase, Event, carrier_up, carrier_down, symbol}
use Rattle.reception.specs.Runs.{after_events, reports_of}
use Rattle.reception.specs.Calls.{refused_if_up, refused_if_down, reports_put, lost_after}
use Rattle.decoding.specs.Meaning.{rules_of}
use Rattle.receiver.specs.declared.phase.Event.{Event as Incoming}
use Rattle.receiver.specs.declared.phase.Event.TheVariants.{CarrierUp, CarrierDown, Symbols, Symbol}
use Rattle.receiver.specs.declared.receiver.Receiver.{Receiver}
use Rattle.receiver.specs.Meaning.{settings_of, lost_of, state_of, free_slots}

-- what an event is to the rules: where a call with symbols begins, nothing yet
abbrev pub events_of : Incoming → List Event
events_of CarrierUp = carrier_up ∷ []
events_of CarrierDown = carrier_down ∷ []
events_of Symbols = []
events_of (Symbol bit) = symbol bit ∷ []

-- why it is refused, if it is
abbrev pub refusal_of : Phase → Incoming → Option Refusal
refusal_of p CarrierUp = refused_if_up p
refusal_of p CarrierDown = refused_if_down p
refusal_of p Symbols = refused_if_down p
refusal_of p (Symbol bit) = refused_if_down p

-- why an event was refused, if it was, and the report that it made, if any
abbrev pub refused_by : Result (Option Report) Refusal → Option Refusal
refused_by (Ok report) = None
refused_by (Err why) = Some why

abbrev pub reported_by : Result (Option Report) Refusal → List Report
reported_by (Ok report) = option_to_list report
reported_by (Err why) = []

-- the caller's queue after these reports: those that find a free slot wait behind the others
abbrev pub Queued : List Report → (before after : Queue Report) → Type 0
Queued reports before after = slots_of after ≡ with_behind (reports_put (free_slots before) reports) (slots_of before)

module _ {X : Type 0} (hold : Ghosts X) where
  abbrev pub reports_at : Receiver X → List Event → List Report
  reports_at r events = reports_of (rules_of (settings_of r)) hold.showing (state_of hold r) events

  -- the receiver after events, whose reports are not told yet
  pub record ComesTo (events : List Event) (before after : Receiver X) : Type 0 where
    pub state :
        state_of hold after
        ≡ after_events (rules_of (settings_of before)) hold.showing (state_of hold before) events
    pub settings : settings_of after ≡ settings_of before
    pub lost : lost_of after ≡ lost_of before

  -- reports go into the queue as far as it has free slots, and the others are lost
  pub record Told (reports : List Report) (before after : Receiver X) (queue later : Queue Report) : Type 0 where
    pub state : state_of hold after ≡ state_of hold before
    pub settings : settings_of after ≡ settings_of before
    pub lost : lost_of after ≡ lost_after (free_slots queue) (lost_of before) reports
    pub queued : Queued reports queue later

  -- the receiver and the caller's queue after events
  pub record Ran (events : List Event) (before after : Receiver X) (queue later : Queue Report) : Type 0 where
    pub state :
        state_of hold after
        ≡ after_events (rules_of (settings_of before)) hold.showing (state_of hold before) events
    pub settings : settings_of after ≡ settings_of before
    pub lost : lost_of after ≡ lost_after (free_slots queue) (lost_of before) (reports_at before events)
    pub queued : Queued (reports_at before events) queue later
