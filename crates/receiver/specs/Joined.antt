-- What a caller needs to put the calls of a receiver together, and to take the promise at any time. Assumes nothing.
use Rattle.std.specs.Prelude.{◌≡◌, List, [], ◌∷◌, ◌++◌, None}
use Rattle.hold.specs.declared.Hold.{Ghosts}
use Rattle.queue.specs.declared.slots.Queue.{Queue}
use Rattle.reception.specs.declared.Report.{Report}
use Rattle.reception.specs.Decoding.{added}
use Rattle.reception.specs.Rules.{INACTIVE, Event, carrier_up, release}
use Rattle.reception.specs.Runs.{CarrierIsUp, Clear}
use Rattle.reception.specs.Calls.{Call, call_up, call_release, refused_if_up, refused_if_down, events_in}
use Rattle.reception.specs.Promise.{ReceiverPromise}
use Rattle.decoding.specs.Meaning.{rules_of}
use Rattle.receiver.specs.declared.receiver.Receiver.{Receiver}
use Rattle.receiver.specs.declared.receiver_state.ReceiverState.TheVariants.{Search}
use Rattle.receiver.specs.Meaning.{settings_of, held_by, state_of, free_slots}
use Rattle.receiver.specs.Calls.{named, free_in, reports_made, Called}
use Rattle.receiver.specs.Events.{Queued, Ran}

module _ {X : Type 0} (hold : Ghosts X) where
  -- the promise holds of every receiver over this hold, each call is a run of events over the receiver and a queue, and
  -- a run, with one behind it, is one run
  pub record PromiseOverCalls : Type 0 where
    pub promise : (r : Receiver X) → ReceiverPromise (rules_of (settings_of r)) hold.showing
    -- a call that brings the queue
    pub bringing : (call : Call) (before after : Receiver X) (queue later : Queue Report) →
        free_in call ≡ free_slots queue → Called hold call before after →
        Queued (reports_made hold before call) queue later → Ran hold (events_in call) before after queue later
    -- a call that brings none leaves any queue as it is
    pub raising : (before after : Receiver X) (queue : Queue Report) →
        Called hold call_up before after → Ran hold (carrier_up ∷ []) before after queue queue
    pub releasing : (before after : Receiver X) (queue : Queue Report) →
        Called hold call_release before after → Ran hold (release ∷ []) before after queue queue
    pub joined : (first then : List Event) (before between after : Receiver X) (queue later last : Queue Report) →
        Ran hold first before between queue later → Ran hold then between after later last →
        Ran hold (first ++ then) before after queue last
    pub nothing : (r : Receiver X) (queue : Queue Report) → Ran hold [] r r queue queue
    -- what it was before a call that is not refused, and what its questions answer where it is clear
    pub was_down : (r : Receiver X) →
        refused_if_up (state_of hold r).phase ≡ None → (state_of hold r).phase ≡ INACTIVE
    pub was_up : (r : Receiver X) →
        refused_if_down (state_of hold r).phase ≡ None → CarrierIsUp (state_of hold r).phase
    pub clear : (r : Receiver X) → Clear (state_of hold r).phase (held_by hold r) →
        (named (state_of hold r).phase ≡ Search) × (added (held_by hold r) ≡ 0)
