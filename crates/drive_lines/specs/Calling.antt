-- What a call makes of a receiver and of the queue that it brings. Assumes nothing.
use Rattle.std.specs.Prelude.{◌≡◌, Option, Some, None}
use Rattle.refusals.specs.declared.Refusal.{Refusal}
use Rattle.hold.specs.declared.Hold.{Ghosts}
use Rattle.queue.specs.declared.slots.Queue.{Queue}
use Rattle.reception.specs.declared.Report.{Report}
use Rattle.reception.specs.Calls.{Call, refusal}
use Rattle.receiver.specs.declared.receiver.Receiver.{Receiver}
use Rattle.receiver.specs.Meaning.{state_of}
use Rattle.receiver.specs.Calls.{reports_made, Called}
use Rattle.receiver.specs.Events.{Queued}

module _ {X : Type 0} (hold : Ghosts X) where
  -- the receiver is called so, and its reports go into the queue; a question leaves both as they were
  abbrev pub Comes : Option Call → (before after : Receiver X) (queue later : Queue Report) → Type 0
  Comes None before after queue later = (after ≡ before) × (later ≡ queue)
  Comes (Some call) before after queue later =
      Called hold call before after × Queued (reports_made hold before call) queue later

  -- a call that is refused leaves the receiver as it was
  abbrev pub StaysIfRefused : Option Call → (before after : Receiver X) → Type 0
  StaysIfRefused None before after = after ≡ before
  StaysIfRefused (Some call) before after = (why : Refusal) → refusal (state_of hold before) call ≡ Some why → after ≡ before
