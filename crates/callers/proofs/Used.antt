-- A receiver in use: its state by the events so far, and calls joined. Assumes nothing.
use Rattle.std.proofs.Common.{◌≡◌, Bool, List, ◌∷◌, Ok, refl, ◌∙◌, subst, Option, None, Some}
use Rattle.refusals.specs.declared.Refusal.{Refusal}
use Rattle.hold.specs.declared.Hold.{Ghosts}
use Rattle.queue.specs.declared.slots.Queue.{Queue}
use Rattle.reception.specs.declared.Report.{Report}
use Rattle.reception.specs.Rules.{Event, made}
use Rattle.reception.specs.Runs.{after_events, Clear}
use Rattle.reception.specs.Calls.{Call, call_symbols, symbol_events, answered, events_of_calls}
use Rattle.decoding.specs.Meaning.{rules_of}
use Rattle.receiver.specs.declared.receiver.Receiver.{Receiver}
use Rattle.receiver.specs.Meaning.{settings_of, held_by, state_of, free_slots}
use Rattle.receiver.specs.Calls.{reports_made, Called}
use Rattle.receiver.specs.Events.{Queued, Ran}
use Rattle.receiver.specs.Joined.{PromiseOverCalls}
use Rattle.callers.specs.InUse.{InUse, BackInSearch}

pub accepted : (refused : Option Refusal) (x : Unit {0}) → Ok x ≡ answered refused tt → refused ≡ None
accepted None x e = refl
accepted (Some why) x e = absurd (cc)

module _ {X : Type 0} (hold : Ghosts X) where
  pub used_on : (call : Call) (before after : Receiver X) → Called hold call before after → InUse hold before → InUse hold after
  used_on call before after called used = record { over = used.over; calls = call ∷ used.calls; came = called.came used.over used.calls used.came }

  abbrev pub events_so_far : (r : Receiver X) → InUse hold r → List Event
  events_so_far r used = events_of_calls used.calls

  pub by_its_events : (r : Receiver X) (used : InUse hold r) → PromiseOverCalls hold →
      state_of hold r ≡ after_events (rules_of (settings_of r)) hold.showing (made used.over) (events_so_far r used)
  by_its_events r used over = used.came ∙ (over.promise r).calls used.over used.calls

  -- bits that a symbols call brings
  pub heard : (bits decided : List Bool) (before after : Receiver X) (queue later : Queue Report) → PromiseOverCalls hold → decided ≡ bits →
      Called hold (call_symbols decided (free_slots queue)) before after →
      Queued (reports_made hold before (call_symbols decided (free_slots queue))) queue later → Ran hold (symbol_events bits) before after queue later
  heard bits decided before after queue later runs same called queued =
      subst (λ l. Ran hold (symbol_events l) before after queue later) same (runs.bringing (call_symbols decided (free_slots queue)) before after queue later refl called queued)

  -- where it is clear, it is back in SEARCH
  pub back : (r : Receiver X) → PromiseOverCalls hold → InUse hold r → Clear (state_of hold r).phase (held_by hold r) → BackInSearch hold r
  back r over used clear =
      let answers = over.clear r clear in
      record { state = answers.0; none_open = answers.1; clear = clear; in_use = used }
