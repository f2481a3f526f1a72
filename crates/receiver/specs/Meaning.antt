-- What a receiver means: a state of the rules of reception, with what it is set to and how many reports were lost.
-- Assumes nothing.
use Rattle.std.specs.Prelude.{ℕ, List, length}
use Rattle.hold.specs.declared.Hold.{Ghosts}
use Rattle.queue.specs.declared.slots.Queue.{Queue}
use Rattle.queue.specs.Waiting.{free}
use Rattle.reception.specs.declared.Report.{Report}
use Rattle.reception.specs.Decoding.{Held}
use Rattle.reception.specs.Rules.{State, state}
use Rattle.reception.specs.Calls.{Call, call_symbols}
use Rattle.searching.specs.declared.Symbol.{Ghosts as Kind}
use Rattle.searching.specs.Symbols.{decisions}
use Rattle.decoding.specs.declared.settings.Settings.{Settings}
use Rattle.decoding.specs.Meaning.{held_in}
use Rattle.receiver.specs.declared.receiver.Receiver.{Receiver}
use Rattle.receiver.specs.Phases.{phase_of}

module _ {X : Type 0} where
  abbrev pub settings_of : Receiver X → Settings
  settings_of r = r.state.settings

  -- up to 65,535
  abbrev pub lost_of : Receiver X → ℕ
  lost_of r = r.state.lost

  -- its hold, and what that means
  abbrev pub hold_of : Receiver X → X
  hold_of r = r.hold

  module _ (hold : Ghosts X) where
    abbrev pub held_by : Receiver X → Held
    held_by r = held_in hold r.hold

    abbrev pub state_of : Receiver X → State
    state_of r = state (phase_of r.state.phase) (held_by r)

-- how many records a queue can still take
abbrev pub free_slots : Queue Report → ℕ
free_slots queue = length (free queue)

-- symbols of a kind, with the queue that their caller brings, as a call
abbrev pub symbols_call : {Y : Type 0} → Kind Y → List Y → Queue Report → Call
symbols_call kind symbols queue = call_symbols (decisions kind symbols) (free_slots queue)
