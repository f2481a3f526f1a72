-- What a call makes of a receiver and of its hold. Assumes nothing.
use Rattle.std.specs.Prelude.{◌≡◌, ℕ, List, ◌∷◌}
use Rattle.hold.specs.declared.Hold.{Ghosts}
use Rattle.reception.specs.declared.Report.{Report}
use Rattle.reception.specs.Decoding.{Held}
use Rattle.reception.specs.Rules.{Phase, INACTIVE, SEARCH, DECODE}
use Rattle.reception.specs.Calls.{Call, call_up, call_down, call_symbols, call_release, after_call, after_calls, reports_in, lost_after}
use Rattle.receiver.specs.declared.receiver_state.ReceiverState.{ReceiverState}
use Rattle.receiver.specs.declared.receiver_state.ReceiverState.TheVariants.{Inactive, Search, Decode}
use Rattle.receiver.specs.declared.receiver.Receiver.{Receiver}
use Rattle.decoding.specs.Meaning.{rules_of}
use Rattle.receiver.specs.Meaning.{settings_of, lost_of, state_of}

-- the state by its name
abbrev pub named : Phase → ReceiverState
named INACTIVE = Inactive
named (SEARCH count window) = Search
named (DECODE r) = Decode

-- the free slots of the queue that a call brings
abbrev pub free_in : Call → ℕ
free_in call_up = 0
free_in (call_down free) = free
free_in (call_symbols bits free) = free
free_in call_release = 0

module _ {X : Type 0} (hold : Ghosts X) where
  -- the reports that a call makes, put or lost
  abbrev pub reports_made : Receiver X → Call → List Report
  reports_made r call = reports_in (rules_of (settings_of r)) hold.showing (state_of hold r) call

  -- a receiver that was made over a hold that meant this and was then called so, the latest call first
  abbrev pub CameBy : Held → List Call → Receiver X → Type 0
  CameBy over calls r = state_of hold r ≡ after_calls (rules_of (settings_of r)) hold.showing over calls

  -- the receiver, and what its hold means, after a call
  pub record Called (call : Call) (before after : Receiver X) : Type 0 where
    pub state :
        state_of hold after ≡ after_call (rules_of (settings_of before)) hold.showing (state_of hold before) call
    pub settings : settings_of after ≡ settings_of before
    pub lost : lost_of after ≡ lost_after (free_in call) (lost_of before) (reports_made before call)
    pub came : (over : Held) (calls : List Call) → CameBy over calls before → CameBy over (call ∷ calls) after
