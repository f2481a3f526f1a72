-- A receiver that its owner has used for a while. Assumes nothing.
use Rattle.std.specs.Prelude.{◌≡◌, ℕ, ◌/◌, Bool, List, [], ◌∷◌, ◌++◌, take, drop}
use Rattle.hold.specs.declared.Hold.{Ghosts}
use Rattle.reception.specs.Decoding.{Held, added}
use Rattle.reception.specs.Rules.{Event, release}
use Rattle.reception.specs.Runs.{Clear, idle, recovery_bits}
use Rattle.reception.specs.Calls.{Call, symbol_events}
use Rattle.decoding.specs.Meaning.{rules_of}
use Rattle.receiver.specs.declared.receiver.Receiver.{Receiver}
use Rattle.receiver.specs.declared.receiver_state.ReceiverState.TheVariants.{Search}
use Rattle.receiver.specs.Meaning.{settings_of, held_by, state_of}
use Rattle.receiver.specs.Calls.{named, CameBy}

module _ {X : Type 0} (hold : Ghosts X) where
  -- it was made over some hold, and came to what it is by some calls
  pub record InUse (r : Receiver X) : Type 0 where
    pub over : Held
    pub calls : List Call
    pub came : CameBy hold over calls r

  -- `state` answers SEARCH and `open_codeblocks` 0, and nothing but idle is in the window, so that what is sent at once
  -- is received
  pub record BackInSearch (r : Receiver X) : Type 0 where
    pub state : named (state_of hold r).phase ≡ Search
    pub none_open : added (held_by hold r) ≡ 0
    pub clear : Clear (state_of hold r).phase (held_by hold r)
    pub in_use : InUse r

-- so many idle bits bring it back: `recovery_bits` answers this number by its settings
abbrev pub idle_needed : {X : Type 0} → Receiver X → ℕ
idle_needed r = recovery_bits (rules_of (settings_of r)).mode (rules_of (settings_of r)).limit

-- so many idle bits, with a release in their middle
abbrev pub idle_around_a_release : Bool → ℕ → List Event
idle_around_a_release first bits =
    symbol_events (take (bits / 2) (idle first bits))
    ++ ((release ∷ []) ++ symbol_events (drop (bits / 2) (idle first bits)))
