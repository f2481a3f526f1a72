-- What may lie between two commands: nothing, idle, or a break of the carrier. Assumes nothing.
use Rattle.std.specs.Prelude.{◌≡◌, ℕ, Bool, List, [], ◌∷◌, ◌++◌}
use Rattle.hold.specs.Candidates.{Showing}
use Rattle.reception.specs.Decoding.{Settings, Held}
use Rattle.reception.specs.Rules.{INACTIVE, Event, carrier_up, carrier_down, symbol, release, made}
use Rattle.reception.specs.Runs.{after_events, symbols_in, CarrierStaysUp, Clear, idle}

-- symbols of idle or none, with the carrier up
abbrev pub IdleOrNothing : List Event → Type 0
IdleOrNothing es = CarrierStaysUp es × ((first : Bool) × (bits : ℕ) × (symbols_in es ≡ idle first bits))

abbrev pub CarrierStaysDown : List Event → Type 0
CarrierStaysDown [] = Unit {0}
CarrierStaysDown (carrier_up ∷ es) = ⊥
CarrierStaysDown (carrier_down ∷ es) = CarrierStaysDown es
CarrierStaysDown (symbol b ∷ es) = CarrierStaysDown es
CarrierStaysDown (release ∷ es) = CarrierStaysDown es

-- the carrier goes down and later up again; idle may come on either side
pub record CarrierBreak (es : List Event) : Type 0 where
  pub before : List Event
  pub away : List Event
  pub behind : List Event
  pub whole : es ≡ before ++ (carrier_down ∷ (away ++ (carrier_up ∷ behind)))
  pub idle_before_it : IdleOrNothing before
  pub stays_down : CarrierStaysDown away
  pub idle_behind_it : IdleOrNothing behind

-- from carrier up on, idle of any length or none leaves the receiver where what is sent then is received
abbrev pub CarrierUpMakesItReady : Settings → Showing → Type 0
CarrierUpMakesItReady settings showing =
    (hold : Held) (earlier later : List Event) →
    let then = after_events settings showing (made hold) earlier in
    let ready = after_events settings showing then (carrier_up ∷ later) in
    then.phase ≡ INACTIVE → IdleOrNothing later → Clear ready.phase ready.held
