-- Enough idle brings a receiver back to SEARCH, whatever it received before. Assumes nothing.
use Rattle.std.specs.Prelude.{◌≡◌, ℕ, ◌≤◌, Bool, List}
use Rattle.hold.specs.Candidates.{Showing}
use Rattle.reception.specs.Decoding.{Settings, Held}
use Rattle.reception.specs.Rules.{Event, made}
use Rattle.reception.specs.Runs.{after_events, symbols_in, CarrierStaysUp, CarrierIsUp, Clear, idle, recovery_bits}

-- the carrier is up throughout; the idle may begin with either bit and be spread over events in any way
abbrev pub IdleBringsItBack : Settings → Showing → Type 0
IdleBringsItBack settings showing =
    (hold : Held) (earlier later : List Event) (first : Bool) (bits : ℕ) →
    let then = after_events settings showing (made hold) earlier in
    let back = after_events settings showing then later in
    CarrierIsUp then.phase → CarrierStaysUp later → symbols_in later ≡ idle first bits →
    recovery_bits settings.mode settings.limit ≤ bits →
    Clear back.phase back.held
