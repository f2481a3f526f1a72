-- Runs of the rules over lists of events, and the words in which the promise speaks of them. Assumes nothing.
use Rattle.std.specs.Prelude.{◌≡◌, ℕ, zero, suc, ◌+◌, ◌*◌, ◌%◌, ◌^◌, ◌≤◌, Bool, true, false, not, List, [], ◌∷◌, ◌++◌, None}
use Rattle.bch.specs.declared.Mode.{Mode}
use Rattle.bch.specs.declared.Mode.TheVariants.{Detecting, Correcting}
use Rattle.hold.specs.Candidates.{Showing}
use Rattle.reception.specs.declared.Report.{Report}
use Rattle.reception.specs.Decoding.{Settings, Held}
use Rattle.reception.specs.Rules.{State, Event, carrier_up, carrier_down, symbol, release, Phase, INACTIVE, SEARCH, DECODE, at_event}

module _ (settings : Settings) (showing : Showing) where
  -- the state after a list of events, and the reports that it makes, in order
  abbrev pub after_events : State → List Event → State
  after_events s [] = s
  after_events s (e ∷ es) = after_events (at_event settings showing s e).after es

  abbrev pub reports_of : State → List Event → List Report
  reports_of s [] = []
  reports_of s (e ∷ es) = (at_event settings showing s e).reports ++ reports_of (at_event settings showing s e).after es

-- the symbols among events, and that the carrier is not lowered
abbrev pub symbols_in : List Event → List Bool
symbols_in [] = []
symbols_in (carrier_up ∷ es) = symbols_in es
symbols_in (carrier_down ∷ es) = symbols_in es
symbols_in (symbol b ∷ es) = b ∷ symbols_in es
symbols_in (release ∷ es) = symbols_in es

abbrev pub CarrierStaysUp : List Event → Type 0
CarrierStaysUp [] = Unit {0}
CarrierStaysUp (carrier_up ∷ es) = CarrierStaysUp es
CarrierStaysUp (carrier_down ∷ es) = ⊥
CarrierStaysUp (symbol b ∷ es) = CarrierStaysUp es
CarrierStaysUp (release ∷ es) = CarrierStaysUp es

-- so many bits of idle: `first`, its opposite, `first` again and so on
abbrev pub idle : Bool → ℕ → List Bool
idle first zero = []
idle first (suc n) = first ∷ idle (not first) n

-- how many idle bits bring a receiver back to SEARCH
abbrev pub recovery_bits : Mode → (limit : ℕ) → ℕ
recovery_bits Correcting limit = 64 * limit + 67
recovery_bits Detecting limit = 127

-- sixteen idle bits before this one
abbrev pub idle_before : Bool → ℕ
idle_before true = 0xAAAA
idle_before false = 0x5555

-- in the window nothing but idle, which may go on with the bit `next`, or nothing at all
abbrev pub NothingButIdle : (next : Bool) (count window : ℕ) → Type 0
NothingButIdle next count window = (count ≤ 16) × (window % 2 ^ count ≡ idle_before next % 2 ^ count)

-- in SEARCH with no candidate open, and nothing but idle in the window
abbrev pub Clear : Phase → Held → Type 0
Clear INACTIVE h = ⊥
Clear (SEARCH count window) h = (h.opened ≡ None) × ((next : Bool) × NothingButIdle next count window)
Clear (DECODE r) h = ⊥

abbrev pub CarrierIsUp : Phase → Type 0
CarrierIsUp INACTIVE = ⊥
CarrierIsUp (SEARCH count window) = Unit {0}
CarrierIsUp (DECODE r) = Unit {0}
