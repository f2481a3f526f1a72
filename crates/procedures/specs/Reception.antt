-- Stretches as a receiver takes them whose carrier is up for each. Assumes nothing.
use Rattle.std.specs.Prelude.{◌≡◌, ℕ, ◌+◌, ◌≤◌, Bool, true, false, List, [], ◌∷◌, ◌++◌, map, length, drop, Some, None, Option}
use Rattle.std.specs.Int.Digits.{AllBelowBase}
use Rattle.std.specs.List.{flat_map, AllByRecursion}
use Rattle.bch.specs.Bits.{bits_of}
use Rattle.randomizer.specs.declared.Randomizer.{Randomizer}
use Rattle.cltu.specs.Cltu.{codeblocks_for, filled}
use Rattle.hold.specs.Candidates.{Showing, Matches}
use Rattle.reception.specs.Calls.{symbol_events}
use Rattle.reception.specs.Decoding.{Settings, Held, room}
use Rattle.reception.specs.Rules.{INACTIVE, State, Event, carrier_up, carrier_down, symbol, made}
use Rattle.reception.specs.Runs.{after_events, symbols_in, CarrierStaysUp, Clear}
use Rattle.reception.specs.Allowance.{undamaged, symbols_of}
use Rattle.reception.specs.Finished.{new_candidates, releases_accepted}
use Rattle.reception.specs.Gaps.{IdleOrNothing, CarrierStaysDown}
use Rattle.reception.specs.Sent.{as_shown, Transmission, events_of}
use Rattle.procedures.specs.Stretch.{Parameters, Writing, stretch_octets, frames_in}
use Rattle.procedures.specs.Signals.{bit, SentStretch, Stretches, frames_on, PlacedCltu, signals_on, cltus_on, heard, up_after}

-- the CLTUs of these frames as they were sent, with idle or nothing before each
abbrev pub SentUndamaged : Randomizer → List (List ℕ) → List Transmission → Type 0
SentUndamaged randomizer [] [] = Unit {0}
SentUndamaged randomizer [] (t ∷ ts) = ⊥
SentUndamaged randomizer (frame ∷ frames) [] = ⊥
SentUndamaged randomizer (frame ∷ frames) (t ∷ ts) =
    IdleOrNothing t.gap × (t.frame ≡ frame) × (t.received ≡ undamaged randomizer frame) × CarrierStaysUp t.events
    × (symbols_in t.events ≡ symbols_of t.received) × SentUndamaged randomizer frames ts

-- events are such CLTUs, with idle or nothing behind the last
pub record CltusWithIdleBetween (randomizer : Randomizer) (frames : List (List ℕ)) (events : List Event) : Type 0 where
  pub sent : List Transmission
  pub behind : List Event
  pub whole : events ≡ events_of sent ++ behind
  pub undamaged : SentUndamaged randomizer frames sent
  pub idle : IdleOrNothing behind

-- however the symbols are spread over calls, and whatever is released between them
abbrev pub AStretchIsCltusWithIdleBetween : Type 0
AStretchIsCltusWithIdleBetween =
    (parameters : Parameters) (acquisition : ℕ) (writings : List Writing) (events : List Event) →
    CarrierStaysUp events → symbols_in events ≡ bits_of (stretch_octets parameters acquisition writings) →
    CltusWithIdleBetween parameters.randomizer (frames_in writings) events

-- every frame has octets, and no more codeblocks than the limit
abbrev pub FramesWithin : (limit : ℕ) → List (List ℕ) → Type 0
FramesWithin limit [] = Unit {0}
FramesWithin limit (frame ∷ frames) =
    AllBelowBase 256 frame × (1 ≤ length frame) × (codeblocks_for (length frame) ≤ limit) × FramesWithin limit frames

-- a receiver that allows as many codeblocks as the sender, or more, allows its frames
abbrev pub AHigherLimitTakesTheSameFrames : Type 0
AHigherLimitTakesTheSameFrames =
    (limit higher : ℕ) (frames : List (List ℕ)) →
    limit ≤ higher → FramesWithin limit frames → FramesWithin higher frames

abbrev pub codeblocks_of : List (List ℕ) → ℕ
codeblocks_of [] = 0
codeblocks_of (frame ∷ frames) = codeblocks_for (length frame) + codeblocks_of frames

-- a stretch as it comes: its acquisition, what is written behind it, the events that bring both, and what happens from
-- the break on
pub record ReceivedStretch : Type 0 where
  pub acquisition : ℕ
  pub writings : List Writing
  pub during : List Event
  pub away : List Event

abbrev pub events_of_stretch : ReceivedStretch → List Event
events_of_stretch one = carrier_up ∷ (one.during ++ (carrier_down ∷ one.away))

-- undamaged, with the carrier up for each and down between them
abbrev pub BroughtUndamaged : Parameters → List ReceivedStretch → Type 0
BroughtUndamaged parameters [] = Unit {0}
BroughtUndamaged parameters (one ∷ more) =
    CarrierStaysUp one.during
    × (symbols_in one.during ≡ bits_of (stretch_octets parameters one.acquisition one.writings))
    × CarrierStaysDown one.away × BroughtUndamaged parameters more

abbrev pub frames_of : List ReceivedStretch → List (List ℕ)
frames_of stretches = flat_map (λ one. frames_in one.writings) stretches

-- the stretches that they are
abbrev pub as_sent : List ReceivedStretch → Stretches
as_sent stretches =
    record {
      closed = map (λ one. record { acquisition = one.acquisition; writings = one.writings }) stretches;
      opened = None;
    }

-- one stretch that is open
abbrev pub one_open : (acquisition : ℕ) → List Writing → Stretches
one_open acquisition writings =
    record { closed = []; opened = Some (record { acquisition = acquisition; writings = writings }) }

module _ (settings : Settings) (showing : Showing) where
  -- the new candidates of a run are these frames, filled, as the session randomized them and the hold shows them; over
  -- a hold that matches, the filled frames
  pub record Adds (randomizer : Randomizer) (frames : List (List ℕ)) (s : State) (events : List Event) : Type 0 where
    pub shown : new_candidates settings showing s events ≡ map (λ frame. as_shown showing randomizer frame) frames
    pub filled_frames : Matches showing randomizer → new_candidates settings showing s events ≡ map filled frames
    -- they are added behind what was finished, less one from the front for each accepted release
    pub added :
        (after_events settings showing s events).held.finished
        ≡ drop (releases_accepted settings showing s events)
        (s.held.finished ++ new_candidates settings showing s events)

  -- at the first bit of a CLTU the hold has free space for it. That the frames before it were added, and that no
  -- candidate is open, may be used to show it
  abbrev pub SpaceAt : Randomizer → State → List Event → PlacedCltu → Type 0
  SpaceAt randomizer s events one =
      (before after : List Event) (b : Bool) → events ≡ before ++ (symbol b ∷ after) → heard false before ≡ one.before →
      let here = after_events settings showing s before in
      Clear here.phase here.held → Adds randomizer one.earlier s before →
      codeblocks_for (length one.frame) ≤ room here.held

  abbrev pub SpaceInTime : Parameters → State → List Event → Stretches → Type 0
  SpaceInTime parameters s events on = AllByRecursion (SpaceAt parameters.randomizer s events) (cltus_on parameters on)

  -- where no stretch is open the receiver is INACTIVE, in an open one it is in SEARCH with no candidate open
  abbrev pub EndsIn : Option SentStretch → State → Type 0
  EndsIn None s = s.phase ≡ INACTIVE
  EndsIn (Some one) s = Clear s.phase s.held

  -- a receiver that is INACTIVE and hears stretches, and whose hold has space in time, adds exactly their frames,
  -- whatever calls it refuses and whatever is released on the way
  abbrev pub WhatIsHeardInTimeIsReceived : Type 0
  WhatIsHeardInTimeIsReceived =
      (parameters : Parameters) (on : Stretches) (hold : Held) (earlier events : List Event) →
      let then = after_events settings showing (made hold) earlier in
      then.phase ≡ INACTIVE → heard false events ≡ signals_on parameters on →
      FramesWithin settings.limit (frames_on on) → SpaceInTime parameters then events on →
      EndsIn on.opened (after_events settings showing then events)
      × Adds parameters.randomizer (frames_on on) then events

  -- space for all of them before the first is enough
  abbrev pub SpaceForAllIsSpaceInTime : Type 0
  SpaceForAllIsSpaceInTime =
      (parameters : Parameters) (on : Stretches) (hold : Held) (earlier events : List Event) →
      let then = after_events settings showing (made hold) earlier in
      then.phase ≡ INACTIVE → codeblocks_of (frames_on on) ≤ room then.held → SpaceInTime parameters then events on

  -- and so is space that is seen behind events that brought all that is before a CLTU: until its first bit it can only
  -- grow
  abbrev pub SpaceSeenIsSpaceAt : Type 0
  SpaceSeenIsSpaceAt =
      (randomizer : Randomizer) (s : State) (first rest : List Event) (one : PlacedCltu) →
      heard false first ≡ one.before → up_after false first ≡ true →
      codeblocks_for (length one.frame) ≤ room (after_events settings showing s first).held →
      SpaceAt randomizer s (first ++ rest) one

  -- free space is what the finished candidates leave of it, where none is open
  abbrev pub TheCapacityStays : Type 0
  TheCapacityStays =
      (s : State) (events : List Event) → (after_events settings showing s events).held.capacity ≡ s.held.capacity

  -- a receiver that is INACTIVE when the carrier goes up, and whose hold has space in time, adds exactly the frames of
  -- the stretch, and is in SEARCH with no candidate open at its end
  abbrev pub AStretchInTimeIsReceived : Type 0
  AStretchInTimeIsReceived =
      (parameters : Parameters) (acquisition : ℕ) (writings : List Writing) (hold : Held) (earlier later : List Event) →
      let then = after_events settings showing (made hold) earlier in
      let last = after_events settings showing then (carrier_up ∷ later) in
      then.phase ≡ INACTIVE → CarrierStaysUp later →
      symbols_in later ≡ bits_of (stretch_octets parameters acquisition writings) →
      FramesWithin settings.limit (frames_in writings) →
      SpaceInTime parameters then (carrier_up ∷ later) (one_open acquisition writings) →
      Clear last.phase last.held × Adds parameters.randomizer (frames_in writings) then (carrier_up ∷ later)

  -- the same where the hold has space for every frame when the carrier goes up
  abbrev pub AStretchIsReceived : Type 0
  AStretchIsReceived =
      (parameters : Parameters) (acquisition : ℕ) (writings : List Writing) (hold : Held) (earlier later : List Event) →
      let then = after_events settings showing (made hold) earlier in
      let last = after_events settings showing then (carrier_up ∷ later) in
      then.phase ≡ INACTIVE → CarrierStaysUp later →
      symbols_in later ≡ bits_of (stretch_octets parameters acquisition writings) →
      FramesWithin settings.limit (frames_in writings) → codeblocks_of (frames_in writings) ≤ room then.held →
      Clear last.phase last.held × Adds parameters.randomizer (frames_in writings) then (carrier_up ∷ later)

  -- so does one that is INACTIVE before a whole session, and it is INACTIVE again behind it
  abbrev pub ASessionInTimeIsReceived : Type 0
  ASessionInTimeIsReceived =
      (parameters : Parameters) (stretches : List ReceivedStretch) (hold : Held) (earlier : List Event) →
      let then = after_events settings showing (made hold) earlier in
      let events = flat_map events_of_stretch stretches in
      then.phase ≡ INACTIVE → BroughtUndamaged parameters stretches →
      FramesWithin settings.limit (frames_of stretches) → SpaceInTime parameters then events (as_sent stretches) →
      ((after_events settings showing then events).phase ≡ INACTIVE)
      × Adds parameters.randomizer (frames_of stretches) then events

  -- the same where the hold has space for every frame of the session before it
  abbrev pub ASessionIsReceived : Type 0
  ASessionIsReceived =
      (parameters : Parameters) (stretches : List ReceivedStretch) (hold : Held) (earlier : List Event) →
      let then = after_events settings showing (made hold) earlier in
      let events = flat_map events_of_stretch stretches in
      then.phase ≡ INACTIVE → BroughtUndamaged parameters stretches →
      FramesWithin settings.limit (frames_of stretches) → codeblocks_of (frames_of stretches) ≤ room then.held →
      ((after_events settings showing then events).phase ≡ INACTIVE)
      × Adds parameters.randomizer (frames_of stretches) then events

-- what is heard by events, one list of them behind the other, and by symbols with the carrier up
abbrev pub HeardOneBehindTheOther : Type 0
HeardOneBehindTheOther =
    (up : Bool) (es fs : List Event) → heard up (es ++ fs) ≡ heard up es ++ heard (up_after up es) fs

abbrev pub UpBehindBoth : Type 0
UpBehindBoth = (up : Bool) (es fs : List Event) → up_after up (es ++ fs) ≡ up_after (up_after up es) fs

abbrev pub SymbolsAreHeard : Type 0
SymbolsAreHeard =
    (bits : List Bool) → (heard true (symbol_events bits) ≡ map bit bits) × (up_after true (symbol_events bits) ≡ true)

-- what is promised of every receiver, hold and kind of showing
pub record SessionPromise : Type 0 where
  pub cltus : AStretchIsCltusWithIdleBetween
  pub stretch : (settings : Settings) (showing : Showing) → AStretchIsReceived settings showing
  pub stretch_in_time : (settings : Settings) (showing : Showing) → AStretchInTimeIsReceived settings showing
  pub session : (settings : Settings) (showing : Showing) → ASessionIsReceived settings showing
  pub session_in_time : (settings : Settings) (showing : Showing) → ASessionInTimeIsReceived settings showing
  pub heard_in_time : (settings : Settings) (showing : Showing) → WhatIsHeardInTimeIsReceived settings showing
  pub space_for_all : (settings : Settings) (showing : Showing) → SpaceForAllIsSpaceInTime settings showing
  pub space_seen : (settings : Settings) (showing : Showing) → SpaceSeenIsSpaceAt settings showing
  pub capacity : (settings : Settings) (showing : Showing) → TheCapacityStays settings showing
  pub higher_limit : AHigherLimitTakesTheSameFrames
  pub heard_together : HeardOneBehindTheOther
  pub up_together : UpBehindBoth
  pub heard_symbols : SymbolsAreHeard
