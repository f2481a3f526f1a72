-- What is sent to a receiver that is back in SEARCH comes in: each CLTU within the allowance adds its frame, in order.
-- Assumes nothing.
use Rattle.std.specs.Prelude.{◌≡◌, ℕ, ◌≤◌, ◌⊎◌, List, [], ◌∷◌, ◌++◌, map, length}
use Rattle.std.specs.Int.Digits.{AllBelowBase}
use Rattle.bch.specs.Bits.{bits_of}
use Rattle.randomizer.specs.declared.Randomizer.{Randomizer}
use Rattle.randomizer.specs.Sequence.{randomized}
use Rattle.cltu.specs.Cltu.{codeblocks_for, filled, cltu}
use Rattle.hold.specs.Candidates.{Showing, shown_from, Matches}
use Rattle.reception.specs.declared.Reason.TheVariants.{Closed}
use Rattle.reception.specs.declared.Report.{Report}
use Rattle.reception.specs.Decoding.{Settings, Held, room, report}
use Rattle.reception.specs.Rules.{State, Event, made}
use Rattle.reception.specs.Runs.{after_events, reports_of, symbols_in, CarrierStaysUp, Clear}
use Rattle.reception.specs.Allowance.{ReceivedCltu, symbols_of, wrong_in, WithinAllowance}
use Rattle.reception.specs.Finished.{new_candidates}
use Rattle.reception.specs.Gaps.{IdleOrNothing, CarrierBreak}

-- a CLTU that is sent: what lies between it and the one before, its frame, what is received of it, and the events that
-- bring it
pub record Transmission : Type 0 where
  pub gap : List Event
  pub frame : List ℕ
  pub received : ReceivedCltu
  pub events : List Event

abbrev pub information_sent : Randomizer → Transmission → List ℕ
information_sent randomizer t = randomized randomizer (filled t.frame)

-- what a hold with this showing makes of a frame as its sender randomized it
abbrev pub as_shown : Showing → Randomizer → List ℕ → List ℕ
as_shown showing randomizer frame = shown_from showing 0 (randomized randomizer (filled frame))

-- how it is reported: closed, with its codeblocks, and with as many corrections as bits of them arrived wrong
abbrev pub told_of : Randomizer → Transmission → Report
told_of randomizer t =
    report Closed (length t.received.blocks) (wrong_in (information_sent randomizer t) t.received.blocks)

abbrev pub events_of : List Transmission → List Event
events_of [] = []
events_of (t ∷ ts) = t.gap ++ (t.events ++ events_of ts)

module _ (settings : Settings) (showing : Showing) (randomizer : Randomizer) where
  -- undamaged or within the allowance, with free space for its codeblocks at its first bit
  pub record WellSent (s : State) (t : Transmission) : Type 0 where
    pub octets : AllBelowBase 256 t.frame
    pub carrier : CarrierStaysUp t.events
    pub symbols : symbols_in t.events ≡ symbols_of t.received
    pub within : WithinAllowance settings (information_sent randomizer t) t.received
    pub space : length t.received.blocks ≤ room s.held

  -- each follows the one before, with idle, a carrier break or nothing between
  abbrev pub FollowOneAnother : State → List Transmission → Type 0
  FollowOneAnother s [] = Unit {0}
  FollowOneAnother s (t ∷ ts) =
      (IdleOrNothing t.gap ⊎ CarrierBreak t.gap) × WellSent (after_events settings showing s t.gap) t
      × FollowOneAnother (after_events settings showing (after_events settings showing s t.gap) t.events) ts

  -- the first comes at once
  abbrev pub SentFrom : State → List Transmission → Type 0
  SentFrom s [] = Unit {0}
  SentFrom s (t ∷ ts) =
      (t.gap ≡ []) × WellSent s t × FollowOneAnother (after_events settings showing s t.events) ts

  -- the new candidates are the filled frames as they show; over a hold that matches the sender, the filled frames
  abbrev pub WhatIsSentThenIsReceived : Type 0
  WhatIsSentThenIsReceived =
      (hold : Held) (earlier : List Event) (sent : List Transmission) →
      let then = after_events settings showing (made hold) earlier in
      let last = after_events settings showing then (events_of sent) in
      Clear then.phase then.held → SentFrom then sent →
      Clear last.phase last.held
      × (new_candidates settings showing then (events_of sent) ≡ map (λ t. as_shown showing randomizer t.frame) sent)
      × (Matches showing randomizer →
      new_candidates settings showing then (events_of sent) ≡ map (λ t. filled t.frame) sent)

  -- idle behind the last of them, or a carrier break, brings nothing, and leaves it where more may be sent at once
  abbrev pub AGapBehindLeavesItClear : Type 0
  AGapBehindLeavesItClear =
      (hold : Held) (earlier gap : List Event) (first : Transmission) (more : List Transmission) →
      let then = after_events settings showing (made hold) earlier in
      let behind = after_events settings showing then (events_of (first ∷ more)) in
      let last = after_events settings showing behind gap in
      Clear then.phase then.held → SentFrom then (first ∷ more) → IdleOrNothing gap ⊎ CarrierBreak gap →
      Clear last.phase last.held
      × (new_candidates settings showing behind gap ≡ []) × (reports_of settings showing behind gap ≡ [])

  -- and nothing is reported but each of these CLTUs, in order
  abbrev pub WhatIsReceivedIsReported : Type 0
  WhatIsReceivedIsReported =
      (hold : Held) (earlier : List Event) (sent : List Transmission) →
      let then = after_events settings showing (made hold) earlier in
      Clear then.phase then.held → SentFrom then sent →
      reports_of settings showing then (events_of sent) ≡ map (told_of randomizer) sent

  -- a frame that has space and whose CLTU is received as it was sent comes out again: itself and its fill, no more
  abbrev pub UndamagedComesBack : Type 0
  UndamagedComesBack =
      (hold : Held) (earlier later : List Event) (frame : List ℕ) →
      let then = after_events settings showing (made hold) earlier in
      Clear then.phase then.held → AllBelowBase 256 frame → 1 ≤ length frame →
      codeblocks_for (length frame) ≤ settings.limit → codeblocks_for (length frame) ≤ room then.held →
      CarrierStaysUp later → symbols_in later ≡ bits_of (cltu randomizer frame) → Matches showing randomizer →
      new_candidates settings showing then later ≡ filled frame ∷ []
