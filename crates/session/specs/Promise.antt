-- What any list of calls puts on the carrier, and what a receiver makes of it. Assumes nothing.
use Rattle.std.specs.Prelude.{◌≡◌, ℕ, ◌≤◌, Bool, true, false, List, [], ◌∷◌, ◌++◌, length, is_some, IfSome}
use Rattle.std.specs.List.{AllByRecursion}
use Rattle.hold.specs.Candidates.{Showing}
use Rattle.reception.specs.Decoding.{Settings as ReceiverSettings, Held, room}
use Rattle.reception.specs.Rules.{INACTIVE, State, Event, made}
use Rattle.reception.specs.Runs.{after_events, Clear}
use Rattle.procedures.specs.declared.Plop.TheVariants.{One}
use Rattle.procedures.specs.Stretch.{frames_in}
use Rattle.procedures.specs.Signals.{SentStretch, Stretches, frames_on, signals_on, cltus_on, heard}
use Rattle.procedures.specs.Reception.{FramesWithin, codeblocks_of, Adds, SpaceAt}
use Rattle.session.specs.declared.Settings.{Settings}
use Rattle.session.specs.Writing.{limit_of, parameters_of}
use Rattle.session.specs.declared.Silent.{Silent}
use Rattle.session.specs.Machine.{Call, FrameMemoryOfOctets, bears_data, signals_between, standing_after, signals_of_calls, frames_of_calls, cltus_behind, cltus_of_calls, Session, silent_session, IsStep, StandsAfter}

-- a step behind earlier calls is the latest of the calls: what it puts on the carrier comes behind what they put there
pub record GoesOnBehind
    (earlier : List Call) (before : Session) (call : Call) (after : Session)
    (written : List ℕ) (frames : List (List ℕ)) : Type 0 where
  pub stands : StandsAfter (call ∷ earlier) after
  pub settings : after.settings ≡ before.settings
  pub signals :
      signals_of_calls after.settings (call ∷ earlier)
      ≡ signals_of_calls before.settings earlier ++ signals_between before.standing written after.standing
  pub its_frames : frames_of_calls after.settings (call ∷ earlier) ≡ frames_of_calls before.settings earlier ++ frames
  pub cltus :
      cltus_of_calls after.settings (call ∷ earlier)
      ≡ cltus_of_calls before.settings earlier ++ cltus_behind before.settings earlier frames

abbrev pub AStepGoesOn : Type 0
AStepGoesOn =
    (earlier : List Call) (before : Session) (call : Call) (after : Session)
    (written : List ℕ) (frames : List (List ℕ)) →
    StandsAfter earlier before → IsStep before call after written frames →
    GoesOnBehind earlier before call after written frames

-- an acquisition of 16 to 255 octets, frames within the session's limit, and in PLOP-1 one at most
pub record InOrder (settings : Settings) (one : SentStretch) : Type 0 where
  pub least : 16 ≤ one.acquisition
  pub most : one.acquisition ≤ 255
  pub frames : FramesWithin (limit_of settings) (frames_in one.writings)
  pub alone : settings.plop ≡ One → length (frames_in one.writings) ≤ 1

-- what calls put on the carrier is stretches, one behind the other, and nothing outside of them. The last is open just
-- where the session's carrier bears data
pub record AreStretches (settings : Settings) (calls : List Call) : Type 0 where
  pub on : Stretches
  pub signals : signals_of_calls settings calls ≡ signals_on (parameters_of settings) on
  pub frames : frames_of_calls settings calls ≡ frames_on on
  pub cltus : cltus_of_calls settings calls ≡ cltus_on (parameters_of settings) on
  pub closed : AllByRecursion (InOrder settings) on.closed
  pub opened : IfSome on.opened (λ one. InOrder settings one)
  pub last : is_some on.opened ≡ bears_data (standing_after settings calls)

abbrev pub AnyCallsAreStretches : Type 0
AnyCallsAreStretches =
    (settings : Settings) (calls : List Call) → AllByRecursion FrameMemoryOfOctets calls → AreStretches settings calls

-- and the frames are within the limit of each receiver whose limit is no less than the session's
abbrev pub FramesOfCallsAreWithin : Type 0
FramesOfCallsAreWithin =
    (settings : Settings) (calls : List Call) (limit : ℕ) → AllByRecursion FrameMemoryOfOctets calls →
    limit_of settings ≤ limit → FramesWithin limit (frames_of_calls settings calls)

-- with a stretch open at the end a receiver is in SEARCH with no candidate open, else it is INACTIVE
abbrev pub EndsUp : Bool → State → Type 0
EndsUp true s = Clear s.phase s.held
EndsUp false s = s.phase ≡ INACTIVE

module _ (receiver : ReceiverSettings) (showing : Showing) where
  -- a receiver that is INACTIVE and hears what the calls put on the carrier, and whose hold has space at the first bit
  -- of each CLTU, adds exactly the frames of the calls, in order
  abbrev pub AnyCallsInTimeAreReceived : Type 0
  AnyCallsInTimeAreReceived =
      (settings : Settings) (calls : List Call) (hold : Held) (earlier events : List Event) →
      let randomizer = settings.sender.randomizer in
      let then = after_events receiver showing (made hold) earlier in
      AllByRecursion FrameMemoryOfOctets calls → then.phase ≡ INACTIVE →
      heard false events ≡ signals_of_calls settings calls →
      FramesWithin receiver.limit (frames_of_calls settings calls) →
      AllByRecursion (SpaceAt receiver showing randomizer then events) (cltus_of_calls settings calls) →
      EndsUp (bears_data (standing_after settings calls)) (after_events receiver showing then events)
      × Adds receiver showing randomizer (frames_of_calls settings calls) then events

  -- the same where the hold has space for all of them before the first
  abbrev pub AnyCallsAreReceived : Type 0
  AnyCallsAreReceived =
      (settings : Settings) (calls : List Call) (hold : Held) (earlier events : List Event) →
      let then = after_events receiver showing (made hold) earlier in
      AllByRecursion FrameMemoryOfOctets calls → then.phase ≡ INACTIVE →
      heard false events ≡ signals_of_calls settings calls →
      FramesWithin receiver.limit (frames_of_calls settings calls) →
      codeblocks_of (frames_of_calls settings calls) ≤ room then.held →
      EndsUp (bears_data (standing_after settings calls)) (after_events receiver showing then events)
      × Adds receiver showing settings.sender.randomizer (frames_of_calls settings calls) then events

pub record CallsPromise : Type 0 where
  pub begins : (silent : Silent) → StandsAfter [] (silent_session silent)
  pub goes_on : AStepGoesOn
  pub stretches : AnyCallsAreStretches
  pub within : FramesOfCallsAreWithin
  pub received : (receiver : ReceiverSettings) (showing : Showing) → AnyCallsAreReceived receiver showing
  pub received_in_time : (receiver : ReceiverSettings) (showing : Showing) → AnyCallsInTimeAreReceived receiver showing
