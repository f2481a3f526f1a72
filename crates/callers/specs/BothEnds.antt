-- Two frames from a session in PLOP-2 to a receiver. Assumes nothing.
use Rattle.std.specs.Prelude.{◌≡◌, ℕ, ◌+◌, ◌≤◌, List, [], ◌∷◌, ◌++◌, length, take, drop, cond, nat_lt, Ok, Err, Result}
use Rattle.refusals.specs.declared.Refusal.{Refusal}
use Rattle.refusals.specs.declared.Refusal.TheVariants.{FrameLength, MemoryTooShort}
use Rattle.cltu.specs.Limit.{limit_answer}
use Rattle.cltu.specs.Writing.{frame_refused}
use Rattle.bch.specs.Bits.{bits_of}
use Rattle.reception.specs.Rules.{Event, carrier_up}
use Rattle.reception.specs.Calls.{symbol_events}
use Rattle.hold.specs.declared.Hold.{Ghosts}
use Rattle.hold.specs.Candidates.{Matches}
use Rattle.reception.specs.Decoding.{room}
use Rattle.decoding.specs.Meaning.{rules_of}
use Rattle.receiver.specs.declared.receiver.Receiver.{Receiver}
use Rattle.receiver.specs.Meaning.{settings_of, held_by}
use Rattle.procedures.specs.declared.Plop.TheVariants.{Two}
use Rattle.procedures.specs.Stretch.{Parameters, sent_octets, Writing, sends, idles, stretch_octets}
use Rattle.procedures.specs.Reception.{FramesWithin, codeblocks_of}
use Rattle.session.specs.declared.Locked.{Locked}
use Rattle.session.specs.Writing.{limit_of, parameters_of, idle_answer, GoesOn}
use Rattle.callers.specs.declared.both_ends.SenderSettings.{SenderSettings}

abbrev pub parameters : SenderSettings → Parameters
parameters sender = record { plop = Two; randomizer = sender.randomizer; idle = sender.idle }

-- the frames, with no idle behind each but what the procedure writes
abbrev pub two_frames : (first second : List ℕ) → List Writing
two_frames first second = sends first ∷ idles 0 ∷ sends second ∷ idles 0 ∷ []

-- the stretch of an acquisition and both frames
abbrev pub two_octets : SenderSettings → (acquisition : ℕ) → (first second : List ℕ) → List ℕ
two_octets sender acquisition first second = stretch_octets (parameters sender) acquisition (two_frames first second)

-- so many octets in front of the memory are that stretch, and the frames are within the sender's limit
pub record IsStretchInFront
    (sender : SenderSettings) (acquisition : ℕ) (first second now : List ℕ) (octets : ℕ) : Type 0 where
  pub within : octets ≤ length now
  pub written : take octets now ≡ two_octets sender acquisition first second
  pub fit : FramesWithin sender.«limit» (first ∷ second ∷ [])

-- the carrier goes up, and these octets are heard
abbrev pub raised_for : List ℕ → List Event
raised_for octets = (carrier_up ∷ []) ++ symbol_events (bits_of octets)

-- a frame that was written in front of the memory, behind what the session wrote before
pub record SentInFront (before : Locked) (frame memory now : List ℕ) (after : Locked) (count : ℕ) : Type 0 where
  pub same : after.settings ≡ before.settings
  pub within : count ≤ length memory
  pub goes_on : GoesOn before.settings (sends frame ∷ idles 0 ∷ []) (take count now)
  pub rest : drop count now ≡ drop count memory
  pub fits : FramesWithin (limit_of before.settings) (frame ∷ [])

-- and one behind so many octets that were a stretch: these and it are a stretch
pub record SentBehind
    (before : Locked) (frame : List ℕ) (written : ℕ) (memory now : List ℕ) (after : Locked) (count : ℕ) : Type 0 where
  pub same : after.settings ≡ before.settings
  pub further : written ≤ count
  pub within : count ≤ length now
  pub stretch : (acquisition : ℕ) (earlier : List Writing) →
      take written memory ≡ stretch_octets (parameters_of before.settings) acquisition earlier →
      take count now
      ≡ stretch_octets (parameters_of before.settings) acquisition (earlier ++ sends frame ∷ idles 0 ∷ [])
  pub rest : drop count now ≡ drop count memory
  pub fits : FramesWithin (limit_of before.settings) (frame ∷ [])

-- a receiver that takes as many codeblocks as the sender sends, over a hold that matches it and has space for both
-- frames
pub record FitsTheSender
    {X : Type 0} (hold : Ghosts X) (r : Receiver X) (sender : SenderSettings) (first second : List ℕ) : Type 0 where
  pub matches : Matches hold.showing sender.randomizer
  pub limits : sender.«limit» ≤ (rules_of (settings_of r)).limit
  pub space : codeblocks_of (first ∷ second ∷ []) ≤ room (held_by hold r)

-- two answers, one behind the other: the first refusal, or what the second counts behind the first
abbrev pub and_then : Result ℕ Refusal → (ℕ → Result ℕ Refusal) → Result ℕ Refusal
and_then (Ok count) next = next count
and_then (Err why) next = Err why

-- a frame behind so many octets of memory that has so many: how many they are with its CLTU and the idle octet behind
abbrev pub frame_answer : (limit : ℕ) → Parameters → (memory : ℕ) → List ℕ → (written : ℕ) → Result ℕ Refusal
frame_answer limit settings memory frame written =
    cond (frame_refused limit (length frame)) (Err FrameLength)
    (cond (nat_lt memory (written + length (sent_octets settings frame))) (Err MemoryTooShort)
    (Ok (written + length (sent_octets settings frame))))

-- how many octets are written after a call: what it counts, or where it is refused as many as before
abbrev pub octets_after : (before : ℕ) → Result ℕ Refusal → ℕ
octets_after before (Ok count) = count
octets_after before (Err why) = before

-- what the session's calls answer, each behind the ones before
module _ (sender : SenderSettings) (acquisition : ℕ) (first second memory : List ℕ) where
  -- its making and the acquisition
  abbrev pub acquisition_answer : Result ℕ Refusal
  acquisition_answer = and_then (limit_answer sender.«limit») (λ _. idle_answer 16 255 acquisition memory)

  abbrev pub first_answer : Result ℕ Refusal
  first_answer = and_then acquisition_answer (frame_answer sender.«limit» (parameters sender) (length memory) first)

  abbrev pub two_answer : Result ℕ Refusal
  two_answer = and_then first_answer (frame_answer sender.«limit» (parameters sender) (length memory) second)

  -- how many octets are written by those of them that are not refused
  abbrev pub octets_written : ℕ
  octets_written = octets_after (octets_after (octets_after 0 acquisition_answer) first_answer) two_answer

  -- that many octets of the stretch in front of the memory, and the rest as it was
  abbrev pub memory_after_two : List ℕ
  memory_after_two = take octets_written (two_octets sender acquisition first second) ++ drop octets_written memory

-- what a call counts that also answers where the session is
abbrev pub counted : Result (Locked × ℕ) Refusal → Result ℕ Refusal
counted (Ok done) = Ok done.1
counted (Err why) = Err why
