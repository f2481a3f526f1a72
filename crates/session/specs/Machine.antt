-- The calls of a session as a machine: where a session stands after any list of calls, and what they put on the
-- carrier. A call that is refused, and one that the session does not have where it stands, changes nothing and writes
-- nothing. Assumes nothing.
use Rattle.std.specs.Prelude.{◌≡◌, ℕ, Bool, true, false, List, [], ◌∷◌, ◌++◌, map, Ok, Err, Result}
use Rattle.std.specs.Int.Digits.{AllBelowBase}
use Rattle.std.specs.List.{AllByRecursion}
use Rattle.refusals.specs.declared.Refusal.{Refusal}
use Rattle.procedures.specs.declared.Plop.{Plop}
use Rattle.procedures.specs.declared.Plop.TheVariants.{One, Two}
use Rattle.procedures.specs.Stretch.{repeated, frames_in}
use Rattle.procedures.specs.Signals.{Signal, goes_up, goes_down, signals_of_octets, PlacedCltu}
use Rattle.session.specs.declared.FrameSpan.{FrameSpan}
use Rattle.session.specs.declared.Job.{Job}
use Rattle.session.specs.declared.Settings.{Settings}
use Rattle.session.specs.declared.Silent.{Silent}
use Rattle.session.specs.declared.Carrier.{Carrier}
use Rattle.session.specs.declared.Locked.{Locked}
use Rattle.session.specs.declared.Sent.{Sent}
use Rattle.session.specs.declared.AfterSending.{AfterSending}
use Rattle.session.specs.declared.AfterSending.TheVariants.{Sent as now_sent, Locked as still_locked}
use Rattle.session.specs.Writing.{idle_answer, job_octets, job_answer, writings_of}
use Rattle.session.specs.Calls.{only_frame, next_octets, next_answer, next_writings}

-- where a session stands: its carrier is down, is up and bears no data, bears data and may bear a CLTU more, or may not
pub data Standing : Type 0 where
  silent : Standing
  carrier : Standing
  locked : Standing
  sent : Standing

-- a call, with what it brings: octets asked for, jobs that wait, the frame memory, and the memory to write in
pub data Call : Type 0 where
  call_raise : Call
  call_lower : Call
  call_acquire : (octets : ℕ) (memory : List ℕ) → Call
  call_idle : (octets : ℕ) (memory : List ℕ) → Call
  call_send : (frames : List ℕ) (frame : FrameSpan) (memory : List ℕ) → Call
  call_run_next : (jobs : List Job) (frames : List ℕ) (memory : List ℕ) → Call
  call_break : Call

-- the frame memory has octets, as every memory of a program has
abbrev pub FrameMemoryOfOctets : Call → Type 0
FrameMemoryOfOctets call_raise = Unit {0}
FrameMemoryOfOctets call_lower = Unit {0}
FrameMemoryOfOctets (call_acquire octets memory) = Unit {0}
FrameMemoryOfOctets (call_idle octets memory) = Unit {0}
FrameMemoryOfOctets (call_send frames frame memory) = AllBelowBase 256 frames
FrameMemoryOfOctets (call_run_next jobs frames memory) = AllBelowBase 256 frames
FrameMemoryOfOctets call_break = Unit {0}

-- what a call comes to: where the session stands then, the octets that it wrote, and the frames among them, one at most
pub record Step : Type 0 where
  pub after : Standing
  pub written : List ℕ
  pub frames : List (List ℕ)

abbrev pub leads_to : Standing → Step
leads_to after = record { after = after; written = []; frames = [] }

-- what it is if it is accepted; refused, it leaves the session where it stands
abbrev pub if_accepted : Result ℕ Refusal → Standing → Step → Step
if_accepted (Ok count) before accepted = accepted
if_accepted (Err why) before accepted = leads_to before

-- in PLOP-1 no second CLTU
abbrev pub behind_a_frame : Plop → Standing
behind_a_frame One = sent
behind_a_frame Two = locked

module _ (settings : Settings) where
  abbrev pub idle_step : Standing → (octets : ℕ) (memory : List ℕ) → Step
  idle_step before octets memory =
      if_accepted (idle_answer 1 2000 octets memory) before
      (record { after = before; written = repeated settings.idle octets; frames = [] })

  abbrev pub step : Standing → Call → Step
  step silent call_raise = leads_to carrier
  step carrier call_lower = leads_to silent
  step carrier (call_acquire octets memory) =
      if_accepted (idle_answer 16 255 octets memory) carrier
      (record { after = locked; written = repeated settings.idle octets; frames = [] })
  step locked (call_idle octets memory) = idle_step locked octets memory
  step locked (call_send frames frame memory) =
      let job = only_frame frame in
      if_accepted (job_answer settings frames job memory) locked
      (record {
        after = behind_a_frame settings.plop;
        written = job_octets settings frames job;
        frames = frames_in (writings_of frames job);
      })
  step locked (call_run_next jobs frames memory) =
      if_accepted (next_answer settings frames jobs memory) locked
      (record {
        after = behind_a_frame settings.plop;
        written = next_octets settings frames jobs;
        frames = frames_in (next_writings settings frames jobs);
      })
  step locked call_break = leads_to carrier
  step sent (call_idle octets memory) = idle_step sent octets memory
  step sent call_break = leads_to carrier
  step before call = leads_to before

-- a receiver's carrier is up while the session's bears data
abbrev pub bears_data : Standing → Bool
bears_data silent = false
bears_data carrier = false
bears_data locked = true
bears_data sent = true

abbrev pub rise : (before after : Bool) → List Signal
rise false true = goes_up ∷ []
rise before after = []

abbrev pub fall : (before after : Bool) → List Signal
fall true false = goes_down ∷ []
fall before after = []

-- what a call puts on the carrier by which the session goes from one standing to another and writes these octets
abbrev pub signals_between : (before : Standing) (written : List ℕ) (after : Standing) → List Signal
signals_between before written after =
    rise (bears_data before) (bears_data after)
    ++ (signals_of_octets written ++ fall (bears_data before) (bears_data after))

abbrev pub signals_of_step : Standing → Step → List Signal
signals_of_step before one = signals_between before one.written one.after

-- lists of calls from the making on, the latest call first
module _ (settings : Settings) where
  abbrev pub standing_after : List Call → Standing
  standing_after [] = silent
  standing_after (latest ∷ earlier) = (step settings (standing_after earlier) latest).after

  abbrev pub signals_of_calls : List Call → List Signal
  signals_of_calls [] = []
  signals_of_calls (latest ∷ earlier) =
      signals_of_calls earlier
      ++ signals_of_step (standing_after earlier) (step settings (standing_after earlier) latest)

  abbrev pub frames_of_calls : List Call → List (List ℕ)
  frames_of_calls [] = []
  frames_of_calls (latest ∷ earlier) = frames_of_calls earlier ++ (step settings (standing_after earlier) latest).frames

  -- each CLTU comes first in what its call writes
  abbrev pub cltus_behind : List Call → List (List ℕ) → List PlacedCltu
  cltus_behind earlier frames =
      map
      (λ frame. record { before = signals_of_calls earlier; earlier = frames_of_calls earlier; frame = frame }) frames

  abbrev pub cltus_of_calls : List Call → List PlacedCltu
  cltus_of_calls [] = []
  cltus_of_calls (latest ∷ earlier) =
      cltus_of_calls earlier ++ cltus_behind earlier (step settings (standing_after earlier) latest).frames

-- a session as the machine sees it
pub record Session : Type 0 where
  pub settings : Settings
  pub standing : Standing

abbrev pub silent_session : Silent → Session
silent_session it = record { settings = it.settings; standing = silent }

abbrev pub carrier_session : Carrier → Session
carrier_session it = record { settings = it.settings; standing = carrier }

abbrev pub locked_session : Locked → Session
locked_session it = record { settings = it.settings; standing = locked }

abbrev pub sent_session : Sent → Session
sent_session it = record { settings = it.settings; standing = sent }

abbrev pub session_after : AfterSending → Session
session_after (now_sent it) = sent_session it
session_after (still_locked it) = locked_session it

-- a call led from this session to that one, wrote these octets with these frames among them, as the machine does
pub record IsStep
    (before : Session) (call : Call) (after : Session) (written : List ℕ) (frames : List (List ℕ)) : Type 0 where
  pub settings : after.settings ≡ before.settings
  pub standing : after.standing ≡ (step before.settings before.standing call).after
  pub octets : written ≡ (step before.settings before.standing call).written
  pub its_frames : frames ≡ (step before.settings before.standing call).frames
  pub frame_memory : FrameMemoryOfOctets call

-- a session that stands where these calls lead from a making, with frame memories of octets. That just these were made
-- is not said by it: what a session's calls put on the carrier is told call by call
pub record StandsAfter (calls : List Call) (now : Session) : Type 0 where
  pub standing : now.standing ≡ standing_after now.settings calls
  pub frame_memory : AllByRecursion FrameMemoryOfOctets calls
