-- The octets that a session writes, and when it refuses to. Assumes nothing.
use Rattle.std.specs.Prelude.{◌≡◌, ℕ, ◌+◌, ◌<◌, ◌≤◌, cond, ◌||◌, List, [], ◌∷◌, ◌++◌, length, take, drop, Ok, Err, Result, nat_lt}
use Rattle.std.specs.Int.{is_in_range}
use Rattle.refusals.specs.declared.Refusal.{Refusal}
use Rattle.refusals.specs.declared.Refusal.TheVariants.{FrameLength, MemoryTooShort, IdleLength}
use Rattle.cltu.specs.Limit.{codeblocks_allowed}
use Rattle.cltu.specs.Writing.{frame_refused}
use Rattle.procedures.specs.Stretch.{repeated, Parameters, sent_octets, Writing, sends, idles, stretch_octets}
use Rattle.session.specs.declared.FrameSpan.{FrameSpan}
use Rattle.session.specs.declared.Job.{Job}
use Rattle.session.specs.declared.Settings.{Settings}

-- how many codeblocks its CLTUs may have
abbrev pub limit_of : Settings → ℕ
limit_of settings = codeblocks_allowed settings.sender.limit

abbrev pub parameters_of : Settings → Parameters
parameters_of settings = record { plop = settings.plop; randomizer = settings.sender.randomizer; idle = settings.idle }

-- what the memory holds after a call that writes: the octets in front and the rest as it was, or all of it as it was
abbrev pub memory_after : List ℕ → List ℕ → Result ℕ Refusal → List ℕ
memory_after octets memory (Ok count) = octets ++ drop (length octets) memory
memory_after octets memory (Err why) = memory

-- a sequence of idle octets: the lowest refusal that applies
abbrev pub idle_answer : (least most octets : ℕ) → List ℕ → Result ℕ Refusal
idle_answer least most octets memory =
    cond (nat_lt (length memory) octets) (Err MemoryTooShort)
    (cond (is_in_range least most octets) (Ok octets) (Err IdleLength))

-- a frame by its place in the caller's frame memory
abbrev pub frame_at : List ℕ → FrameSpan → List ℕ
frame_at frames span = take span.length (drop span.place frames)

-- a frame that was found there, or not
pub record Found (frames : List ℕ) (span : FrameSpan) (found : List ℕ) : Type 0 where
  pub whole : span.place + span.length ≤ length frames
  pub frame : found ≡ frame_at frames span
  pub long : length found ≡ span.length

pub record NotWhole (frames : List ℕ) (span : FrameSpan) (why : Refusal) : Type 0 where
  pub reason : why ≡ FrameLength
  pub short : length frames < span.place + span.length

module _ (settings : Settings) (frames : List ℕ) (job : Job) where
  -- its CLTU, the idle octets of the procedure, and its own
  abbrev pub job_octets : List ℕ
  job_octets = sent_octets (parameters_of settings) (frame_at frames job.frame) ++ repeated settings.idle job.idle

  -- the lowest refusal that applies
  abbrev pub job_answer : List ℕ → Result ℕ Refusal
  job_answer memory =
      cond
      (nat_lt (length frames) (job.frame.place + job.frame.length)
      || frame_refused (limit_of settings) job.frame.length) (Err FrameLength)
      (cond (nat_lt (length memory) (length job_octets)) (Err MemoryTooShort)
      (cond (nat_lt 2000 job.idle) (Err IdleLength)
      (Ok (length job_octets))))

-- octets with which a stretch goes on, whatever was written in it before
abbrev pub GoesOn : Settings → List Writing → List ℕ → Type 0
GoesOn settings writings octets =
    (acquisition : ℕ) (before : List Writing) →
    stretch_octets (parameters_of settings) acquisition before ++ octets
    ≡ stretch_octets (parameters_of settings) acquisition (before ++ writings)

-- what a job writes, as a part of a stretch
abbrev pub writings_of : List ℕ → Job → List Writing
writings_of frames job = sends (frame_at frames job.frame) ∷ idles job.idle ∷ []
