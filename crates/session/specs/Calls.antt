-- Where the calls of a session lead. A refused call gives the session back as it was. Assumes nothing.
use Rattle.std.specs.Prelude.{◌≡◌, ℕ, List, [], ◌∷◌, Ok, Err, Result}
use Rattle.refusals.specs.declared.Refusal.{Refusal}
use Rattle.refusals.specs.declared.Refusal.TheVariants.{QueueEmpty}
use Rattle.randomizer.specs.declared.Randomizer.{Randomizer}
use Rattle.cltu.specs.Limit.{limit_answer}
use Rattle.procedures.specs.declared.Plop.{Plop}
use Rattle.procedures.specs.declared.Plop.TheVariants.{One, Two}
use Rattle.procedures.specs.declared.IdleOctet.{IdleOctet}
use Rattle.procedures.specs.Stretch.{Writing}
use Rattle.session.specs.declared.FrameSpan.{FrameSpan}
use Rattle.session.specs.declared.Job.{Job}
use Rattle.session.specs.declared.Settings.{Settings}
use Rattle.session.specs.declared.Silent.{Silent}
use Rattle.session.specs.declared.Carrier.{Carrier}
use Rattle.session.specs.declared.Locked.{Locked}
use Rattle.session.specs.declared.AfterSending.{AfterSending}
use Rattle.session.specs.declared.AfterSending.TheVariants.{Sent as now_sent, Locked as still_locked}
use Rattle.session.specs.Writing.{limit_of, job_octets, job_answer, writings_of}

-- a session was made, with these numbers
pub record MadeWith
    (plop : Plop) (limit : ℕ) (randomizer : Randomizer) (idle : IdleOctet) (silent : Silent) : Type 0 where
  pub its-plop : silent.settings.plop ≡ plop
  pub its-limit : limit_answer limit ≡ Ok (limit_of silent.settings)
  pub its-randomizer : silent.settings.sender.randomizer ≡ randomizer
  pub its-idle : silent.settings.idle ≡ idle

abbrev pub silent_with : Settings → Silent
silent_with settings = record { settings = settings }

abbrev pub carrier_with : Settings → Carrier
carrier_with settings = record { settings = settings }

abbrev pub locked_with : Settings → Locked
locked_with settings = record { settings = settings }

-- from Carrier an acquisition leads to Locked
abbrev pub acquired : Carrier → Result ℕ Refusal → Result (Locked × ℕ) (Carrier × Refusal)
acquired carrier (Ok octets) = Ok (locked_with carrier.settings, octets)
acquired carrier (Err why) = Err (carrier, why)

-- from Locked a frame leads to Sent in PLOP-1, and stays in PLOP-2
abbrev pub state_after : Settings → Plop → AfterSending
state_after settings One = now_sent (record { settings = settings })
state_after settings Two = still_locked (locked_with settings)

abbrev pub sending : Locked → Result ℕ Refusal → Result (AfterSending × ℕ) (Locked × Refusal)
sending locked (Ok octets) = Ok (state_after locked.settings locked.settings.plop, octets)
sending locked (Err why) = Err (locked, why)

-- a frame alone, as a job without idle octets
abbrev pub only_frame : FrameSpan → Job
only_frame span = record { frame = span; idle = 0 }

-- the job that waits longest: its octets and its answer
module _ (settings : Settings) (frames : List ℕ) where
  abbrev pub next_octets : List Job → List ℕ
  next_octets [] = []
  next_octets (job ∷ rest) = job_octets settings frames job

  abbrev pub next_answer : List Job → List ℕ → Result ℕ Refusal
  next_answer [] memory = Err QueueEmpty
  next_answer (job ∷ rest) memory = job_answer settings frames job memory

  abbrev pub next_writings : List Job → List Writing
  next_writings [] = []
  next_writings (job ∷ rest) = writings_of frames job
