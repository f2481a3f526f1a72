-- A command that comes to a receiver, and the frame of it in the caller's memory. Assumes nothing.
use Rattle.std.specs.Prelude.{◌≡◌, ℕ, ◌≤◌, Bool, List, ◌++◌, length, drop, replicate, Ok, Result}
use Rattle.std.specs.Int.Digits.{AllBelowBase}
use Rattle.refusals.specs.declared.Refusal.{Refusal}
use Rattle.randomizer.specs.declared.Randomizer.{Randomizer}
use Rattle.randomizer.specs.Sequence.{randomized}
use Rattle.cltu.specs.Cltu.{filled}
use Rattle.hold.specs.declared.Hold.{Ghosts}
use Rattle.hold.specs.Candidates.{Matches, copy_answer, after_copy}
use Rattle.queue.specs.declared.slots.Queue.{Queue}
use Rattle.reception.specs.declared.Report.{Report}
use Rattle.reception.specs.Rules.{Event, release}
use Rattle.reception.specs.Runs.{idle}
use Rattle.reception.specs.Calls.{symbol_events}
use Rattle.reception.specs.Allowance.{ReceivedCltu, symbols_of, WithinAllowance}
use Rattle.decoding.specs.Meaning.{rules_of}
use Rattle.receiver.specs.declared.receiver.Receiver.{Receiver}
use Rattle.receiver.specs.Meaning.{settings_of, held_by}
use Rattle.receiver.specs.Events.{Ran}

-- so many releases, one behind the other
abbrev pub releases : ℕ → List Event
releases count = replicate count release

-- the frame with its fill in front of the memory, whose rest is as it was
pub record IsFrameInFront (frame memory now : List ℕ) (answer : Result ℕ Refusal) : Type 0 where
  pub length_answered : answer ≡ Ok (length (filled frame))
  pub in_front : now ≡ filled frame ++ drop (length (filled frame)) memory

module _ {X : Type 0} (hold : Ghosts X) where
  -- what is finished is released, the symbols are heard, and the oldest that is finished then is copied
  pub record CommandHeard
      (symbols : List Bool) (before after : Receiver X) (queue later : Queue Report) (memory now : List ℕ)
      (answer : Result ℕ Refusal) : Type 0 where
    pub ran :
        Ran hold (releases (length (held_by hold before).finished) ++ symbol_events symbols) before after queue later
    pub copied : answer ≡ copy_answer (held_by hold after).finished memory
    pub memory_after : now ≡ after_copy (held_by hold after).finished memory

  -- symbols that are the CLTU of a frame, within the allowance, with idle or nothing behind it, for a hold that matches
  -- its sender and has the capacity
  pub record IsCommand (r : Receiver X) (frame : List ℕ) (symbols : List Bool) : Type 0 where
    pub octets : AllBelowBase 256 frame
    pub randomizer : Randomizer
    pub matches : Matches hold.showing randomizer
    pub cltu : ReceivedCltu
    -- so many bits of idle, also none, which begins with either bit
    pub behind_first : Bool
    pub behind : ℕ
    pub comes : symbols ≡ symbols_of cltu ++ idle behind_first behind
    pub within : WithinAllowance (rules_of (settings_of r)) (randomized randomizer (filled frame)) cltu
    pub space : length cltu.blocks ≤ (held_by hold r).capacity
