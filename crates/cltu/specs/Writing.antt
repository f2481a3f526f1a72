-- What writing a CLTU into the caller's memory answers, and what the memory holds after. Assumes nothing.
use Rattle.std.specs.Prelude.{◌≡◌, ℕ, ◌+◌, ◌*◌, ◌≤◌, Bool, false, cond, ◌||◌, List, ◌++◌, length, drop, Ok, Err, Result, IfOk, ◌==◌, nat_lt}
use Rattle.refusals.specs.declared.Refusal.{Refusal}
use Rattle.refusals.specs.declared.Refusal.TheVariants.{FrameLength, MemoryTooShort}
use Rattle.cltu.specs.declared.Sender.{Sender}
use Rattle.bch.specs.Codeblock.{information_octets, codeblock_octets}
use Rattle.cltu.specs.Limit.{codeblocks_allowed}
use Rattle.cltu.specs.Cltu.{longest_frame, codeblocks_for, start_sequence, tail_sequence, cltu}

-- a frame is refused if it is empty, has more than 1,024 octets, or more than the greatest count of codeblocks holds
abbrev pub frame_refused : (limit octets : ℕ) → Bool
frame_refused limit octets = octets == 0 || (nat_lt longest_frame octets || nat_lt (information_octets * limit) octets)

-- the CLTU that a sender makes of a frame
abbrev pub sent_cltu : Sender → List ℕ → List ℕ
sent_cltu sender frame = cltu sender.randomizer frame

-- with this limit no frame of 1 to 1,024 octets is refused
abbrev pub RefusesNoFrame : ℕ → Type 0
RefusesNoFrame limit = (octets : ℕ) → 1 ≤ octets → octets ≤ longest_frame → frame_refused limit octets ≡ false

-- how many octets the CLTU of a frame of so many octets has, if the frame is not refused
abbrev pub cltu_octets : ℕ → ℕ
cltu_octets octets = length start_sequence + length tail_sequence + codeblock_octets * codeblocks_for octets

abbrev pub length_answer : Sender → ℕ → Result ℕ Refusal
length_answer sender octets =
    cond (frame_refused (codeblocks_allowed sender.limit) octets) (Err FrameLength) (Ok (cltu_octets octets))

-- whatever the frame's octets are
abbrev pub LengthOf : Sender → ℕ → Result ℕ Refusal → Type 0
LengthOf sender octets answer =
    (frame : List ℕ) → length frame ≡ octets → IfOk answer (λ n. n ≡ length (sent_cltu sender frame))

module _ (sender : Sender) (frame memory : List ℕ) where
  -- how many octets were written, or the lowest refusal that applies
  abbrev pub writing_answer : Result ℕ Refusal
  writing_answer =
      let octets = length (sent_cltu sender frame) in
      cond (frame_refused (codeblocks_allowed sender.limit) (length frame)) (Err FrameLength)
      (cond (nat_lt (length memory) octets) (Err MemoryTooShort) (Ok octets))

  -- the CLTU in front and the rest as it was, or all of it as it was
  abbrev pub memory_after : Result ℕ Refusal → List ℕ
  memory_after (Ok octets) = sent_cltu sender frame ++ drop octets memory
  memory_after (Err refusal) = memory

-- no frame's CLTU has more octets than so many, unless its sender refuses the frame
abbrev pub NoCltuIsLonger : ℕ → Type 0
NoCltuIsLonger octets =
    (sender : Sender) (frame : List ℕ)
    → frame_refused (codeblocks_allowed sender.limit) (length frame) ≡ false
    → length (sent_cltu sender frame) ≤ octets

-- memory of so many octets is never too short: what is answered is the length of the CLTU, or that the frame is refused
abbrev pub IsNeverTooShort : ℕ → Type 0
IsNeverTooShort octets =
    (sender : Sender) (frame memory : List ℕ)
    → octets ≤ length memory
    → writing_answer sender frame memory ≡ length_answer sender (length frame)
