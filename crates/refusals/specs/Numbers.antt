-- The number of each refusal, by which operators, logs and the manual speak of it, and its text. Assumes nothing.
use Rattle.std.specs.Prelude.{ℕ, List, ◌++◌, codes, decimal}
use Rattle.refusals.specs.declared.Refusal.{Refusal}
use Rattle.refusals.specs.declared.Refusal.TheVariants.{FrameLength, MemoryTooShort, IdleLength, CodeblockLimit, CarrierAlreadyUp, CarrierDown, NoCandidate, PastCandidateEnd, NeitherFrameNorFill, CandidateOpen, NoCandidateOpen, NoFreeSpace, CandidateEmpty, QueueFull, QueueEmpty, RecordLayout}

abbrev pub refusal_number : Refusal → ℕ
refusal_number FrameLength = 1
refusal_number MemoryTooShort = 2
refusal_number IdleLength = 3
refusal_number CodeblockLimit = 4
refusal_number CarrierAlreadyUp = 5
refusal_number CarrierDown = 6
refusal_number NoCandidate = 7
refusal_number PastCandidateEnd = 8
refusal_number (NeitherFrameNorFill place) = 9
refusal_number CandidateOpen = 10
refusal_number NoCandidateOpen = 11
refusal_number NoFreeSpace = 12
refusal_number CandidateEmpty = 13
refusal_number QueueFull = 14
refusal_number QueueEmpty = 15
refusal_number RecordLayout = 16

-- the word `refused` and the number
abbrev pub refusal_text : Refusal → List ℕ
refusal_text refusal = codes "refused " ++ decimal (refusal_number refusal)
