-- What is answered where a finished candidate waits, by the length of the oldest. Assumes nothing.
use Rattle.std.proofs.Common.{◌≡◌, ℕ, ◌-◌, ◌<◌, ◌≤◌, List, length, take, drop, Ok, Err, arith}
use Rattle.std.proofs.lemmas.Grind.{common_steps}
use Rattle.refusals.specs.declared.Refusal.TheVariants.{PastCandidateEnd}
use Rattle.hold.specs.Candidates.{Candidate, oldest_length, stretch_answer, after_stretch, release_answer}
use Rattle.cells.specs.Held.{oldest_of}

pub released : (fs : List Candidate) → 0 < length fs → release_answer fs ≡ Ok tt
released fs some = grind (arith, common_steps)

pub whole_length : (fs : List Candidate) → 0 < length fs → oldest_length fs ≡ Ok (length (oldest_of fs))
whole_length fs some = grind (arith, common_steps)

module _ (fs : List Candidate) (place : ℕ) (memory : List ℕ) (some : 0 < length fs) where
  pub stretch_inside : length memory ≤ length (oldest_of fs) - place → stretch_answer fs place memory ≡ Ok tt
  stretch_inside h = grind (arith, common_steps)

  pub stretch_read : length memory ≤ length (oldest_of fs) - place → take (length memory) (drop place (oldest_of fs)) ≡ after_stretch fs place memory
  stretch_read h = grind (arith, common_steps)

  pub stretch_past : length (oldest_of fs) - place < length memory → stretch_answer fs place memory ≡ Err PastCandidateEnd
  stretch_past h = grind (arith, common_steps)

  pub kept_past : length (oldest_of fs) - place < length memory → after_stretch fs place memory ≡ memory
  kept_past h = grind (arith, common_steps)
