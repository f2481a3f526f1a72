-- A copy of the oldest candidate by a read of the whole of it. Assumes nothing.
use Rattle.std.proofs.Common.{◌≡◌, ℕ, ◌≤◌, List, [], ◌∷◌, ◌++◌, length, take, drop, Ok, arith}
use Rattle.std.proofs.lemmas.Grind.{common_steps}
use Rattle.hold.specs.Candidates.{Candidate, oldest_length, after_stretch, copy_answer, after_copy}

pub copy_answered : (fs : List Candidate) (memory : List ℕ) (octets : ℕ) → octets ≤ length memory → oldest_length fs ≡ Ok octets → Ok octets ≡ copy_answer fs memory
copy_answered [] memory octets room e = grind (arith, common_steps)
copy_answered (candidate ∷ rest) memory octets room e = grind (arith, common_steps)

pub copied : (fs : List Candidate) (memory : List ℕ) (octets : ℕ) → octets ≤ length memory → oldest_length fs ≡ Ok octets → after_stretch fs 0 (take octets memory) ++ drop octets memory ≡ after_copy fs memory
copied [] memory octets room e = grind (arith, common_steps)
copied (candidate ∷ rest) memory octets room e = grind (arith, common_steps)
