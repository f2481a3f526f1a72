-- The meaning of a hold, which keeps received candidates until a reader takes them: what each call answers and what is
-- held after it.
--
-- A candidate is the octets of accepted codeblocks, seven a codeblock. At most one is open, to be added to; those that
-- are finished wait in a list whose head is the oldest. How many codeblocks there is room for is the capacity. The
-- showing says, for each place in a candidate, as which octet an octet that is added there shows. Each definition is
-- total: a call that is refused leaves all as it was. Assumes nothing.
use Rattle.std.specs.Prelude.{◌≡◌, ℕ, suc, ◌+◌, ◌-◌, ◌/◌, ◌%◌, ◌<◌, ◌≤◌, Bool, cond, ◌||◌, List, [], ◌∷◌, ◌++◌, length, take, drop, Some, None, Ok, Err, Option, Result, ◌==◌, bit_xor, nat_le, nat_lt, slice_index}
use Rattle.refusals.specs.declared.Refusal.{Refusal}
use Rattle.refusals.specs.declared.Refusal.TheVariants.{MemoryTooShort, NoCandidate, PastCandidateEnd, CandidateOpen, NoCandidateOpen, NoFreeSpace, CandidateEmpty}
use Rattle.bch.specs.Codeblock.{information_octets}
use Rattle.randomizer.specs.declared.Randomizer.{Randomizer}
use Rattle.randomizer.specs.Sequence.{added_at}

abbrev pub Candidate : Type 0
Candidate = List ℕ

-- a map of octets for each place
abbrev pub Showing : Type 0
Showing = ℕ → ℕ → ℕ

-- it sends octets to octets, and no two of them to one
pub record ShowsApart (showing : Showing) : Type 0 where
  pub octets : (place x : ℕ) → x < 256 → showing place x < 256
  pub apart : (place x y : ℕ) → x < 256 → y < 256 → showing place x ≡ showing place y → x ≡ y

-- octets that are added from a place on, as they show
abbrev pub shown_from : Showing → ℕ → List ℕ → List ℕ
shown_from showing place [] = []
shown_from showing place (x ∷ xs) = showing place x ∷ shown_from showing (suc place) xs

-- a showing matches a sender's randomizer: whatever octet it randomizes, at whatever place, shows as it was before
abbrev pub Matches : Showing → Randomizer → Type 0
Matches showing randomizer = (place x : ℕ) → x < 256 → showing place (bit_xor x (added_at randomizer place)) ≡ x

-- codeblocks in a candidate, in the open one, and in all that is finished
abbrev pub codeblocks_in : Candidate → ℕ
codeblocks_in candidate = length candidate / information_octets

abbrev pub open_codeblocks : Option Candidate → ℕ
open_codeblocks None = 0
open_codeblocks (Some candidate) = codeblocks_in candidate

abbrev pub finished_codeblocks : List Candidate → ℕ
finished_codeblocks [] = 0
finished_codeblocks (candidate ∷ rest) = codeblocks_in candidate + finished_codeblocks rest

-- the capacity less all that is held
abbrev pub free_space : ℕ → List Candidate → Option Candidate → ℕ
free_space capacity finished opened = capacity - (finished_codeblocks finished + open_codeblocks opened)

-- candidates are whole codeblocks, a finished one has at least one, and all of them together are within the capacity
abbrev pub Whole : Candidate → Type 0
Whole candidate = length candidate % information_octets ≡ 0

abbrev pub OpenWhole : Option Candidate → Type 0
OpenWhole None = Unit {0}
OpenWhole (Some candidate) = Whole candidate

abbrev pub FinishedWhole : List Candidate → Type 0
FinishedWhole [] = Unit {0}
FinishedWhole (candidate ∷ rest) = Whole candidate × (0 < length candidate) × FinishedWhole rest

pub record Sound (capacity : ℕ) (finished : List Candidate) (opened : Option Candidate) : Type 0 where
  pub within : finished_codeblocks finished + open_codeblocks opened ≤ capacity
  pub finished_whole : FinishedWhole finished
  pub open_whole : OpenWhole opened

-- open begins an empty candidate, unless one is open
abbrev pub open_answer : Option Candidate → Result (Unit {0}) Refusal
open_answer None = Ok tt
open_answer (Some candidate) = Err CandidateOpen

abbrev pub after_open : Option Candidate → Option Candidate
after_open None = Some []
after_open (Some candidate) = Some candidate

-- add appends seven octets to the open candidate, each as it shows at its place, if there is free space
abbrev pub add_answer : ℕ → List Candidate → Option Candidate → Result (Unit {0}) Refusal
add_answer capacity finished None = Err NoCandidateOpen
add_answer capacity finished (Some candidate) =
    cond (free_space capacity finished (Some candidate) == 0) (Err NoFreeSpace) (Ok tt)

abbrev pub after_add : Showing → ℕ → List Candidate → Option Candidate → List ℕ → Option Candidate
after_add showing capacity finished None octets = None
after_add showing capacity finished (Some candidate) octets =
    let more = candidate ++ shown_from showing (length candidate) octets in
    cond (free_space capacity finished (Some candidate) == 0) (Some candidate) (Some more)

-- finish closes the open candidate, unless it is empty, and puts it behind those that are finished
abbrev pub finish_answer : Option Candidate → Result (Unit {0}) Refusal
finish_answer None = Err NoCandidateOpen
finish_answer (Some []) = Err CandidateEmpty
finish_answer (Some (x ∷ xs)) = Ok tt

abbrev pub open_after_finish : Option Candidate → Option Candidate
open_after_finish None = None
open_after_finish (Some []) = Some []
open_after_finish (Some (x ∷ xs)) = None

abbrev pub finished_after_finish : List Candidate → Option Candidate → List Candidate
finished_after_finish finished None = finished
finished_after_finish finished (Some []) = finished
finished_after_finish finished (Some (x ∷ xs)) = finished ++ (x ∷ xs) ∷ []

-- abandon drops the open candidate
abbrev pub abandon_answer : Option Candidate → Result (Unit {0}) Refusal
abandon_answer None = Err NoCandidateOpen
abandon_answer (Some candidate) = Ok tt

-- release removes the oldest finished candidate
abbrev pub release_answer : List Candidate → Result (Unit {0}) Refusal
release_answer [] = Err NoCandidate
release_answer (candidate ∷ rest) = Ok tt

abbrev pub after_release : List Candidate → List Candidate
after_release [] = []
after_release (candidate ∷ rest) = rest

-- the oldest finished candidate's length, and its octet at a place
abbrev pub oldest_length : List Candidate → Result ℕ Refusal
oldest_length [] = Err NoCandidate
oldest_length (candidate ∷ rest) = Ok (length candidate)

abbrev pub oldest_octet : List Candidate → ℕ → Result ℕ Refusal
oldest_octet [] place = Err NoCandidate
oldest_octet (candidate ∷ rest) place =
    cond (nat_lt place (length candidate)) (Ok (slice_index candidate place)) (Err PastCandidateEnd)

-- a stretch of the oldest, read into memory that is as long: refused where it asks for an octet at or past the end
abbrev pub lies_within : (place count : ℕ) → Candidate → Bool
lies_within place count candidate = count == 0 || nat_le (place + count) (length candidate)

abbrev pub stretch_answer : List Candidate → ℕ → List ℕ → Result (Unit {0}) Refusal
stretch_answer [] place memory = Err NoCandidate
stretch_answer (candidate ∷ rest) place memory =
    cond (lies_within place (length memory) candidate) (Ok tt) (Err PastCandidateEnd)

abbrev pub after_stretch : List Candidate → ℕ → List ℕ → List ℕ
after_stretch [] place memory = memory
after_stretch (candidate ∷ rest) place memory =
    cond (lies_within place (length memory) candidate) (take (length memory) (drop place candidate)) memory

-- the oldest candidate copied to the front of the caller's memory
abbrev pub copy_answer : List Candidate → List ℕ → Result ℕ Refusal
copy_answer [] memory = Err NoCandidate
copy_answer (candidate ∷ rest) memory =
    cond (nat_lt (length memory) (length candidate)) (Err MemoryTooShort) (Ok (length candidate))

abbrev pub after_copy : List Candidate → List ℕ → List ℕ
after_copy [] memory = memory
after_copy (candidate ∷ rest) memory =
    cond (nat_lt (length memory) (length candidate)) memory (candidate ++ drop (length candidate) memory)
