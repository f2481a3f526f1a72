-- What cells hold by the counts, and what the calls of a hold find there and leave. Assumes nothing.
use Rattle.std.specs.Prelude.{◌≡◌, ℕ, ◌+◌, ◌-◌, ◌*◌, ◌<◌, ◌≤◌, min, true, List, [], ◌∷◌, length, take, drop, Some, None, Ok, Err, Option, Result, cond, ◌==◌, slice_index_or, slice_set}
use Rattle.std.proofs.Common.{sym, ◌∙◌, arith}
use Rattle.std.proofs.lemmas.List.{length-take-le, length-drop}
use Rattle.refusals.specs.declared.Refusal.{Refusal}
use Rattle.refusals.specs.declared.Refusal.TheVariants.{NoCandidate, PastCandidateEnd, NoCandidateOpen, NoFreeSpace, CandidateEmpty}
use Rattle.hold.specs.Candidates.{Candidate, Sound, finished_codeblocks, open_codeblocks, free_space, add_answer, after_add, finish_answer, open_after_finish, finished_after_finish, release_answer, oldest_length, stretch_answer, after_stretch}
use Rattle.hold.specs.Plain.{plain_showing}
use Rattle.cells.specs.declared.cell.Cell.{Cell}
use Rattle.cells.specs.declared.counts.Counts.{Counts}
use Rattle.cells.specs.Cells.{first_count, grouped, parted, added, unfinished_in}
use Rattle.cells.specs.Sound.{finished_codeblocks_grouped, finished_whole_grouped, open_codeblocks_unfinished, open_whole_unfinished}

-- a count in the code stops at what its word holds, which no count of a hold comes near
abbrev pub stopped : ℕ → ℕ
stopped n = min 18446744073709551615 n

-- cells that are held
abbrev pub held_by : Counts → ℕ
held_by counts = counts.used + added counts.unfinished

-- the finished candidates stand in the first cells, and the open one in those behind them
abbrev pub finished_of : Counts → List Cell → List Candidate
finished_of counts cells = grouped counts.waiting (take counts.used cells)

abbrev pub opened_of : Counts → List Cell → Option Candidate
opened_of counts cells = unfinished_in counts.unfinished (drop counts.used cells)

-- cells that are counted so
pub record Counted (counts : Counts) (cells : List Cell) : Type 0 where
  pub as_many : length cells ≡ counts.cells
  pub most : counts.cells ≤ 65535
  pub within : held_by counts ≤ counts.cells
  pub few : counts.waiting ≤ counts.used
  pub whole : parted counts.waiting (take counts.used cells) ≡ true

module _ (counts : Counts) (cells : List Cell) (counted : Counted counts cells) where
  pub length_used : length (take counts.used cells) ≡ counts.used
  length_used = length-take-le counts.used cells (omega (arith, counted.within, counted.as_many))

  pub finished_is_used : finished_codeblocks (finished_of counts cells) ≡ counts.used
  finished_is_used = finished_codeblocks_grouped counts.waiting (take counts.used cells) counted.whole ∙ length_used

  fits : added counts.unfinished ≤ length (drop counts.used cells)
  fits = omega (arith, length-drop counts.used cells, counted.within, counted.as_many)

  pub open_is_added : added counts.unfinished ≡ open_codeblocks (opened_of counts cells)
  open_is_added = sym (open_codeblocks_unfinished counts.unfinished (drop counts.used cells) fits)

  pub free_cells :
      counts.cells - held_by counts ≡ free_space counts.cells (finished_of counts cells) (opened_of counts cells)
  free_cells = omega (arith, finished_is_used, open_is_added)

  pub sound : Sound counts.cells (finished_of counts cells) (opened_of counts cells)
  sound =
      record {
        within = omega (arith, finished_is_used, open_is_added, counted.within);
        finished_whole = finished_whole_grouped counts.waiting (take counts.used cells) counted.whole;
        open_whole = open_whole_unfinished counts.unfinished (drop counts.used cells) fits;
      }

-- whether a codeblock can be added, and whether a candidate can be finished, by the counts alone
abbrev pub add_counted : (free : ℕ) → Option ℕ → Result (Unit {0}) Refusal
add_counted free None = Err NoCandidateOpen
add_counted free (Some n) = cond (free == 0) (Err NoFreeSpace) (Ok tt)

abbrev pub finish_counted : Option ℕ → Result ℕ Refusal
finish_counted None = Err NoCandidateOpen
finish_counted (Some n) = cond (n == 0) (Err CandidateEmpty) (Ok n)

-- as many cells, and the same finished candidates
pub record SameFinished (old new : Counts) : Type 0 where
  pub cells : new.cells ≡ old.cells
  pub used : new.used ≡ old.used
  pub waiting : new.waiting ≡ old.waiting

-- a codeblock put into the cell behind those that are held
pub record Stored (old new : Counts) (cells now : List Cell) (octets : List ℕ) : Type 0 where
  pub counted : Counted new now
  pub finished : finished_of new now ≡ finished_of old cells
  pub opened :
      opened_of new now ≡ after_add plain_showing old.cells (finished_of old cells) (opened_of old cells) octets

pub record Adds (old new : Counts) : Type 0 where
  pub finished : SameFinished old new
  pub begun : old.unfinished ≡ Some (added old.unfinished)
  pub free : held_by old < old.cells
  pub more : new.unfinished ≡ Some (added old.unfinished + 1)
  pub answer : (cells : List Cell)
      → Counted old cells
      → add_answer old.cells (finished_of old cells) (opened_of old cells) ≡ Ok tt
  pub stored : (cells : List Cell) (cell : Cell)
      → Counted old cells
      → length cell.octets ≡ 7
      → Stored old new cells (slice_set cells (held_by old) cell) cell.octets

pub record AddsNone (old new : Counts) (why : Refusal) : Type 0 where
  pub reason : add_counted (old.cells - held_by old) old.unfinished ≡ Err why
  pub same : new ≡ old
  pub answer : (cells : List Cell)
      → Counted old cells
      → add_answer old.cells (finished_of old cells) (opened_of old cells) ≡ Err why
  pub kept : (cells : List Cell) (octets : List ℕ)
      → Counted old cells
      → after_add plain_showing old.cells (finished_of old cells) (opened_of old cells) octets ≡ opened_of old cells

-- how many codeblocks the candidate has, put into its first cell
pub record Noted (old new : Counts) (cells now : List Cell) : Type 0 where
  pub counted : Counted new now
  pub finished : finished_of new now ≡ finished_after_finish (finished_of old cells) (opened_of old cells)
  pub opened : opened_of new now ≡ open_after_finish (opened_of old cells)

abbrev pub blank : Cell
blank = record { octets = []; codeblocks = 0 }

pub record Finishes (old new : Counts) (codeblocks : ℕ) : Type 0 where
  pub cells : new.cells ≡ old.cells
  pub used : new.used ≡ stopped (old.used + codeblocks)
  pub waiting : new.waiting ≡ stopped (old.waiting + 1)
  pub unfinished : new.unfinished ≡ None
  pub begun : old.unfinished ≡ Some codeblocks
  pub some : 0 < codeblocks
  pub first : (cells : List Cell) → Counted old cells → old.used < old.cells
  pub answer : (cells : List Cell) → Counted old cells → finish_answer (opened_of old cells) ≡ Ok tt
  pub noted : (cells : List Cell) (cell : Cell)
      → Counted old cells
      → cell.octets ≡ (slice_index_or cells old.used blank).octets
      → cell.codeblocks ≡ codeblocks
      → Noted old new cells (slice_set cells old.used cell)

pub record FinishesNone (old new : Counts) (why : Refusal) : Type 0 where
  pub reason : finish_counted old.unfinished ≡ Err why
  pub same : new ≡ old
  pub answer : (cells : List Cell) → Counted old cells → finish_answer (opened_of old cells) ≡ Err why
  pub finished : (cells : List Cell)
      → Counted old cells
      → finished_after_finish (finished_of old cells) (opened_of old cells) ≡ finished_of old cells
  pub opened : (cells : List Cell) → Counted old cells → open_after_finish (opened_of old cells) ≡ opened_of old cells

-- none waits, and what is refused for that
pub record NoneWaits (finished : List Candidate) (why : Refusal) : Type 0 where
  pub reason : why ≡ NoCandidate
  pub none : finished ≡ []

-- the oldest finished candidate
abbrev pub oldest_of : List Candidate → Candidate
oldest_of [] = []
oldest_of (candidate ∷ rest) = candidate

-- how many codeblocks the oldest of the finished candidates has
pub record Oldest (counts : Counts) (cells : List Cell) (codeblocks : ℕ) : Type 0 where
  pub some : 0 < counts.waiting
  pub counted : codeblocks ≡ first_count (take counts.used cells)
  pub not_empty : 0 < codeblocks
  pub within : codeblocks ≤ counts.used
  pub others : counts.waiting - 1 ≤ counts.used - codeblocks
  pub octets : length (oldest_of (finished_of counts cells)) ≡ 7 * codeblocks
  pub answer : oldest_length (finished_of counts cells) ≡ Ok (7 * codeblocks)
  pub released : release_answer (finished_of counts cells) ≡ Ok tt
  pub stretch_past : (place : ℕ) (memory : List ℕ)
      → 7 * codeblocks - place < length memory
      → stretch_answer (finished_of counts cells) place memory ≡ Err PastCandidateEnd
  pub kept_past : (place : ℕ) (memory : List ℕ)
      → 7 * codeblocks - place < length memory
      → after_stretch (finished_of counts cells) place memory ≡ memory
