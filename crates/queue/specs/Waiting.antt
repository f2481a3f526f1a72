-- What the slots of a queue hold: the records that wait in it, and what is in the free slots. Assumes nothing.
use Rattle.std.specs.Prelude.{ℕ, List, [], ◌∷◌, ◌++◌, length, take, drop, Option, Some, None, Result, Ok, Err}
use Rattle.refusals.specs.declared.Refusal.{Refusal}
use Rattle.refusals.specs.declared.Refusal.TheVariants.{QueueFull, QueueEmpty}
use Rattle.circular.specs.Turns.{in_turn, memory_of as memory_in, first_of as first_in}
use Rattle.queue.specs.declared.slots.Queue.{Queue}

module _ {X : Type 0} where
  -- the records that wait, oldest first
  abbrev pub waiting : Queue X → List X
  waiting q = take q.count (in_turn q.slots)

  -- what the free slots hold, that whose turn is next first
  abbrev pub free : Queue X → List X
  free q = drop q.count (in_turn q.slots)

  -- how many records can wait at once: the number of slots
  abbrev pub capacity : Queue X → ℕ
  capacity q = length (in_turn q.slots)

-- all that a queue shows of its slots
pub record Slots (X : Type 0) : Type 0 where
  pub waiting : List X
  pub free : List X

module _ {X : Type 0} where
  abbrev pub slots_of : Queue X → Slots X
  slots_of q = record { waiting = waiting q; free = free q }

  -- the lent slots as they lie in memory, and the place of the slot whose turn is first
  abbrev pub memory_of : Queue X → List X
  memory_of q = memory_in q.slots

  abbrev pub first_of : Queue X → ℕ
  first_of q = first_in q.slots

  -- nothing waits
  abbrev pub all_free : List X → Slots X
  all_free held = record { waiting = []; free = held }

  -- these records behind those that wait, each in the free slot whose turn is next
  abbrev pub with_behind : List X → Slots X → Slots X
  with_behind records slots = record { waiting = slots.waiting ++ records; free = drop (length records) slots.free }

  -- the record that waits longest is gone, and its slot, which still holds it, is the last of the free ones
  abbrev pub without_oldest : Slots X → Slots X
  without_oldest slots = record { waiting = drop 1 slots.waiting; free = slots.free ++ take 1 slots.waiting }

  -- the record that waits longest, or none
  abbrev pub front : List X → Option X
  front [] = None
  front (oldest ∷ later) = Some oldest

  -- a take, by the records that wait
  abbrev pub take_answer : List X → Result X Refusal
  take_answer [] = Err QueueEmpty
  take_answer (oldest ∷ later) = Ok oldest

  -- a put, by what the free slots hold
  abbrev pub put_answer : List X → Result (Unit {0}) Refusal
  put_answer [] = Err QueueFull
  put_answer (next ∷ further) = Ok tt
