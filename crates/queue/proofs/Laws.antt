-- Laws of what the slots of a queue hold, by which its callers join one call to the next. Assumes nothing.
use Rattle.std.proofs.Common.{◌≡◌, ◌+◌, List, [], ◌++◌, length, drop, sym, ap, ◌∙◌, ap₂, append_assoc, append-nil, arith}
use Rattle.std.proofs.lemmas.List.{length-take-le, length-drop, length-append, drop-drop}
use Rattle.circular.specs.Turns.{in_turn}
use Rattle.queue.specs.Waiting.{waiting, free, capacity, Slots, with_behind}
use Rattle.queue.specs.declared.slots.Queue.{Queue}

module _ {X : Type 0} where
  pub length_waiting : (q : Queue X) → length (waiting q) ≡ q.count
  length_waiting q = length-take-le q.count (in_turn q.slots) q.within

  -- a record waits in each slot that is not free
  pub every_slot : (q : Queue X) → length (waiting q) + length (free q) ≡ capacity q
  every_slot q = omega (arith, length_waiting q, length-drop q.count (in_turn q.slots), q.within)

  -- no record behind the others
  pub none_behind : (slots : Slots X) → with_behind [] slots ≡ slots
  none_behind slots = ap (λ (l : List X). record { waiting = l; free = slots.free }) (append-nil slots.waiting)

  -- some records behind the others, and then more
  pub behind_then : (first second : List X) (slots : Slots X) → with_behind second (with_behind first slots) ≡ with_behind (first ++ second) slots
  behind_then first second slots =
      ap₂ (λ (w f : List X). record { waiting = w; free = f }) (append_assoc slots.waiting first second)
      (drop-drop (length second) (length first) slots.free ∙ ap (λ n. drop n slots.free) (sym (length-append first second)))
