-- What a queue's slots hold after a put and after a take. Assumes nothing.
use Rattle.std.proofs.Common.{◌≡◌, ℕ, zero, suc, ◌+◌, ◌-◌, ◌<◌, ◌≤◌, List, [], ◌∷◌, ◌++◌, length, take, drop, set, Some, sym, ap, ◌∙◌, ap₂, arith}
use Rattle.std.proofs.lemmas.List.{take-append-le, drop-append-le, take_more_set, drop-set-lt, drop-drop}
use Rattle.circular.specs.Circle.{round_from}
use Rattle.circular.specs.Turns.{in_turn}
use Rattle.queue.specs.Waiting.{waiting, capacity, Slots, slots_of, with_behind, without_oldest, front}
use Rattle.queue.specs.declared.slots.Queue.{Queue}

module _ {X : Type 0} where
  -- so many of the slots are filled
  abbrev pub filled : ℕ → List X → Slots X
  filled n xs = record { waiting = take n xs; free = drop n xs }

  one_filled : (xs : List X) (n : ℕ) (x : X) → n < length xs → filled (n + 1) (set xs n x) ≡ with_behind (x ∷ []) (filled n xs)
  one_filled xs n x h = ap₂ (λ (w f : List X). record { waiting = w; free = f }) (take_more_set xs n x h) (drop-set-lt (n + 1) xs n x (omega arith) ∙ sym (drop-drop 1 n xs))

  first_freed : (xs : List X) (n : ℕ) (x : X) → n ≤ length xs → front (take n xs) ≡ Some x → filled (n - 1) (round_from 1 xs) ≡ without_oldest (filled n xs)
  first_freed xs zero x few e = absurd (grind (arith, e))
  first_freed [] (suc n) x few e = absurd (omega arith)
  first_freed (y ∷ ys) (suc n) x few e =
      let less : suc n - 1 ≡ n = omega arith in
      ap (λ k. filled k (ys ++ y ∷ [])) less
      ∙ ap₂ (λ (w f : List X). record { waiting = w; free = f }) (take-append-le n ys (y ∷ []) (omega arith)) (drop-append-le n ys (y ∷ []) (omega arith))

  pub put_behind : (q : Queue X) (after : List X) (turn : ℕ) (x : X) → q.count < capacity q → turn ≡ q.count → after ≡ set (in_turn q.slots) turn x →
      filled (q.count + 1) after ≡ with_behind (x ∷ []) (slots_of q)
  put_behind q after turn x room next written =
      ap (filled (q.count + 1)) (written ∙ ap (λ n. set (in_turn q.slots) n x) next) ∙ one_filled (in_turn q.slots) q.count x room

  pub taken_off : (q : Queue X) (after : List X) (x : X) → front (waiting q) ≡ Some x → after ≡ round_from 1 (in_turn q.slots) → filled (q.count - 1) after ≡ without_oldest (slots_of q)
  taken_off q after x oldest turned = ap (filled (q.count - 1)) turned ∙ first_freed (in_turn q.slots) q.count x q.within oldest
