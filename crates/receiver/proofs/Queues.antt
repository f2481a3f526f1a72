-- Reports that go into a queue, and those that are lost. Assumes nothing.
use Rattle.std.proofs.Common.{◌≡◌, ℕ, zero, suc, ◌+◌, ◌-◌, ◌≤◌, min, List, [], ◌∷◌, ◌++◌, length, take, sym, ap, ◌∙◌, ap₂, arith}
use lib.Seq.{take-nil}
use Rattle.std.proofs.lemmas.List.{length-append, length-take, length-drop}
use Rattle.queue.specs.declared.slots.Queue.{Queue}
use Rattle.queue.specs.Waiting.{slots_of, with_behind}
use Rattle.queue.proofs.Laws.{none_behind, behind_then}
use Rattle.reception.specs.declared.Report.{Report}
use Rattle.reception.specs.Calls.{lost_after}
use Rattle.receiver.specs.Meaning.{free_slots}
use Rattle.receiver.specs.Events.{Queued}

-- none
pub queued_none : (q : Queue Report) → Queued [] q q
queued_none q = sym (ap (λ l. with_behind l (slots_of q)) (take-nil (free_slots q)) ∙ none_behind (slots_of q))

pub lost_none : (free lost : ℕ) → lost ≤ 65535 → lost ≡ lost_after free lost []
lost_none free lost few = omega arith

-- some, and then more
take_append : (n : ℕ) (xs ys : List Report) → take n (xs ++ ys) ≡ take n xs ++ take (n - length xs) ys
take_append zero xs ys = ap (λ n. take n ys) (none (length xs))
  where
    none : (n : ℕ) → 0 ≡ 0 - n
    none n = omega arith
take_append (suc n) [] ys = ap (λ m. take m ys) (whole (suc n))
  where
    whole : (n : ℕ) → n ≡ n - 0
    whole n = omega arith
take_append (suc n) (x ∷ xs) ys = ap (λ l. x ∷ l) (take_append n xs ys ∙ ap (λ m. take n xs ++ take m ys) (less n (length xs)))
  where
    less : (n m : ℕ) → n - m ≡ suc n - suc m
    less n m = omega arith

pub fewer_slots : (xs : List Report) (q later : Queue Report) → Queued xs q later → free_slots later ≡ free_slots q - length xs
fewer_slots xs q later w =
    omega (arith, ap (λ s. length s.free) w, length-drop (length (take (free_slots q) xs)) (slots_of q).free, length-take (free_slots q) xs)

pub queued_then : (xs ys : List Report) (q mid later : Queue Report) → Queued xs q mid → Queued ys mid later → Queued (xs ++ ys) q later
queued_then xs ys q mid later first second =
    second ∙ ap₂ (λ n s. with_behind (take n ys) s) (fewer_slots xs q mid first) first
    ∙ behind_then (take (free_slots q) xs) (take (free_slots q - length xs) ys) (slots_of q)
    ∙ ap (λ l. with_behind l (slots_of q)) (sym (take_append (free_slots q) xs ys))

pub lost_then : (free left lost : ℕ) (xs ys : List Report) → left ≡ free - length xs → lost_after left (lost_after free lost xs) ys ≡ lost_after free lost (xs ++ ys)
lost_then free left lost xs ys e = by (length xs) (length ys) (length (xs ++ ys)) (length-append xs ys) e
  where
    by : (m n all : ℕ) → all ≡ m + n → left ≡ free - m → min 65535 (min 65535 (lost + (m - free)) + (n - left)) ≡ min 65535 (lost + (all - free))
    by m n all whole e = omega arith
