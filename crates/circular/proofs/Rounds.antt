-- A list in its turn: from a later place on, one by one, and after a write. Assumes nothing.
use Rattle.std.proofs.Common.{◌≡◌, ℕ, ◌+◌, ◌-◌, ◌<◌, ◌≤◌, List, ◌++◌, length, take, drop, set, sym, ap, ◌∙◌, ap₂, inl, inr, arith, take-add}
use lib.Seq.{take-set-lt, take-append-add, drop-append-add}
use Rattle.std.proofs.lemmas.List.{append_assoc, length-append, length-take, length-drop, take-append-drop, take-take, drop-drop, take-append-le, drop-append-le, append-nil, take_all, drop_all, set_past, take-set-le, drop-set-lt, drop-set-add, set-append_left, set-append_right}
use Rattle.circular.specs.Circle.{round_from, Turned}

module _ {X : Type 0} (xs : List X) (first : ℕ) where
  pub length_round_from : length (round_from first xs) ≡ length xs
  length_round_from = omega (arith, length-append (drop first xs) (take first xs), length-drop first xs, length-take first xs)

  module _ (turn place : ℕ) where
    -- a write at a place is a write in its turn
    pub round_from_set : (x : X) → turn < length xs → Turned (length xs) first turn place → round_from first (set xs place x) ≡ set (round_from first xs) turn x
    round_from_set x h (inl e) =
        ap (λ i. round_from first (set xs i x)) e.1 ∙ ap₂ ◌++◌ (drop-set-add first xs turn x) (take-set-le first xs (first + turn) x (omega arith))
        ∙ sym (set-append_left (drop first xs) (take first xs) turn x (omega (arith, length-drop first xs)))
    round_from_set x h (inr e) =
        let before : turn - (length xs - first) ≡ place = omega arith in
        ap₂ ◌++◌ (drop-set-lt first xs place x (omega arith)) (take-set-lt first xs place x (omega arith) ∙ ap (λ i. set (take first xs) i x) (sym before))
        ∙ sym (set-append_right (drop first xs) (take first xs) (length xs - first) turn x (length-drop first xs) (omega arith))

    -- from a later place on, what is passed over comes last
    pub round_from_on : turn ≤ length xs → Turned (length xs) first turn place → round_from place xs ≡ round_from turn (round_from first xs)
    round_from_on h (inl e) =
        let front = take first xs in
        let back = drop first xs in
        let few : turn ≤ length back = omega (arith, length-drop first xs) in
        ap (λ i. round_from i xs) e.1
        ∙ ap₂ ◌++◌ (sym (drop-drop turn first xs)) (take-add first turn xs)
        ∙ sym (append_assoc (drop turn back) front (take turn back))
        ∙ sym (ap₂ ◌++◌ (drop-append-le turn back front few) (take-append-le turn back front few))
    round_from_on h (inr e) =
        let front = take first xs in
        let back = drop first xs in
        let on : turn ≡ length back + place = omega (arith, length-drop first xs) in
        ap (λ l. l ++ take place xs) (ap (drop place) (sym (take-append-drop first xs)) ∙ drop-append-le place front back (omega (arith, length-take first xs)))
        ∙ append_assoc (drop place front) back (take place xs)
        ∙ ap (λ l. drop place front ++ (back ++ l)) (sym (take-take place first xs (omega arith)))
        ∙ sym (ap (λ i. drop i (back ++ front) ++ take i (back ++ front)) on ∙ ap₂ ◌++◌ (drop-append-add back front place) (take-append-add back front place))

module _ {X : Type 0} (xs : List X) where
  pub round_from_start : round_from 0 xs ≡ xs
  round_from_start = append-nil xs

  pub past : (first turn : ℕ) (x : X) → length xs ≤ turn → set (round_from first xs) turn x ≡ round_from first xs
  past first turn x h = set_past (round_from first xs) turn x (omega (arith, length_round_from xs first))

  pub past_all : (first turns : ℕ) → length xs ≤ turns → round_from turns (round_from first xs) ≡ round_from first xs
  past_all first turns h =
      let round = round_from first xs in
      let long = length_round_from xs first in
      ap₂ ◌++◌ (drop_all turns round (omega (arith, long))) (take_all turns round (omega (arith, long)))

-- what a write in a circle cites, and what passing its cells over does
pub ruleset writes = (length_round_from, round_from_set, past)

pub ruleset passes = (length_round_from, round_from_on, past_all)
