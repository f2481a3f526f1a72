-- A record that is written segment by segment, from whatever shows each segment's symbols. Assumes nothing.
use Rattle.std.proofs.Common.{◌≡◌, ℕ, ◌+◌, ◌-◌, ◌*◌, ◌<◌, ◌≤◌, Bool, List, [], ◌∷◌, ◌++◌, map, length, get_or, take, drop, sym, ap, ◌∙◌, zero-add, arith}
use Rattle.std.specs.List.{flat_map}
use Rattle.std.proofs.lemmas.Grind.{flat_map-append}
use Rattle.std.proofs.lemmas.List.{append-nil, append_assoc, length-append, length-take-le, length-map, map-append, map_more, drop_at, drop-drop, take_at, take-append-drop}
use Rattle.pass_record.specs.Record.{octets_for, packed, entry, entries, record_of}
use Rattle.pass_record.proofs.Packing.{length_packed}
use Rattle.pass_record.proofs.Places.{length_entries, entries_append, length_record_of}

-- memory in whose front something stands: a block is put right behind it
behind : (was memory done block : List ℕ) (at n : ℕ) → length done ≡ at → memory ≡ done ++ drop at was → take at memory ++ (block ++ drop n (drop at memory)) ≡ (done ++ block) ++ drop (at + n) was
behind was memory done block at n e m = grind (arith, take_at, drop_at, drop-drop, append_assoc)

module _ {X : Type 0} (symbols_of : X → List Bool) (xs : List X) where
  abbrev first : ℕ → List (List Bool)
  first i = map symbols_of (take i xs)

  abbrev all : List (List Bool)
  all = map symbols_of xs

  length_first : (i : ℕ) → i ≤ length xs → length (first i) ≡ i
  length_first i h = length-map (take i xs) symbols_of ∙ length-take-le i xs h

  all_apart : (i : ℕ) → all ≡ first i ++ map symbols_of (drop i xs)
  all_apart i = ap (map symbols_of) (sym (take-append-drop i xs)) ∙ map-append symbols_of (take i xs) (drop i xs)

  -- the first segments take no more octets than all of them
  pub first_most : (i : ℕ) → length (flat_map packed (first i)) ≤ length (flat_map packed all)
  first_most i =
      omega (arith, ap (λ l. length (flat_map packed l)) (all_apart i), ap length (flat_map-append packed (first i) (map symbols_of (drop i xs))), length-append (flat_map packed (first i)) (flat_map packed (map symbols_of (drop i xs))))

  pub record_most : (i : ℕ) → i ≤ length xs → length (record_of (first i)) ≤ length (record_of all)
  record_most i h =
      omega (arith, length_record_of (first i), length_record_of all, first_most i, length_first i h, length-map xs symbols_of)

  -- one segment more
  module _ (i : ℕ) (x : X) (h : i < length xs) (e : x ≡ get_or xs i x) where
    abbrev s : List Bool
    s = symbols_of x

    one_more : first (i + 1) ≡ first i ++ s ∷ []
    one_more = map_more symbols_of xs i x h ∙ ap (λ y. first i ++ symbols_of y ∷ []) (sym e)

    symbols_more : flat_map packed (first (i + 1)) ≡ flat_map packed (first i) ++ packed s
    symbols_more = ap (flat_map packed) one_more ∙ flat_map-append packed (first i) (s ∷ []) ∙ ap (λ l. flat_map packed (first i) ++ l) (append-nil (packed s))

    pub length_more : length (flat_map packed (first (i + 1))) ≡ length (flat_map packed (first i)) + octets_for (length s)
    length_more = ap length symbols_more ∙ length-append (flat_map packed (first i)) (packed s) ∙ ap (λ n. length (flat_map packed (first i)) + n) (length_packed s)

    pub record_more : length (record_of (first (i + 1))) ≡ length (record_of (first i)) + (8 + octets_for (length s))
    record_more =
        omega (arith, length_record_of (first (i + 1)), length_record_of (first i), length_more, length_first i (omega arith), length_first (i + 1) (omega arith))

    entries_more : (begin : ℕ) → length (flat_map packed (first i)) ≡ begin → entries 0 (first (i + 1)) ≡ entries 0 (first i) ++ entry begin s
    entries_more begin b =
        ap (entries 0) one_more ∙ entries_append 0 (first i) (s ∷ [])
        ∙ ap (λ l. entries 0 (first i) ++ l) (append-nil (entry (0 + length (flat_map packed (first i))) s) ∙ ap (λ p. entry p s) (zero-add (length (flat_map packed (first i))) ∙ b))

    pub symbols_put : (was memory block : List ℕ) (begin finish : ℕ) → length (flat_map packed (first i)) ≡ begin → begin + octets_for (length s) ≡ finish
        → memory ≡ flat_map packed (first i) ++ drop begin was → block ≡ packed s
        → take begin memory ++ (block ++ drop (finish - begin) (drop begin memory)) ≡ flat_map packed (first (i + 1)) ++ drop finish was
    symbols_put was memory block begin finish b f m p =
        let on : begin + (finish - begin) ≡ finish = omega arith in
        behind was memory (flat_map packed (first i)) block begin (finish - begin) b m
        ∙ ap (λ l. (flat_map packed (first i) ++ l) ++ drop (begin + (finish - begin)) was) p
        ∙ ap (λ l. l ++ drop (begin + (finish - begin)) was) (sym symbols_more) ∙ ap (λ k. flat_map packed (first (i + 1)) ++ drop k was) on

    pub entry_put : (was memory block : List ℕ) (begin : ℕ) → length (flat_map packed (first i)) ≡ begin
        → memory ≡ entries 0 (first i) ++ drop (8 * i) was → block ≡ entry begin s
        → take (8 * i) memory ++ (block ++ drop (8 * i + 8 - 8 * i) (drop (8 * i) memory)) ≡ entries 0 (first (i + 1)) ++ drop (8 * (i + 1)) was
    entry_put was memory block begin b m p =
        let on : 8 * i + (8 * i + 8 - 8 * i) ≡ 8 * (i + 1) = omega arith in
        let long : length (entries 0 (first i)) ≡ 8 * i = length_entries 0 (first i) ∙ ap (λ n. 8 * n) (length_first i (omega arith)) in
        behind was memory (entries 0 (first i)) block (8 * i) (8 * i + 8 - 8 * i) long m
        ∙ ap (λ l. (entries 0 (first i) ++ l) ++ drop (8 * i + (8 * i + 8 - 8 * i)) was) p
        ∙ ap (λ l. l ++ drop (8 * i + (8 * i + 8 - 8 * i)) was) (sym (entries_more begin b)) ∙ ap (λ k. entries 0 (first (i + 1)) ++ drop k was) on
