-- The oldest of candidates that stand in cells, one behind the other. Assumes nothing.
use Rattle.std.proofs.Common.{◌≡◌, ℕ, zero, suc, ◌+◌, ◌-◌, ◌*◌, ◌/◌, ◌%◌, ◌<◌, ◌≤◌, true, List, [], ◌∷◌, ◌++◌, length, get_or, take, drop, set, Ok, Some, None, Option, sym, refl, ap, ◌∙◌, ap₂, arith}
use Rattle.std.proofs.lemmas.List.{take_all, take_more, take_more_set, length-drop, length-take-le, get_or-drop, get_or-take, take-take, drop-take, drop-drop}
use Rattle.hold.specs.Candidates.{Candidate, stretch_answer, after_stretch, after_release}
use Rattle.cells.specs.declared.cell.Cell.{Cell}
use Rattle.cells.specs.declared.counts.Counts.{Counts}
use Rattle.cells.specs.Cells.{octets_of, first_count, grouped, parted, added, unfinished_in}
use Rattle.cells.specs.Held.{held_by, finished_of, opened_of, Counted, length_used, oldest_of, Oldest, blank}
use Rattle.cells.specs.Sound.{length_octets_take}
use Rattle.cells.proofs.Waiting.{released, whole_length, stretch_inside, stretch_read, stretch_past, kept_past}
use Rattle.cells.proofs.Groups.{get_or_octets_of, length_grouped, few_parts, First, first_of}

-- where the oldest candidate has an octet, one waits
pub some_wait : (n : ℕ) (cells : List Cell) → 0 < length (oldest_of (grouped n cells)) → 0 < n
some_wait zero cells h = absurd (omega arith)
some_wait (suc n) cells h = omega arith

-- one octet more of a stretch
pub read_more : (candidate memory : List ℕ) (place i octet : ℕ) → take i memory ≡ take i (drop place candidate) → i < length memory → place + i < length candidate → octet ≡ get_or candidate (place + i) 0 →
    take (i + 1) (set memory i octet) ≡ take (i + 1) (drop place candidate)
read_more candidate memory place i octet so_far h inside is =
    take_more_set memory i octet h ∙ ap₂ (λ l x. l ++ x ∷ []) so_far (is ∙ sym (get_or-drop place candidate i 0))
    ∙ sym (take_more (drop place candidate) i 0 (omega (arith, length-drop place candidate)))

module _ (counts : Counts) (cells : List Cell) (counted : Counted counts cells) where
  abbrev used_cells : List Cell
  used_cells = take counts.used cells

  abbrev finished : List Candidate
  finished = finished_of counts cells

  pub length_finished : counts.waiting ≡ length finished
  length_finished = sym (length_grouped counts.waiting used_cells)

  module _ (some : 0 < counts.waiting) where
    pub first : First counts.waiting used_cells
    first = first_of counts.waiting used_cells some counted.whole

    pub length_first : length (oldest_of finished) ≡ 7 * first_count used_cells
    length_first = ap (λ fs. length (oldest_of fs)) first.candidates ∙ length_octets_take (first_count used_cells) used_cells first.within

    waits : 0 < length finished
    waits = omega (arith, length_finished)

    pub is_oldest : (n : ℕ) → n ≡ first_count used_cells → Oldest counts cells n
    is_oldest n is =
        let octets : length (oldest_of finished) ≡ 7 * n = omega (arith, length_first) in
        let c = first_count used_cells in
        record {
          some = some;
          counted = is;
          not_empty = omega (arith, first.some);
          within = omega (arith, first.within, length_used counts cells counted);
          others = omega (arith, few_parts (counts.waiting - 1) (drop c used_cells) first.whole, length-drop c used_cells, length_used counts cells counted);
          octets = octets;
          answer = whole_length finished waits ∙ ap Ok octets;
          released = released finished waits;
          stretch_past = λ place memory h. stretch_past finished place memory waits (omega arith);
          kept_past = λ place memory h. kept_past finished place memory waits (omega arith);
        }

    pub stretch_answered : (place : ℕ) (memory : List ℕ) → length memory ≤ length (oldest_of finished) - place → stretch_answer finished place memory ≡ Ok tt
    stretch_answered place memory h = stretch_inside finished place memory waits h

    pub oldest_short : length (oldest_of finished) ≤ 7 * 65535
    oldest_short = omega (arith, length_first, first.within, length_used counts cells counted, counted.within, counted.most)

    -- what is read at last is the stretch
    pub all_read : (place i : ℕ) (memory later : List ℕ) → length memory ≤ length (oldest_of finished) - place → length later ≡ length memory → length memory ≤ i →
        take i later ≡ take i (drop place (oldest_of finished)) → i ≤ length later → later ≡ after_stretch finished place memory
    all_read place i memory later h same end read inside =
        let all : i ≡ length memory = omega arith in
        sym (take_all i later (omega arith)) ∙ read ∙ ap (λ n. take n (drop place (oldest_of finished))) all ∙ stretch_read finished place memory waits h

  -- the octet at a place of the oldest candidate is in the cell that comes a seventh as far
  module _ (place : ℕ) (h : place < length (oldest_of finished)) where
    some_waits : 0 < counts.waiting
    some_waits = some_wait counts.waiting used_cells (omega arith)

    pub turn_below : place / 7 < counts.used
    turn_below = omega (arith, length_first some_waits, (first some_waits).within, length_used counts cells counted)

    pub octet_at : get_or (get_or cells (place / 7) blank).octets (place % 7) 0 ≡ get_or (oldest_of finished) place 0
    octet_at =
        let c = first_count used_cells in
        let oldest = first some_waits in
        let before : place / 7 < c = omega (arith, length_first some_waits) in
        ap (λ x. get_or x.octets (place % 7) 0)
        (sym (get_or-take c used_cells (place / 7) blank before ∙ get_or-take counts.used cells (place / 7) blank turn_below))
        ∙ sym (ap (λ fs. get_or (oldest_of fs) place 0) oldest.candidates ∙ get_or_octets_of (take c used_cells) place blank (omega (arith, length_first some_waits, length-take-le c used_cells oldest.within)))

-- the first cell has the count of the oldest candidate
pub first_counted : (counts : Counts) (cells : List Cell) → counts.waiting ≤ counts.used → 0 < counts.waiting → (get_or cells 0 blank).codeblocks ≡ first_count (take counts.used cells)
first_counted counts cells few some =
    ap (λ x. x.codeblocks) (sym (get_or-take counts.used cells 0 blank (omega (arith, few)))) ∙ sym (first_count_get_or (take counts.used cells))
  where
    first_count_get_or : (cells : List Cell) → first_count cells ≡ (get_or cells 0 blank).codeblocks
    first_count_get_or [] = refl
    first_count_get_or (cell ∷ cells) = refl

-- behind the oldest candidate's cells the others begin
module _ (counts : Counts) (cells now : List Cell) (n : ℕ) (counted : Counted counts cells) (oldest : Oldest counts cells n)
    (behind : take (held_by counts - n) now ≡ drop n (take (held_by counts) cells)) where
  abbrev left : ℕ
  left = counts.used - n

  rest : take left now ≡ drop (first_count (take counts.used cells)) (take counts.used cells)
  rest =
      let opens = added counts.unfinished in
      let back : n + left ≡ counts.used = omega (arith, oldest.within) in
      let few : left ≤ held_by counts - n = omega (arith, oldest.within) in
      sym (take-take left (held_by counts - n) now few) ∙ ap (take left) behind
      ∙ sym (drop-take n left (take (held_by counts) cells)) ∙ ap (λ k. drop n (take k (take (held_by counts) cells))) back
      ∙ ap (drop n) (take-take counts.used (held_by counts) cells (omega arith)) ∙ ap (λ k. drop k (take counts.used cells)) oldest.counted

  open_cells : take (added counts.unfinished) (drop left now) ≡ take (added counts.unfinished) (drop counts.used cells)
  open_cells =
      let opens = added counts.unfinished in
      let back : n + left ≡ counts.used = omega (arith, oldest.within) in
      let all : left + opens ≡ held_by counts - n = omega (arith, oldest.within) in
      sym (drop-take left opens now) ∙ ap (λ k. drop left (take k now)) all ∙ ap (drop left) behind
      ∙ drop-drop left n (take (held_by counts) cells) ∙ ap (λ k. drop k (take (held_by counts) cells)) back
      ∙ drop-take counts.used opens cells

  same_open : (unfinished : Option ℕ) (xs ys : List Cell) → take (added unfinished) xs ≡ take (added unfinished) ys → unfinished_in unfinished xs ≡ unfinished_in unfinished ys
  same_open None xs ys e = refl
  same_open (Some k) xs ys e = ap (λ l. Some (octets_of l)) e

  pub finished_behind : grouped (counts.waiting - 1) (take left now) ≡ after_release (finished_of counts cells)
  finished_behind = ap (grouped (counts.waiting - 1)) rest ∙ sym (ap after_release (first counts cells counted oldest.some).candidates)

  pub whole_behind : parted (counts.waiting - 1) (take left now) ≡ true
  whole_behind = ap (parted (counts.waiting - 1)) rest ∙ (first counts cells counted oldest.some).whole

  pub open_behind : unfinished_in counts.unfinished (drop left now) ≡ opened_of counts cells
  open_behind = same_open counts.unfinished (drop left now) (drop counts.used cells) open_cells
