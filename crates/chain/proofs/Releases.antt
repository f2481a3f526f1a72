-- The oldest candidate's cells put behind those that are held. Assumes nothing.
use Rattle.std.proofs.Common.{◌≡◌, ℕ, zero, suc, ◌+◌, ◌-◌, ◌<◌, ◌≤◌, ◌≢◌, true, eqb, ltb, cond, List, length, get_or, take, drop, sym, refl, inl, inr, ap, ◌∙◌, ap₂, arith, length-set}
use Rattle.std.proofs.lemmas.Bool.{cond-true, cond-false}
use Rattle.std.proofs.lemmas.Bool.Decides.{eqb_tells}
use Rattle.std.proofs.lemmas.List.{drop-map, get_or-set_same, get_or-set_other}
use Rattle.hold.specs.Candidates.{after_release}
use Rattle.cells.specs.Cells.{first_count, grouped, parted, added, unfinished_in}
use Rattle.cells.specs.Held.{Oldest}
use Rattle.cells.proofs.Oldest.{whole_behind, finished_behind, open_behind}
use Rattle.chain.specs.declared.chain.LinkedCell.{LinkedCell as Cell}
use Rattle.chain.specs.declared.chain.Chain.{Chain}
use Rattle.chain.specs.Links.{Chained, blank, cell_at, after, nodes, rooms, in_turn, times, EachOnce, no_node, last_cells_noted, relinked, moved_behind, first_behind}
use Rattle.chain.specs.Held.{capacity_of, finished_in, opened_in}
use Rattle.chain.proofs.Links.{nodes_add, after_add, after_more, get_nodes, times_append, after_elsewhere, nodes_elsewhere, nodes_relinked, after_relinked, before_it, behind_it, below, occurs}
use Rattle.chain.proofs.Turns.{front_nodes, drop_nodes, length_in_turn, take_in_turn}
use Rattle.chain.proofs.Oldest.{as_many, held_fits, first_below, used_turn, cell_below, end_cell, oldest_ends}

-- the same cells in the same order: so are fewer of them, and so is each
module _ (m : ℕ) (later cells : List Cell) (from place : ℕ) (same : nodes m later from ≡ nodes m cells place) where
  pub fewer : (u : ℕ) → u ≤ m → nodes u later from ≡ nodes u cells place
  fewer u h = sym (front_nodes later u m from h) ∙ ap (take u) same ∙ front_nodes cells u m place h

  pub same_place : (u : ℕ) → u < m → after u later from ≡ after u cells place
  same_place u h =
      ap (λ node. node.place) (sym (get_nodes later m u from no_node h)) ∙ ap (λ l. (get_or l u no_node).place) same
      ∙ ap (λ node. node.place) (get_nodes cells m u place no_node h)

-- the first n cells are put behind the m that follow them
pub record Moves (chain : Chain) (n m : ℕ) (now : List Cell) (front : ℕ) : Type 0 where
  pub as_many : length now ≡ length chain.cells.now
  pub cells : nodes m now front ≡ nodes m chain.cells.now (after n chain.cells.now chain.first)
  pub behind : after m now front ≡ chain.first
  pub once : EachOnce (length now) (nodes (length now) now front)

module _ (chain : Chain) (n m : ℕ) (some : 0 < n) (end last free : ℕ) (fits : n + m ≤ length chain.cells.now)
    (end_is : end ≡ after (n - 1) chain.cells.now chain.first) (last_is : last ≡ after (n + m - 1) chain.cells.now chain.first) (free_is : free ≡ after (n + m) chain.cells.now chain.first) where
  abbrev cells : List Cell
  cells = chain.cells.now

  abbrev first : ℕ
  first = chain.first

  abbrev rest : ℕ
  rest = length chain.cells.now - (n + m)

  abbrev closed : List Cell
  closed = relinked cells last first

  abbrev moved : List Cell
  moved = relinked closed end free

  abbrev front : ℕ
  front = (cell_at closed end).next

  end_below : end < length chain.cells.now
  end_below = omega (arith, end_is, below cells first chain.chained.each_once (n - 1) (omega arith))

  last_below : last < length chain.cells.now
  last_below = omega (arith, last_is, below cells first chain.chained.each_once (n + m - 1) (omega arith))

  closed_length : length closed ≡ length chain.cells.now
  closed_length = length-set cells last (record (cell_at cells last) { next = first })

  end_below_closed : end < length closed
  end_below_closed = omega (arith, closed_length, end_below)

  moved_length : length moved ≡ length chain.cells.now
  moved_length = length-set closed end (record (cell_at closed end) { next = free }) ∙ closed_length

  -- where the two cells do not stand
  no_last_before : (j k from : ℕ) → j + k ≤ n + m - 1 → from ≡ after j cells first → times last (nodes k cells from) ≡ 0
  no_last_before j k from h is =
      ap₂ (λ p q. times p (nodes k cells q)) last_is is ∙ before_it cells first chain.chained.each_once (n + m - 1) j k h (omega arith)

  no_last_behind : times last (nodes rest cells free) ≡ 0
  no_last_behind =
      ap₂ (λ p q. times p (nodes rest cells q)) last_is free_is ∙ behind_it cells first chain.chained.each_once (n + m - 1) (n + m) rest (omega arith) (omega arith)

  no_end_before : times end (nodes (n - 1) cells first) ≡ 0
  no_end_before =
      ap (λ p. times p (nodes (n - 1) cells first)) end_is ∙ before_it cells first chain.chained.each_once (n - 1) 0 (n - 1) (omega arith) (omega arith)

  no_end_behind : (j k from : ℕ) → n - 1 < j → j + k ≤ length chain.cells.now → from ≡ after j cells first → times end (nodes k cells from) ≡ 0
  no_end_behind j k from h inside is =
      ap₂ (λ p q. times p (nodes k cells q)) end_is is ∙ behind_it cells first chain.chained.each_once (n - 1) j k h inside

  before : (n - 1) + 1 ≡ n
  before = omega arith

  -- the cells that are put behind the others stay in their order
  oldest_closed : (k : ℕ) → suc k ≡ n → nodes n closed first ≡ nodes n cells first
  oldest_closed k e =
      let h : times last (nodes k cells first) ≡ 0 = no_last_before 0 k first (omega arith) refl in
      ap (λ i. nodes i closed first) (sym e) ∙ nodes_relinked k cells first last first last_below h ∙ ap (λ i. nodes i cells first) e

  closed_before : nodes (n - 1) closed first ≡ nodes (n - 1) cells first
  closed_before = nodes_elsewhere (n - 1) cells first last (record (cell_at cells last) { next = first }) (no_last_before 0 (n - 1) first (omega arith) refl)

  no_end_closed : times end (nodes (n - 1) closed first) ≡ 0
  no_end_closed = ap (times end) closed_before ∙ no_end_before

  oldest_moved : nodes n moved first ≡ nodes n cells first
  oldest_moved =
      let k = n - 1 in
      let e : suc (n - 1) ≡ n = omega arith in
      ap (λ i. nodes i moved first) (sym e) ∙ nodes_relinked (n - 1) closed first end free end_below_closed no_end_closed
      ∙ ap (λ i. nodes i closed first) e ∙ oldest_closed (n - 1) e

  free_follows : after n moved first ≡ free
  free_follows =
      let there : after (n - 1) closed first ≡ end =
      after_elsewhere (n - 1) cells first last (record (cell_at cells last) { next = first }) (no_last_before 0 (n - 1) first (omega arith) refl) ∙ sym end_is in
      ap (λ i. after i moved first) (sym before) ∙ after_relinked (n - 1) closed first end free end_below_closed no_end_closed there

  -- so do the free ones
  free_closed : nodes rest closed free ≡ nodes rest cells free
  free_closed = nodes_elsewhere rest cells free last (record (cell_at cells last) { next = first }) no_last_behind

  free_moved : nodes rest moved free ≡ nodes rest cells free
  free_moved =
      nodes_elsewhere rest closed free end (record (cell_at closed end) { next = free })
      (ap (times end) free_closed ∙ no_end_behind (n + m) rest free (omega arith) (omega arith) free_is)
      ∙ free_closed

  -- and those that stay in use, which come first now
  record Stays : Type 0 where
    pub cells : nodes m moved front ≡ nodes m chain.cells.now (after n chain.cells.now first)
    pub behind : after m moved front ≡ first

  stays_none : m ≡ 0 → Stays
  stays_none none =
      let same : last ≡ end = last_is ∙ ap (λ i. after i cells first) (let e : n + m - 1 ≡ n - 1 = omega arith in e) ∙ sym end_is in
      let is_first : front ≡ first =
      ap (λ p. (cell_at closed p).next) (sym same) ∙ ap (λ c. c.next) (get_or-set_same cells last (record (cell_at cells last) { next = first }) blank last_below) in
      record {
        cells = ap (λ i. nodes i moved front) none ∙ sym (ap (λ i. nodes i cells (after n cells first)) none);
        behind = ap (λ i. after i moved front) none ∙ is_first;
      }

  stays_some : (k : ℕ) → m ≡ suc k → Stays
  stays_some k more =
      let start = after n cells first in
      let other : end ≢ last = λ e. absurd (omega (
        arith,
        ap (λ p. times p (nodes (k + 1) cells start)) e,
        no_end_behind n (k + 1) start (omega arith) (omega arith) refl,
        ap (λ p. times p (nodes (k + 1) cells start)) last_there,
        occurs cells (k + 1) k start (omega arith),
      )) in
      let is_start : front ≡ start =
      ap (λ c. c.next) (get_or-set_other cells last end (record (cell_at cells last) { next = first }) blank other)
      ∙ ap (λ p. (cell_at cells p).next) end_is ∙ sym (after_more cells (n - 1) first) ∙ ap (λ i. after i cells first) before in
      let no_last : times last (nodes k cells start) ≡ 0 = no_last_before n k start (omega arith) refl in
      let in_closed : nodes (suc k) closed start ≡ nodes (suc k) cells start = nodes_relinked k cells start last first last_below no_last in
      let no_end : times end (nodes (suc k) closed start) ≡ 0 = ap (times end) in_closed ∙ no_end_behind n (suc k) start (omega arith) (omega arith) refl in
      let in_moved = nodes_elsewhere (suc k) closed start end (record (cell_at closed end) { next = free }) no_end ∙ in_closed in
      let on : suc k ≡ k + 1 = omega arith in
      let first_next = ap (λ i. after i closed start) on ∙ after_relinked k cells start last first last_below no_last (sym last_there) in
      record {
        cells = ap₂ (λ i p. nodes i moved p) more is_start ∙ in_moved ∙ ap (λ i. nodes i cells start) (sym more);
        behind = ap₂ (λ i p. after i moved p) more is_start ∙ after_elsewhere (suc k) closed start end (record (cell_at closed end) { next = free }) no_end ∙ first_next;
      }
    where
      last_there : last ≡ after k cells (after n cells first)
      last_there = last_is ∙ ap (λ i. after i cells first) (let e : n + m - 1 ≡ n + k = omega arith in e) ∙ after_add cells n k first

  stays_of : (i : ℕ) → m ≡ i → Stays
  stays_of zero e = stays_none e
  stays_of (suc k) e = stays_some k e

  stays : Stays
  stays = stays_of m refl

  -- each cell is there once, as before
  moved_all : (of : ℕ) → times of (nodes (length chain.cells.now) moved front) ≡ times of (nodes (length chain.cells.now) cells first)
  moved_all of =
      let there : m + (n + rest) ≡ length chain.cells.now = omega arith in
      let was : n + (m + rest) ≡ length chain.cells.now = omega arith in
      let now = ap (λ i. times of (nodes i moved front)) (sym there)
      ∙ ap (times of) (nodes_add moved m (n + rest) front) ∙ times_append of (nodes m moved front) (nodes (n + rest) moved (after m moved front)) in
      let now_oldest = ap (λ p. times of (nodes (n + rest) moved p)) stays.behind
      ∙ ap (times of) (nodes_add moved n rest first) ∙ times_append of (nodes n moved first) (nodes rest moved (after n moved first)) in
      let now_free = ap (λ p. times of (nodes rest moved p)) free_follows ∙ ap (times of) free_moved in
      let start = after n cells first in
      let old = ap (λ i. times of (nodes i cells first)) (sym was)
      ∙ ap (times of) (nodes_add cells n (m + rest) first) ∙ times_append of (nodes n cells first) (nodes (m + rest) cells start) in
      let old_rest = ap (times of) (nodes_add cells m rest start) ∙ times_append of (nodes m cells start) (nodes rest cells (after m cells start)) in
      let old_free = ap (λ p. times of (nodes rest cells p)) (sym (free_is ∙ after_add cells n m first)) in
      omega (arith, now, now_oldest, now_free, old, old_rest, old_free, ap (times of) stays.cells, ap (times of) oldest_moved)

  moved_once : EachOnce (length moved) (nodes (length moved) moved front)
  moved_once of =
      ap (λ i. times of (nodes i moved front)) moved_length ∙ moved_all of ∙ chain.chained.each_once of
      ∙ ap (λ i. cond (ltb of i) 1 0) (sym moved_length)

  pub moves : Moves chain n m moved front
  moves = record { as_many = moved_length; cells = stays.cells; behind = stays.behind; once = moved_once }

-- a chain whose oldest candidate is released
module _ (chain : Chain) (n : ℕ) (oldest : Oldest chain.counts (in_turn chain.cells.now chain.first) n) where
  abbrev old_cells : List Cell
  old_cells = chain.cells.now

  abbrev used : ℕ
  used = chain.counts.used

  abbrev opens : ℕ
  opens = added chain.counts.unfinished

  abbrev others : ℕ
  others = used - n + opens

  abbrev end : ℕ
  end = (cell_at old_cells chain.first).last

  end_is : end ≡ after (n - 1) old_cells chain.first
  end_is = end_cell chain oldest.some n oldest

  all_held : n + others ≡ used + opens
  all_held = omega (arith, oldest.within)

  fits : n + others ≤ length old_cells
  fits = omega (arith, all_held, held_fits chain)

  last_is : chain.last_held ≡ after (n + others - 1) old_cells chain.first
  last_is =
      chain.chained.holds (omega (arith, oldest.within, oldest.not_empty)) ∙ ap (λ i. after (i - 1) old_cells chain.first) (sym all_held)

  free_is : chain.first_free ≡ after (n + others) old_cells chain.first
  free_is = chain.chained.frees ∙ ap (λ i. after i old_cells chain.first) (sym all_held)

  abbrev left : List Cell
  left = relinked (relinked old_cells chain.last_held chain.first) end chain.first_free

  abbrev front_left : ℕ
  front_left = (cell_at (relinked old_cells chain.last_held chain.first) end).next

  moved_left : Moves chain n others left front_left
  moved_left = moves chain n others oldest.not_empty end chain.last_held chain.first_free fits end_is last_is free_is

  abbrev opens_at : ℕ
  opens_at = cond (eqb opens 0) chain.first chain.first_open

  used_again : n + (used - n) ≡ used
  used_again = omega (arith, oldest.within)

  -- what was held behind the oldest candidate comes first
  behind : take (used + opens - n) (in_turn left front_left) ≡ drop n (take (used + opens) (in_turn old_cells chain.first))
  behind =
      let few : used + opens - n ≡ others = omega (arith, oldest.within) in
      ap (λ k. take k (in_turn left front_left)) few
      ∙ take_in_turn left front_left others (omega (arith, moved_left.as_many, fits)) ∙ ap rooms moved_left.cells
      ∙ sym (ap (drop n) (take_in_turn old_cells chain.first (used + opens) (held_fits chain))
      ∙ drop-map (λ node. node.room) n (nodes (used + opens) old_cells chain.first)
      ∙ ap rooms (drop_nodes old_cells chain.first n others (used + opens) all_held))

  used_left : nodes (used - n) left front_left ≡ drop (first_count (rooms (nodes used old_cells chain.first))) (nodes used old_cells chain.first)
  used_left =
      fewer others left old_cells front_left (after n old_cells chain.first) moved_left.cells (used - n) (omega arith)
      ∙ sym (drop_nodes old_cells chain.first n (used - n) used used_again)
      ∙ ap (λ c. drop c (nodes used old_cells chain.first)) (oldest.counted ∙ ap first_count (used_turn chain))

  place_left : (u : ℕ) → u < others → after u left front_left ≡ after (n + u) old_cells chain.first
  place_left u h =
      same_place others left old_cells front_left (after n old_cells chain.first) moved_left.cells u h
      ∙ sym (after_add old_cells n u chain.first)

  opens_left : opens_at ≡ after (used - n) left front_left
  opens_left =
      elim (eqb_tells opens 0) [
        | inl none ↦
            let e : others ≡ used - n = omega (arith, none.1) in
            cond-true (eqb opens 0) chain.first chain.first_open none.0 ∙ sym moved_left.behind ∙ ap (λ i. after i left front_left) e
        | inr any ↦
            let few : used - n < others = omega (arith, any.1) in
            cond-false (eqb opens 0) chain.first chain.first_open any.0 ∙ chain.chained.opens
            ∙ ap (λ i. after i old_cells chain.first) (sym used_again) ∙ sym (place_left (used - n) few)
      ]

  release_keeps : Chained left front_left opens_at chain.first chain.last_finished chain.last_held (used - n) (chain.counts.waiting - 1) opens
  release_keeps =
      record {
        each_once = moved_left.once;
        ends = ap (last_cells_noted (chain.counts.waiting - 1)) used_left ∙ (oldest_ends chain oldest.some).rest;
        opens = opens_left;
        frees = sym moved_left.behind;
        finishes = λ h.
            let e : used - 1 ≡ n + (used - n - 1) = omega arith in
            chain.chained.finishes (omega arith) ∙ ap (λ i. after i old_cells chain.first) e ∙ sym (place_left (used - n - 1) (omega arith));
        holds = λ h.
            let e : n + others - 1 ≡ n + (others - 1) = omega arith in
            last_is ∙ ap (λ i. after i old_cells chain.first) e ∙ sym (place_left (others - 1) (omega arith));
      }

  many_left : length (in_turn left front_left) ≡ capacity_of chain
  many_left = length_in_turn left front_left ∙ moved_left.as_many ∙ as_many chain

  may_move_now : (end < length old_cells) × (chain.last_held < length old_cells)
  may_move_now = (
    omega (arith, end_is, cell_below chain (n - 1) (omega (arith, fits, oldest.not_empty))),
    omega (arith, last_is, cell_below chain (n + others - 1) (omega (arith, fits, oldest.not_empty))),
  )

-- what is kept, and held, after a release
module _ (chain : Chain) (n : ℕ) (oldest : Oldest chain.counts (in_turn chain.cells.now chain.first) n) where
  abbrev now : List Cell
  now = moved_behind chain.cells.now chain.first (cell_at chain.cells.now chain.first).last chain.last_held chain.first_free

  abbrev first_now : ℕ
  first_now = first_behind chain.cells.now chain.first (cell_at chain.cells.now chain.first).last chain.last_held

  abbrev first_open_now : ℕ
  first_open_now = cond (eqb (added chain.counts.unfinished) 0) chain.first chain.first_open

  pub moved_kept : Chained now first_now first_open_now chain.first chain.last_finished chain.last_held (chain.counts.used - n) (chain.counts.waiting - 1) (added chain.counts.unfinished)
  unfolding moved_behind first_behind
  moved_kept = release_keeps chain n oldest

  pub moved_many : length (in_turn now first_now) ≡ capacity_of chain
  unfolding moved_behind first_behind
  moved_many = many_left chain n oldest

  pub moved_whole : parted (chain.counts.waiting - 1) (take (chain.counts.used - n) (in_turn now first_now)) ≡ true
  unfolding moved_behind first_behind
  moved_whole = whole_behind chain.counts (in_turn chain.cells.now chain.first) (in_turn now first_now) n chain.counted oldest (behind chain n oldest)

  pub moved_finished : grouped (chain.counts.waiting - 1) (take (chain.counts.used - n) (in_turn now first_now)) ≡ after_release (finished_in chain)
  unfolding moved_behind first_behind
  moved_finished = finished_behind chain.counts (in_turn chain.cells.now chain.first) (in_turn now first_now) n chain.counted oldest (behind chain n oldest)

  pub moved_opened : unfinished_in chain.counts.unfinished (drop (chain.counts.used - n) (in_turn now first_now)) ≡ opened_in chain
  unfolding moved_behind first_behind
  moved_opened = open_behind chain.counts (in_turn chain.cells.now chain.first) (in_turn now first_now) n chain.counted oldest (behind chain n oldest)

pub may_move : (chain : Chain) (n : ℕ) → Oldest chain.counts (in_turn chain.cells.now chain.first) n →
    ((cell_at chain.cells.now chain.first).last < length chain.cells.now) × (chain.last_held < length chain.cells.now)
may_move chain n oldest = may_move_now chain n oldest

-- what a release cites
pub ruleset releases = (first_below, may_move, moved_finished, moved_opened)
