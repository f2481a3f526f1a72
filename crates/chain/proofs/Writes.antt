-- A codeblock put into the first free cell, and the first cell of a candidate noting it. Assumes nothing.
use Rattle.std.proofs.Common.{◌≡◌, ℕ, zero, suc, ◌+◌, ◌-◌, ◌<◌, ◌≤◌, true, eqb, List, [], ◌∷◌, ◌++◌, length, get_or, drop, set, cond, ltb, sym, refl, subst, ap, ◌∙◌, ap₂, add-one, arith, length-set}
use Rattle.std.proofs.lemmas.List.{map-set, get_or-set_same, get_or-set_other, length-map, get_or_append_left, drop-append-le, drop-map}
use Rattle.std.proofs.Math.Seq.{set-append_seam}
use Rattle.std.proofs.lemmas.Bool.{and_from, and_parts, eq-eqb, eqb-true}
use Rattle.hold.specs.Candidates.{after_add, finished_after_finish, open_after_finish}
use Rattle.hold.specs.Plain.{plain_showing}
use Rattle.cells.specs.declared.cell.Cell.{Cell as Room}
use Rattle.cells.specs.declared.counts.Counts.{Counts}
use Rattle.cells.specs.Cells.{first_count, parted, added}
use Rattle.cells.specs.Sound.{parts as part_of}
use Rattle.cells.specs.Held.{held_by, finished_of, opened_of, Counted, Adds, Stored, Finishes, Noted}
use Rattle.chain.specs.declared.chain.LinkedCell.{LinkedCell as Cell}
use Rattle.chain.specs.declared.chain.Chain.{Chain}
use Rattle.chain.specs.Links.{Chained, blank, cell_at, after, Node, node_of, nodes, rooms, in_turn, times, EachOnce, no_node, place_in, last_cells_noted, filled, noted}
use Rattle.chain.specs.Held.{capacity_of, finished_in, opened_in}
use Rattle.chain.proofs.Links.{nodes_add, after_add as after_sum, after_more, length_nodes, get_nodes, nodes_elsewhere, after_stays, times_stay, before_it, behind_it, below}
use Rattle.chain.proofs.Turns.{room_at}
use Rattle.chain.proofs.Oldest.{as_many, used_turn}

-- one more candidate behind the others
module _ (last : List Node) (some : 0 < first_count (rooms last)) (noted_last : (get_or last 0 no_node).last ≡ place_in last (first_count (rooms last) - 1)) where
  ended_behind : (n : ℕ) (list : List Node) → parted n (rooms list) ≡ true → last_cells_noted n list ≡ true → last_cells_noted (suc n) (list ++ last) ≡ true
  ended_behind zero [] parts is = and_from (eqb (get_or last 0 no_node).last (place_in last (first_count (rooms last) - 1))) true (eq-eqb _ _ noted_last) refl
  ended_behind zero (node ∷ list) parts is = absurd (omega (arith, eqb-true (suc (length (rooms list))) 0 parts))
  ended_behind (suc n) [] parts is = absurd (omega (arith, (part_of n [] parts).some))
  ended_behind (suc n) (node ∷ list) parts is =
      let c = node.room.codeblocks in
      let all = node ∷ list in
      let p = part_of n (rooms all) parts in
      let long = length-map list (λ x. x.room) in
      let two = and_parts (eqb node.last (place_in all (c - 1))) (last_cells_noted n (drop c all)) is in
      let place = ap (λ x. x.place) (get_or_append_left all last no_node (c - 1) (omega (arith, p.some, p.within, long))) in
      let dropped = drop-append-le c all last (omega (arith, p.within, long)) in
      and_from (eqb node.last (place_in (all ++ last) (c - 1))) (last_cells_noted (suc n) (drop c (all ++ last)))
      (eq-eqb _ _ (eqb-true _ _ two.0 ∙ sym place))
      (ap (last_cells_noted (suc n)) dropped ∙ ended_behind n (drop c all) (ap (parted n) (sym (drop-map (λ x. x.room) c all)) ∙ p.rest) two.1)

-- a write to one of a chain's cells that leaves its link as it is
module _ (chain : Chain) (k place : ℕ) (there : place ≡ after k chain.cells.now chain.first) (k_below : k < length chain.cells.now) where
  pub place_below : place < length chain.cells.now
  place_below = omega (arith, there, below chain.cells.now chain.first chain.chained.each_once k k_below)

  module _ (cell : Cell) (same : cell.next ≡ (cell_at chain.cells.now place).next) where
    abbrev later : List Cell
    later = set chain.cells.now place cell

    length_later : length later ≡ length chain.cells.now
    length_later = length-set chain.cells.now place cell

    after_later : (n from : ℕ) → after n later from ≡ after n chain.cells.now from
    after_later n from = after_stays chain.cells.now place cell same place_below n from

    once_later : EachOnce (length later) (nodes (length later) later chain.first)
    once_later of =
        ap (λ n. times of (nodes n later chain.first)) length_later
        ∙ times_stay chain.cells.now place cell same place_below (length chain.cells.now) chain.first of
        ∙ chain.chained.each_once of ∙ ap (λ n. cond (ltb of n) 1 0) (sym length_later)

    -- the cells before it and those behind it
    stretch_before : (j n from : ℕ) → j + n ≤ k → from ≡ after j chain.cells.now chain.first → nodes n later from ≡ nodes n chain.cells.now from
    stretch_before j n from h is =
        nodes_elsewhere n chain.cells.now from place cell
        (ap₂ (λ p q. times p (nodes n chain.cells.now q)) there is ∙ before_it chain.cells.now chain.first chain.chained.each_once k j n h k_below)

    stretch_behind : (j n from : ℕ) → k < j → j + n ≤ length chain.cells.now → from ≡ after j chain.cells.now chain.first → nodes n later from ≡ nodes n chain.cells.now from
    stretch_behind j n from h fits is =
        nodes_elsewhere n chain.cells.now from place cell
        (ap₂ (λ p q. times p (nodes n chain.cells.now q)) there is ∙ behind_it chain.cells.now chain.first chain.chained.each_once k j n h fits)

    -- what is held in its turn changes there alone
    turn_set : in_turn later chain.first ≡ set (in_turn chain.cells.now chain.first) k cell.room
    turn_set =
        let cells = chain.cells.now in
        let first = chain.first in
        let rest = length cells - (k + 1) in
        let next = (cell_at cells place).next in
        let all : k + suc rest ≡ length cells = omega (arith, k_below) in
        let on : next ≡ after (k + 1) cells first = ap (λ p. (cell_at cells p).next) there ∙ sym (after_more cells k first) in
        let here = get_or-set_same cells place cell blank place_below in
        let now =
        ap (λ n. nodes n later first) (sym all) ∙ nodes_add later k (suc rest) first
        ∙ ap₂ ◌++◌ (stretch_before 0 k first (omega arith) refl)
        (ap (nodes (suc rest) later) (after_later k first ∙ sym there)
        ∙ ap (λ c. node_of place c ∷ nodes rest later c.next) here
        ∙ ap (λ p. node_of place cell ∷ nodes rest later p) same
        ∙ ap (λ l. node_of place cell ∷ l) (stretch_behind (k + 1) rest next (omega arith) (omega (arith, k_below)) on)) in
        let was =
        ap (λ n. nodes n cells first) (sym all) ∙ nodes_add cells k (suc rest) first
        ∙ ap (λ p. nodes k cells first ++ nodes (suc rest) cells p) (sym there) in
        let one =
        ap (λ l. set l k (node_of place cell)) was
        ∙ ap (λ i. set (nodes k cells first ++ nodes (suc rest) cells place) i (node_of place cell)) (sym (length_nodes cells k first))
        ∙ set-append_seam (nodes k cells first) (node_of place (cell_at cells place)) (nodes rest cells next) (node_of place cell) in
        ap (λ n. rooms (nodes n later first)) length_later ∙ ap rooms (now ∙ sym one)
        ∙ map-set (λ node. node.room) (nodes (length cells) cells first) k (node_of place cell)

pub free_below : (chain : Chain) (new : Counts) → Adds chain.counts new → chain.first_free < length chain.cells.now
free_below chain new adds = place_below chain (held_by chain.counts) chain.first_free chain.chained.frees (omega (arith, adds.free, as_many chain))

-- a codeblock more is counted
module _ (chain : Chain) (new : Counts) (adds : Adds chain.counts new) (codeblock : Room) where
  abbrev cells : List Cell
  cells = chain.cells.now

  abbrev first : ℕ
  first = chain.first

  abbrev place : ℕ
  place = chain.first_free

  abbrev held : ℕ
  held = held_by chain.counts

  abbrev cell : Cell
  cell = record (cell_at cells place) { room = codeblock }

  room : held < length cells
  room = omega (arith, adds.free, as_many chain)

  abbrev more : List Cell
  more = set cells place cell

  same_after : (n : ℕ) → after n more first ≡ after n cells first
  same_after n = after_later chain held place chain.chained.frees room cell refl n first

  same_used : nodes new.used more first ≡ nodes chain.counts.used cells first
  same_used =
      ap (λ n. nodes n more first) adds.finished.used
      ∙ stretch_before chain held place chain.chained.frees room cell refl 0 chain.counts.used first (omega arith) refl

  one_held : new.used + added new.unfinished ≡ held + 1
  one_held = omega (arith, adds.finished.used, ap added adds.more)

  add_keeps : Chained more first chain.first_open (cell_at cells place).next chain.last_finished place new.used new.waiting (added new.unfinished)
  add_keeps =
      let last : held ≡ new.used + added new.unfinished - 1 = omega (arith, one_held) in
      record {
        each_once = once_later chain held place chain.chained.frees room cell refl;
        ends = ap₂ last_cells_noted adds.finished.waiting same_used ∙ chain.chained.ends;
        opens = chain.chained.opens ∙ sym (ap (λ n. after n more first) adds.finished.used ∙ same_after chain.counts.used);
        frees =
            ap (λ p. (cell_at cells p).next) chain.chained.frees ∙ sym (after_more cells held first)
            ∙ sym (ap (λ n. after n more first) one_held ∙ same_after (held + 1));
        finishes = λ h.
            chain.chained.finishes (omega (arith, adds.finished.used))
            ∙ sym (ap (λ n. after (n - 1) more first) adds.finished.used ∙ same_after (chain.counts.used - 1));
        holds = λ h. chain.chained.frees ∙ sym (same_after held) ∙ ap (λ n. after n more first) last;
      }

  module _ (seven : length codeblock.octets ≡ 7) where
    stored : Stored chain.counts new (in_turn cells first) (in_turn more first) codeblock.octets
    stored =
        subst (λ l. Stored chain.counts new (in_turn cells first) l codeblock.octets) (sym (turn_set chain held place chain.chained.frees room cell refl))
        (adds.stored (in_turn cells first) codeblock chain.counted seven)

    pub filled_counted : Counted new (in_turn (filled cells place codeblock) first)
    unfolding filled
    filled_counted = stored.counted

    pub filled_finished : finished_of new (in_turn (filled cells place codeblock) first) ≡ finished_in chain
    unfolding filled
    filled_finished = stored.finished

    pub filled_opened : opened_of new (in_turn (filled cells place codeblock) first) ≡ after_add plain_showing (capacity_of chain) (finished_in chain) (opened_in chain) codeblock.octets
    unfolding filled
    filled_opened = stored.opened

  pub place_free : times place (nodes held cells first) ≡ 0
  place_free = ap (λ p. times p (nodes held cells first)) chain.chained.frees ∙ before_it cells first chain.chained.each_once held 0 held (omega arith) room

  pub filled_behind : nodes (held_by new) (filled cells place codeblock) first ≡ nodes held cells first ++ node_of place cell ∷ []
  unfolding filled
  filled_behind =
      ap (λ n. nodes n more first) one_held ∙ nodes_add more held 1 first
      ∙ ap₂ ◌++◌ (stretch_before chain held place chain.chained.frees room cell refl 0 held first (omega arith) refl)
      (ap (λ p. node_of p (cell_at more p) ∷ []) (same_after held ∙ sym chain.chained.frees)
      ∙ ap (λ c. node_of place c ∷ []) (get_or-set_same cells place cell blank (place_below chain held place chain.chained.frees room)))

  pub others_filled : (other : ℕ) → ¬ (other ≡ place) → cell_at (filled cells place codeblock) other ≡ cell_at cells other
  unfolding filled
  others_filled other apart = get_or-set_other cells place other cell blank apart

  pub filled_kept : Chained (filled cells place codeblock) first chain.first_open (cell_at cells place).next chain.last_finished place new.used new.waiting (added new.unfinished)
  unfolding filled
  filled_kept = add_keeps

-- the open candidate is counted among the finished ones
module _ (chain : Chain) (new : Counts) (codeblocks : ℕ) (finishes : Finishes chain.counts new codeblocks) where
  abbrev old_cells : List Cell
  old_cells = chain.cells.now

  abbrev begin : ℕ
  begin = chain.first

  abbrev used : ℕ
  used = chain.counts.used

  abbrev its_first : ℕ
  its_first = chain.first_open

  opens_below : used < length old_cells
  opens_below = omega (arith, finishes.first, as_many chain)

  pub first_open_below : its_first < length old_cells
  first_open_below = place_below chain used its_first chain.chained.opens opens_below

  held_is : held_by chain.counts ≡ used + codeblocks
  held_is = omega (arith, ap added finishes.begun)

  used_more : new.used ≡ used + codeblocks
  used_more = omega (arith, finishes.used, held_is, chain.counted.within, chain.counted.most)

  one_more : new.waiting ≡ chain.counts.waiting + 1
  one_more = omega (arith, finishes.waiting, chain.counted.few, chain.counted.within, chain.counted.most)

  last_after : chain.last_held ≡ after (used + codeblocks - 1) old_cells begin
  last_after = chain.chained.holds (omega (arith, held_is, finishes.some)) ∙ ap (λ n. after (n - 1) old_cells begin) held_is

  free_after : chain.first_free ≡ after (used + codeblocks) old_cells begin
  free_after = chain.chained.frees ∙ ap (λ n. after n old_cells begin) held_is

  abbrev noted_cell : Cell
  noted_cell =
      record (cell_at old_cells its_first) { room = record { octets = (cell_at old_cells its_first).room.octets; codeblocks = codeblocks }; last = chain.last_held }

  abbrev counted : List Cell
  counted = set old_cells its_first noted_cell

  abbrev open_nodes : List Node
  open_nodes = nodes codeblocks counted its_first

  counted_after : (n from : ℕ) → after n counted from ≡ after n old_cells from
  counted_after n from = after_later chain used its_first chain.chained.opens opens_below noted_cell refl n from

  counted_used : nodes used counted begin ≡ nodes used old_cells begin
  counted_used = stretch_before chain used its_first chain.chained.opens opens_below noted_cell refl 0 used begin (omega arith) refl

  noted_first : (n : ℕ) → 0 < n → get_or (nodes n counted its_first) 0 no_node ≡ node_of its_first noted_cell
  noted_first n h =
      get_nodes counted n 0 its_first no_node h ∙ ap (node_of its_first) (get_or-set_same old_cells its_first noted_cell blank first_open_below)

  first_room : (list : List Node) → first_count (rooms list) ≡ (get_or list 0 no_node).room.codeblocks
  first_room [] = refl
  first_room (node ∷ list) = refl

  first_noted : first_count (rooms open_nodes) ≡ codeblocks
  first_noted = first_room open_nodes ∙ ap (λ node. node.room.codeblocks) (noted_first codeblocks finishes.some)

  ends_noted : (get_or open_nodes 0 no_node).last ≡ place_in open_nodes (first_count (rooms open_nodes) - 1)
  ends_noted =
      let on : used + (codeblocks - 1) ≡ used + codeblocks - 1 = omega (arith, finishes.some) in
      ap (λ node. node.last) (noted_first codeblocks finishes.some) ∙ last_after
      ∙ sym (ap (λ n. place_in open_nodes (n - 1)) first_noted
      ∙ ap (λ node. node.place) (get_nodes counted codeblocks (codeblocks - 1) its_first no_node (omega (arith, finishes.some)))
      ∙ counted_after (codeblocks - 1) its_first ∙ ap (after (codeblocks - 1) old_cells) chain.chained.opens
      ∙ sym (after_sum old_cells used (codeblocks - 1) begin) ∙ ap (λ n. after n old_cells begin) on)

  all_nodes : nodes new.used counted begin ≡ nodes used old_cells begin ++ open_nodes
  all_nodes =
      ap (λ n. nodes n counted begin) used_more ∙ nodes_add counted used codeblocks begin
      ∙ ap₂ (λ l p. l ++ nodes codeblocks counted p) counted_used (counted_after used begin ∙ sym chain.chained.opens)

  whole : parted chain.counts.waiting (rooms (nodes used old_cells begin)) ≡ true
  whole = ap (parted chain.counts.waiting) (sym (used_turn chain)) ∙ chain.counted.whole

  finish_keeps : Chained counted begin chain.first_free chain.first_free chain.last_held chain.last_held new.used new.waiting (added new.unfinished)
  finish_keeps =
      let none : added new.unfinished ≡ 0 = ap added finishes.unfinished in
      let no_more : used + codeblocks ≡ new.used + added new.unfinished = omega (arith, none, used_more) in
      let free = free_after ∙ sym (counted_after (used + codeblocks) begin) in
      let end = last_after ∙ sym (counted_after (used + codeblocks - 1) begin) in
      record {
        each_once = once_later chain used its_first chain.chained.opens opens_below noted_cell refl;
        ends =
            ap₂ last_cells_noted (one_more ∙ add-one chain.counts.waiting) all_nodes
            ∙ ended_behind open_nodes (omega (arith, first_noted, finishes.some)) ends_noted chain.counts.waiting (nodes used old_cells begin) whole chain.chained.ends;
        opens = free ∙ ap (λ n. after n counted begin) (sym used_more);
        frees = free ∙ ap (λ n. after n counted begin) no_more;
        finishes = λ h. end ∙ ap (λ n. after (n - 1) counted begin) (sym used_more);
        holds = λ h. end ∙ ap (λ n. after (n - 1) counted begin) no_more;
      }

  pub noted_kept : Chained (noted old_cells its_first codeblocks chain.last_held) begin chain.first_free chain.first_free chain.last_held chain.last_held new.used new.waiting (added new.unfinished)
  unfolding noted
  noted_kept = finish_keeps

  noted_so : Noted chain.counts new (in_turn old_cells begin) (in_turn counted begin)
  noted_so =
      let octets = ap (λ p. (cell_at old_cells p).room.octets) chain.chained.opens ∙ sym (ap (λ x. x.octets) (room_at old_cells begin used opens_below)) in
      subst (λ l. Noted chain.counts new (in_turn old_cells begin) l) (sym (turn_set chain used its_first chain.chained.opens opens_below noted_cell refl))
      (finishes.noted (in_turn old_cells begin) noted_cell.room chain.counted octets refl)

  pub noted_counted : Counted new (in_turn (noted old_cells its_first codeblocks chain.last_held) begin)
  unfolding noted
  noted_counted = noted_so.counted

  pub noted_finished : finished_of new (in_turn (noted old_cells its_first codeblocks chain.last_held) begin) ≡ finished_after_finish (finished_in chain) (opened_in chain)
  unfolding noted
  noted_finished = noted_so.finished

  pub noted_opened : opened_of new (in_turn (noted old_cells its_first codeblocks chain.last_held) begin) ≡ open_after_finish (opened_in chain)
  unfolding noted
  noted_opened = noted_so.opened
