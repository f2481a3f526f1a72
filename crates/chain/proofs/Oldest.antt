-- The oldest candidate in a chain's cells. Assumes nothing.
use Rattle.std.proofs.Common.{◌≡◌, ℕ, zero, suc, ◌+◌, ◌-◌, ◌*◌, ◌/◌, ◌%◌, ◌<◌, ◌≤◌, true, eqb, List, length, get_or, take, drop, set, Ok, sym, refl, ap, ◌∙◌, arith}
use Rattle.std.proofs.lemmas.Bool.{and_parts, eqb-true}
use Rattle.hold.specs.Candidates.{stretch_answer, after_stretch}
use Rattle.cells.specs.declared.cell.Cell.{Cell as Room}
use Rattle.cells.specs.Cells.{first_count}
use Rattle.cells.specs.Held.{held_by, oldest_of, Oldest}
use Rattle.cells.proofs.Oldest.{is_oldest, first, first_counted, octet_at, turn_below, read_more}
use Rattle.cells.proofs.Oldest.{length_finished as as_many_finished, stretch_answered as answered, oldest_short as short, all_read as all_of_it}
use Rattle.chain.specs.declared.chain.LinkedCell.{LinkedCell as Cell}
use Rattle.chain.specs.declared.chain.Chain.{Chain}
use Rattle.chain.specs.Links.{cell_at, after, Node, nodes, rooms, in_turn, no_node, place_in, last_cells_noted}
use Rattle.chain.specs.Held.{finished_in}
use Rattle.chain.proofs.Links.{get_nodes, below, after_more}
use Rattle.chain.proofs.Turns.{length_in_turn, take_in_turn, room_at}

first_last : (n : ℕ) (cells : List Cell) (place : ℕ) → 0 < n → (get_or (nodes n cells place) 0 no_node).last ≡ (cell_at cells place).last
first_last zero cells place h = absurd (omega arith)
first_last (suc n) cells place h = refl

-- the first cell of the oldest candidate has the place of its last, and the others' do too
pub record Ends (n : ℕ) (list : List Node) : Type 0 where
  pub first : (get_or list 0 no_node).last ≡ place_in list (first_count (rooms list) - 1)
  pub rest : last_cells_noted (n - 1) (drop (first_count (rooms list)) list) ≡ true

pub ends_of : (n : ℕ) (list : List Node) → 0 < n → last_cells_noted n list ≡ true → Ends n list
ends_of zero list h whole = absurd (omega arith)
ends_of (suc n) list h whole =
    let count = first_count (rooms list) in
    let two = and_parts (eqb (get_or list 0 no_node).last (place_in list (count - 1))) (last_cells_noted n (drop count list)) whole in
    let less : suc n - 1 ≡ n = omega arith in
    record {
      first = eqb-true (get_or list 0 no_node).last (place_in list (count - 1)) two.0;
      rest = ap (λ k. last_cells_noted k (drop count list)) less ∙ two.1;
    }

module _ (chain : Chain) where
  abbrev cells : List Cell
  cells = chain.cells.now

  abbrev turn : List Room
  turn = in_turn cells chain.first

  abbrev used_nodes : List Node
  used_nodes = nodes chain.counts.used cells chain.first

  pub as_many : length cells ≡ chain.counts.cells
  as_many = sym (length_in_turn cells chain.first) ∙ chain.counted.as_many

  pub held_fits : held_by chain.counts ≤ length cells
  held_fits = omega (arith, as_many, chain.counted.within)

  pub used_turn : take chain.counts.used turn ≡ rooms used_nodes
  used_turn = take_in_turn cells chain.first chain.counts.used (omega (arith, held_fits))

  pub length_finished : chain.counts.waiting ≡ length (finished_in chain)
  length_finished = as_many_finished chain.counts turn chain.counted

  pub cell_below : (k : ℕ) → k < length cells → after k cells chain.first < length cells
  cell_below k h = below cells chain.first chain.chained.each_once k h

  module _ (some : 0 < chain.counts.waiting) where
    pub oldest_ends : Ends chain.counts.waiting used_nodes
    oldest_ends = ends_of chain.counts.waiting used_nodes some chain.chained.ends

    some_cell : 0 < length cells
    some_cell = omega (arith, chain.counted.few, held_fits)

    pub first_below : chain.first < length cells
    first_below = cell_below 0 some_cell

    pub oldest_is : (n : ℕ) → n ≡ first_count (take chain.counts.used turn) → Oldest chain.counts turn n
    oldest_is = is_oldest chain.counts turn chain.counted some

    pub oldest_counted : Oldest chain.counts turn (cell_at cells chain.first).room.codeblocks
    oldest_counted =
        oldest_is (cell_at cells chain.first).room.codeblocks
        (ap (λ room. room.codeblocks) (sym (room_at cells chain.first 0 some_cell)) ∙ first_counted chain.counts turn chain.counted.few some)

    -- the first cell has the place of the oldest candidate's last cell
    pub end_cell : (n : ℕ) → Oldest chain.counts turn n → (cell_at cells chain.first).last ≡ after (n - 1) cells chain.first
    end_cell n oldest =
        sym (first_last chain.counts.used cells chain.first (omega (arith, chain.counted.few)))
        ∙ oldest_ends.first ∙ ap (λ k. place_in used_nodes (k - 1)) (sym (oldest.counted ∙ ap first_count used_turn))
        ∙ ap (λ node. node.place) (get_nodes cells chain.counts.used (n - 1) chain.first no_node (omega (arith, oldest.not_empty, oldest.within)))

    pub stretch_answered : (place : ℕ) (memory : List ℕ) → length memory ≤ length (oldest_of (finished_in chain)) - place → stretch_answer (finished_in chain) place memory ≡ Ok tt
    stretch_answered = answered chain.counts turn chain.counted some

    pub oldest_short : length (oldest_of (finished_in chain)) ≤ 7 * 65535
    oldest_short = short chain.counts turn chain.counted some

    pub all_read : (place i : ℕ) (memory later : List ℕ) → length memory ≤ length (oldest_of (finished_in chain)) - place → length later ≡ length memory → length memory ≤ i →
        take i later ≡ take i (drop place (oldest_of (finished_in chain))) → i ≤ length later → later ≡ after_stretch (finished_in chain) place memory
    all_read = all_of_it chain.counts turn chain.counted some

  module _ (place : ℕ) (h : place < length (oldest_of (finished_in chain))) where
    pub links_below : place / 7 < length cells
    links_below = omega (arith, turn_below chain.counts turn chain.counted place h, held_fits)

    pub octet_cell_below : after (place / 7) cells chain.first < length cells
    octet_cell_below = cell_below (place / 7) links_below

    -- the octet at a place of the oldest candidate is in the cell to which a seventh as many links lead
    pub octet_value : get_or (cell_at cells (after (place / 7) cells chain.first)).room.octets (place % 7) 0 ≡ get_or (oldest_of (finished_in chain)) place 0
    octet_value =
        ap (λ room. get_or room.octets (place % 7) 0) (sym (room_at cells chain.first (place / 7) links_below))
        ∙ octet_at chain.counts turn chain.counted place h

-- one octet more of a stretch
pub octet_read : (chain : Chain) (memory : List ℕ) (place i cell : ℕ) → take i memory ≡ take i (drop place (oldest_of (finished_in chain))) → cell ≡ after ((place + i) / 7) chain.cells.now chain.first →
    i < length memory → place + i < length (oldest_of (finished_in chain)) →
    take (i + 1) (set memory i (get_or (cell_at chain.cells.now cell).room.octets ((place + i) % 7) 0)) ≡ take (i + 1) (drop place (oldest_of (finished_in chain)))
octet_read chain memory place i cell so_far at h inside =
    read_more (oldest_of (finished_in chain)) memory place i _ so_far h inside
    (ap (λ c. get_or (cell_at chain.cells.now c).room.octets ((place + i) % 7) 0) at ∙ octet_value chain (place + i) inside)

-- which cell the next octet is in
pub next_octet : (cells : List Cell) (first place : ℕ) → place % 7 ≡ 6 → (cell_at cells (after (place / 7) cells first)).next ≡ after ((place + 1) / 7) cells first
next_octet cells first place last =
    let on : place / 7 + 1 ≡ (place + 1) / 7 = omega arith in
    sym (after_more cells (place / 7) first) ∙ ap (λ n. after n cells first) on

-- what a read cites
pub ruleset reads = (oldest_short, links_below, octet_cell_below, octet_read, stretch_answered, all_read)
