-- What the cells hold in the order of their links. Assumes nothing.
use Rattle.std.proofs.Common.{◌≡◌, ℕ, ◌+◌, ◌-◌, ◌<◌, ◌≤◌, List, ◌++◌, length, get_or, take, drop, sym, ap, ◌∙◌, arith}
use Rattle.std.proofs.lemmas.List.{take_all, take-append-le, drop-append-le, drop_all, take-map, get_or-map}
use Rattle.cells.specs.Held.{blank as no_room}
use Rattle.chain.specs.declared.chain.LinkedCell.{LinkedCell as Cell}
use Rattle.chain.specs.Links.{cell_at, after, nodes, rooms, in_turn, no_node}
use Rattle.chain.specs.Sound.{length_rooms}
use Rattle.chain.proofs.Links.{nodes_add, length_nodes, get_nodes}

module _ (cells : List Cell) where
  -- so many of the first, and those behind them
  pub front_nodes : (u n place : ℕ) → u ≤ n → take u (nodes n cells place) ≡ nodes u cells place
  front_nodes u n place h =
      let e : u + (n - u) ≡ n = omega arith in
      let long = length_nodes cells u place in
      sym (ap (λ k. take u (nodes k cells place)) e) ∙ ap (take u) (nodes_add cells u (n - u) place)
      ∙ take-append-le u (nodes u cells place) (nodes (n - u) cells (after u cells place)) (omega (arith, long)) ∙ take_all u (nodes u cells place) (omega (arith, long))

  pub drop_nodes : (place n u all : ℕ) → n + u ≡ all → drop n (nodes all cells place) ≡ nodes u cells (after n cells place)
  drop_nodes place n u all e =
      let long = length_nodes cells n place in
      let back = nodes u cells (after n cells place) in
      ap (λ k. drop n (nodes k cells place)) (sym e) ∙ ap (drop n) (nodes_add cells n u place)
      ∙ drop-append-le n (nodes n cells place) back (omega (arith, long)) ∙ ap (λ l. l ++ back) (drop_all n (nodes n cells place) (omega (arith, long)))

  module _ (first : ℕ) where
    pub length_in_turn : length (in_turn cells first) ≡ length cells
    length_in_turn = length_rooms (length cells) cells first

    pub take_in_turn : (u : ℕ) → u ≤ length cells → take u (in_turn cells first) ≡ rooms (nodes u cells first)
    take_in_turn u h = take-map (λ node. node.room) u (nodes (length cells) cells first) ∙ ap rooms (front_nodes u (length cells) first h)

    pub room_at : (k : ℕ) → k < length cells → get_or (in_turn cells first) k no_room ≡ (cell_at cells (after k cells first)).room
    room_at k h =
        get_or-map (λ node. node.room) (nodes (length cells) cells first) k no_node no_room (omega (arith, length_nodes cells (length cells) first))
        ∙ ap (λ node. node.room) (get_nodes cells (length cells) k first no_node h)
