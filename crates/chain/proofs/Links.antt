-- Links that are followed one after another, and what a write leaves of them. Assumes nothing.
use Rattle.std.proofs.Common.{◌≡◌, ℕ, zero, suc, ◌+◌, ◌-◌, ◌<◌, ◌≤◌, ◌≢◌, cond, true, false, eqb, ltb, inl, inr, ltb-true, Bool, List, [], ◌∷◌, ◌++◌, length, get_or, set, sym, refl, ap, ◌∙◌, zero-add, eq-eqb, arith, get_or-set_same, get_or-set_other}
use Rattle.std.proofs.lemmas.Bool.{cond-true}
use Rattle.std.proofs.lemmas.Bool.Decides.{eqb_tells}
use Rattle.chain.specs.declared.chain.LinkedCell.{LinkedCell as Cell}
use Rattle.chain.specs.Links.{blank, cell_at, after, Node, node_of, nodes, times, EachOnce}

module _ (cells : List Cell) where
  pub after_add : (m n place : ℕ) → after (m + n) cells place ≡ after n cells (after m cells place)
  after_add zero n place = ap (λ k. after k cells place) (zero-add n)
  after_add (suc m) n place =
      let e : suc m + n ≡ suc (m + n) = omega arith in
      ap (λ k. after k cells place) e ∙ after_add m n (cell_at cells place).next

  pub after_more : (n place : ℕ) → after (n + 1) cells place ≡ (cell_at cells (after n cells place)).next
  after_more n place = after_add n 1 place

  pub nodes_add : (m n place : ℕ) → nodes (m + n) cells place ≡ nodes m cells place ++ nodes n cells (after m cells place)
  nodes_add zero n place = ap (λ k. nodes k cells place) (zero-add n)
  nodes_add (suc m) n place =
      let e : suc m + n ≡ suc (m + n) = omega arith in
      ap (λ k. nodes k cells place) e ∙ ap (λ l. node_of place (cell_at cells place) ∷ l) (nodes_add m n (cell_at cells place).next)

  pub length_nodes : (n place : ℕ) → length (nodes n cells place) ≡ n
  length_nodes zero place = refl
  length_nodes (suc n) place = ap suc (length_nodes n (cell_at cells place).next)

  pub get_nodes : (n k place : ℕ) (d : Node) → k < n → get_or (nodes n cells place) k d ≡ node_of (after k cells place) (cell_at cells (after k cells place))
  get_nodes zero k place d h = absurd (omega arith)
  get_nodes (suc n) zero place d h = refl
  get_nodes (suc n) (suc k) place d h = get_nodes n k (cell_at cells place).next d (omega arith)

pub times_append : (place : ℕ) (xs ys : List Node) → times place (xs ++ ys) ≡ times place xs + times place ys
times_append place [] ys = sym (zero-add (times place ys))
times_append place (x ∷ xs) ys = omega (arith, times_append place xs ys)

-- a cell that is not in a list is not the first of it, nor in the rest
pub record Apart (at place : ℕ) (list : List Node) : Type 0 where
  pub first : place ≢ at
  pub rest : times at list ≡ 0

pub apart : (at place : ℕ) (cell : Cell) (list : List Node) → times at (node_of place cell ∷ list) ≡ 0 → Apart at place list
apart at place cell list none =
    let few : times at list ≡ 0 = omega arith in
    record {
      first = λ e. let one = cond-true {A = ℕ} (eqb place at) 1 0 (eq-eqb place at e) in absurd (omega (arith, one));
      rest = few;
    }

-- the cell to which fewer links lead is in the list
pub occurs : (cells : List Cell) (n k place : ℕ) → k < n → 1 ≤ times (after k cells place) (nodes n cells place)
occurs cells zero k place h = absurd (omega arith)
occurs cells (suc n) zero place h =
    let one = cond-true {A = ℕ} (eqb place place) 1 0 (eq-eqb place place refl) in
    omega (arith, one)
occurs cells (suc n) (suc k) place h = omega (arith, occurs cells n k (cell_at cells place).next (omega arith))

counted : (b : Bool) → 1 ≤ cond b 1 0 → b ≡ true
counted true h = refl
counted false h = absurd (omega arith)

-- a write to a cell that is not passed
pub after_elsewhere : (n : ℕ) (cells : List Cell) (place at : ℕ) (cell : Cell) → times at (nodes n cells place) ≡ 0 → after n (set cells at cell) place ≡ after n cells place
after_elsewhere zero cells place at cell none = refl
after_elsewhere (suc n) cells place at cell none =
    let a = apart at place (cell_at cells place) (nodes n cells (cell_at cells place).next) none in
    ap (λ c. after n (set cells at cell) c.next) (get_or-set_other cells at place cell blank a.first)
    ∙ after_elsewhere n cells (cell_at cells place).next at cell a.rest

pub nodes_elsewhere : (n : ℕ) (cells : List Cell) (place at : ℕ) (cell : Cell) → times at (nodes n cells place) ≡ 0 → nodes n (set cells at cell) place ≡ nodes n cells place
nodes_elsewhere zero cells place at cell none = refl
nodes_elsewhere (suc n) cells place at cell none =
    let a = apart at place (cell_at cells place) (nodes n cells (cell_at cells place).next) none in
    ap (λ c. node_of place c ∷ nodes n (set cells at cell) c.next) (get_or-set_other cells at place cell blank a.first)
    ∙ ap (λ l. node_of place (cell_at cells place) ∷ l) (nodes_elsewhere n cells (cell_at cells place).next at cell a.rest)

-- a cell with another link
abbrev pub relinked : List Cell → ℕ → ℕ → List Cell
relinked cells at next = set cells at (record (cell_at cells at) { next = next })

-- what it holds stays
same_node : (cells : List Cell) (at next place : ℕ) → at < length cells → node_of place (cell_at (relinked cells at next) place) ≡ node_of place (cell_at cells place)
same_node cells at next place h =
    elim (eqb_tells place at) [
      | inl same ↦
          let here = get_or-set_same cells at (record (cell_at cells at) { next = next }) blank h in
          ap (λ k. node_of place (cell_at (relinked cells at next) k)) same.1 ∙ ap (node_of place) here ∙ ap (λ k. node_of place (cell_at cells k)) (sym same.1)
      | inr other ↦ ap (node_of place) (get_or-set_other cells at place (record (cell_at cells at) { next = next }) blank other.1)
    ]

-- a link that is not followed
pub nodes_relinked : (n : ℕ) (cells : List Cell) (place at next : ℕ) → at < length cells → times at (nodes n cells place) ≡ 0 → nodes (suc n) (relinked cells at next) place ≡ nodes (suc n) cells place
nodes_relinked zero cells place at next h none = ap (λ x. x ∷ []) (same_node cells at next place h)
nodes_relinked (suc n) cells place at next h none =
    let a = apart at place (cell_at cells place) (nodes n cells (cell_at cells place).next) none in
    ap (λ c. node_of place c ∷ nodes (suc n) (relinked cells at next) c.next) (get_or-set_other cells at place (record (cell_at cells at) { next = next }) blank a.first)
    ∙ ap (λ l. node_of place (cell_at cells place) ∷ l) (nodes_relinked n cells (cell_at cells place).next at next h a.rest)

-- a link that is followed last
pub after_relinked : (n : ℕ) (cells : List Cell) (place at next : ℕ) → at < length cells → times at (nodes n cells place) ≡ 0 → after n cells place ≡ at → after (n + 1) (relinked cells at next) place ≡ next
after_relinked n cells place at next h none there =
    after_more (relinked cells at next) n place
    ∙ ap (λ k. (cell_at (relinked cells at next) k).next) (after_elsewhere n cells place at (record (cell_at cells at) { next = next }) none ∙ there)
    ∙ ap (λ c. c.next) (get_or-set_same cells at (record (cell_at cells at) { next = next }) blank h)

-- a write that leaves a cell's link as it is leaves every link
module _ (cells : List Cell) (at : ℕ) (cell : Cell) (same : cell.next ≡ (cell_at cells at).next) (h : at < length cells) where
  link_stays : (place : ℕ) → (cell_at (set cells at cell) place).next ≡ (cell_at cells place).next
  link_stays place =
      elim (eqb_tells place at) [
        | inl e ↦
            ap (λ k. (cell_at (set cells at cell) k).next) e.1 ∙ ap (λ c. c.next) (get_or-set_same cells at cell blank h) ∙ same ∙ ap (λ k. (cell_at cells k).next) (sym e.1)
        | inr other ↦ ap (λ c. c.next) (get_or-set_other cells at place cell blank other.1)
      ]

  pub after_stays : (n place : ℕ) → after n (set cells at cell) place ≡ after n cells place
  after_stays zero place = refl
  after_stays (suc n) place = ap (after n (set cells at cell)) (link_stays place) ∙ after_stays n (cell_at cells place).next

  pub times_stay : (n place of : ℕ) → times of (nodes n (set cells at cell) place) ≡ times of (nodes n cells place)
  times_stay zero place of = refl
  times_stay (suc n) place of =
      ap (λ k. cond (eqb place of) 1 0 + times of (nodes n (set cells at cell) k)) (link_stays place)
      ∙ ap (λ k. cond (eqb place of) 1 0 + k) (times_stay n (cell_at cells place).next of)

-- cells of which each is there once
module _ (cells : List Cell) (first : ℕ) (once : EachOnce (length cells) (nodes (length cells) cells first)) where
  pub below : (k : ℕ) → k < length cells → after k cells first < length cells
  below k h =
      let place = after k cells first in
      let some = occurs cells (length cells) k first h in
      ltb-true place (length cells) (counted (ltb place (length cells)) (omega (arith, some, once place)))

  at_most_once : (place : ℕ) → times place (nodes (length cells) cells first) ≤ 1
  at_most_once place = omega (arith, once place, few (ltb place (length cells)))
    where
      few : (b : Bool) → cond b 1 0 ≤ 1
      few true = omega arith
      few false = omega arith

  -- three runs of cells have no cell twice
  three : (j n r place : ℕ) → j + (n + r) ≡ length cells →
      times place (nodes j cells first) + (times place (nodes n cells (after j cells first)) + times place (nodes r cells (after n cells (after j cells first)))) ≤ 1
  three j n r place e =
      let all = ap (λ k. times place (nodes k cells first)) (sym e)
      ∙ ap (times place) (nodes_add cells j (n + r) first) ∙ times_append place (nodes j cells first) (nodes (n + r) cells (after j cells first)) in
      let behind = ap (times place) (nodes_add cells n r (after j cells first)) ∙ times_append place (nodes n cells (after j cells first)) (nodes r cells (after n cells (after j cells first))) in
      omega (arith, all, behind, at_most_once place)

  -- a cell is in no run before it and in none behind it
  pub behind_it : (k j n : ℕ) → k < j → j + n ≤ length cells → times (after k cells first) (nodes n cells (after j cells first)) ≡ 0
  behind_it k j n h fits = omega (arith, three j n (length cells - (j + n)) (after k cells first) (omega arith), occurs cells j k first h)

  pub before_it : (k j n : ℕ) → j + n ≤ k → k < length cells → times (after k cells first) (nodes n cells (after j cells first)) ≡ 0
  before_it k j n h fits =
      let place = after k cells first in
      let back = nodes (length cells - (j + n)) cells (after n cells (after j cells first)) in
      let there : 1 ≤ times place back =
      let e : (j + n) + (k - (j + n)) ≡ k = omega arith in
      let is = ap (λ i. after i cells first) (sym e) ∙ after_add cells (j + n) (k - (j + n)) first ∙ ap (after (k - (j + n)) cells) (after_add cells j n first) in
      omega (arith, ap (λ p. times p back) is, occurs cells (length cells - (j + n)) (k - (j + n)) (after n cells (after j cells first)) (omega arith)) in
      omega (arith, three j n (length cells - (j + n)) place (omega arith), there)
