-- The events of symbols, one symbol more at a time. Assumes nothing.
use Rattle.std.proofs.Common.{◌≡◌, ℕ, ◌+◌, ◌<◌, Bool, List, [], ◌∷◌, ◌++◌, length, get_or, take, sym, refl, ap, ◌∙◌}
use Rattle.std.proofs.lemmas.List.{take_more, map-append}
use Rattle.reception.specs.Rules.{symbol}
use Rattle.reception.specs.Calls.{symbol_events}
use Rattle.searching.specs.declared.Symbol.{Ghosts}
use Rattle.searching.specs.Symbols.{decisions}

pub events_append : (xs ys : List Bool) → symbol_events (xs ++ ys) ≡ symbol_events xs ++ symbol_events ys
events_append [] ys = refl
events_append (x ∷ xs) ys = ap (λ l. symbol x ∷ l) (events_append xs ys)

module _ {Y : Type 0} (kind : Ghosts Y) where
  pub one_more_symbol : (symbols : List Y) (i : ℕ) (here : Y) (b : Bool) → i < length symbols → here ≡ get_or symbols i here → b ≡ kind.bit here →
      symbol_events (decisions kind (take i symbols)) ++ symbol b ∷ [] ≡ symbol_events (decisions kind (take (i + 1) symbols))
  one_more_symbol symbols i here b lt is decided = sym
      (ap (λ l. symbol_events (decisions kind l)) (take_more symbols i here lt)
      ∙ ap symbol_events (map-append kind.bit (take i symbols) (get_or symbols i here ∷ []))
      ∙ events_append (decisions kind (take i symbols)) (kind.bit (get_or symbols i here) ∷ [])
      ∙ ap (λ x. symbol_events (decisions kind (take i symbols)) ++ symbol x ∷ []) (ap kind.bit (sym is) ∙ sym decided))
