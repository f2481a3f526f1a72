-- Symbols one after the other. Assumes nothing.
use Rattle.std.proofs.Common.{◌≡◌, ◌≤◌, Bool, true, false, List, length, refl, ap, ◌∙◌, subst, arith}
use Rattle.std.specs.Int.{from_bool}
use Rattle.reception.specs.Symbols.{bit_value}
use Rattle.reception.specs.Rules.{Event}
use Rattle.receiver.specs.Events.{reports_at, Ran}
use Rattle.receiver.proofs.Ran.{ran_then, made_then}
use Rattle.receiver.proofs.Decided.{one_more_symbol}
use Rattle.receiver.proofs.receiver.Receiver.take_symbols.Goals as goal

-- one report or none
counted : (made : Bool) → (from_bool made ≡ bit_value made) × (from_bool made ≤ 1)
counted true = (refl, omega arith)
counted false = (refl, omega arith)

pub loop-symbol-preserved : goal.loop-symbol-preserved
loop-symbol-preserved g c =
    let inv = c.loop-symbol.invariant in
    let next = c.take_symbol.ensures in
    let one = counted c.take_symbol.result in
    let more = one_more_symbol g.S.Symbol c.args.symbols.now c.loop-symbol.symbol-index c.symbol-item.result c.hard_decision.result (omega arith) c.symbol-item.is c.hard_decision.ensures in (
      omega (arith, inv.0, c.from-made.ensures, one.1),
      made_then g.H.Hold _ _ _ _ _ _ _ _ inv.2 inv.1 (c.from-made.ensures ∙ one.0 ∙ next.made) ∙ ap (λ (es : List Event). length (reports_at g.H.Hold c.args.self.now es)) more,
      subst (λ (es : List Event). Ran g.H.Hold es c.args.self.now c.take_symbol.new.self c.args.reports.now c.take_symbol.new.reports) more
          (ran_then g.H.Hold _ _ _ _ _ _ _ _ inv.2 next.ran),
    )
