-- What holds after some of the symbols. Assumes nothing.
use Rattle.std.proofs.Common.{◌≡◌, ◌≤◌, length, take}
use Rattle.reception.specs.Calls.{symbol_events}
use Rattle.searching.specs.Symbols.{decisions}
use Rattle.receiver.specs.Events.{reports_at, Ran}
use Rattle.receiver.proofs.receiver.Receiver.take_symbols.Given as goal

abbrev pub invariant-loop-symbol : goal.invariant-loop-symbol
invariant-loop-symbol g l =
    let events = symbol_events (decisions g.S.Symbol (take l.symbol-index l.symbols)) in
    (l.made ≤ l.symbol-index) × (l.made ≡ length (reports_at g.H.Hold l.initial.self events)) × Ran g.H.Hold events l.initial.self l.self l.initial.reports l.reports
