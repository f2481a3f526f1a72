-- Symbols in INACTIVE. Assumes nothing.
use Rattle.std.proofs.Common.{refl, sym, subst}
use Rattle.receiver.specs.Calls.{Called}
use Rattle.receiver.specs.Meaning.{symbols_call}
use Rattle.receiver.proofs.Joined.{promise_over_calls}
use Rattle.receiver.proofs.Ran.{is_inactive, ran_in_vain, called}
use Rattle.receiver.proofs.receiver.Receiver.symbols.Goals as goal

pub returns-in_err-at_event-clause-after : goal.returns-in_err-at_event-clause-after
returns-in_err-at_event-clause-after g c =
    let e = c.in_err-at_event.ensures in
    let ran = ran_in_vain g.H.Hold _ c.args.self.now c.args.reports.now (is_inactive _ _ e.refused) in
    subst (λ r. Called g.H.Hold (symbols_call g.S.Symbol c.args.symbols.now c.args.reports.now) c.args.self.now r) (sym e.unchanged)
    (called g.H.Hold _ _ _ _ _ refl ran)

pub returns-in_err-at_event-clause-queued : goal.returns-in_err-at_event-clause-queued
returns-in_err-at_event-clause-queued g c =
    let e = c.in_err-at_event.ensures in
    (ran_in_vain g.H.Hold _ c.args.self.now c.args.reports.now (is_inactive _ _ e.refused)).queued

pub returns-in_err-at_event-clause-over_calls : goal.returns-in_err-at_event-clause-over_calls
returns-in_err-at_event-clause-over_calls g c = promise_over_calls g.H.Hold

pub returns-clause-over_calls : goal.returns-clause-over_calls
returns-clause-over_calls g c = promise_over_calls g.H.Hold
