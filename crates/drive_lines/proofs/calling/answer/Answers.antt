-- Each call. Assumes nothing.
use Rattle.std.proofs.Common.{map, Some, sym, subst}
use Rattle.reception.specs.Calls.{call_symbols}
use Rattle.receiver.specs.Meaning.{free_slots}
use Rattle.searching.specs.Levels.{is_negative}
use Rattle.drive_lines.specs.Asked.{asked}
use Rattle.drive_lines.specs.Driven.{call_for}
use Rattle.drive_lines.specs.Calling.{Comes}
use Rattle.drive_lines.proofs.Queued.{same_slots}
use Rattle.drive_lines.proofs.calling.answer.Goals as goal

pub returns-in-Down-clause-slots : goal.returns-in-Down-clause-slots
returns-in-Down-clause-slots g c = same_slots _ c.args.reports.now c.carrier_down.new.reports c.carrier_down.ensures.queued

pub returns-in-Bits-clause-slots : goal.returns-in-Bits-clause-slots
returns-in-Bits-clause-slots g c = same_slots _ c.args.reports.now c.symbols.new.reports c.symbols.ensures.queued

pub returns-in-Levels-clause-slots : goal.returns-in-Levels-clause-slots
returns-in-Levels-clause-slots g c = same_slots _ c.args.reports.now c.symbols-in-Levels.new.reports c.symbols-in-Levels.ensures.queued

pub returns-in-Release-clause-comes : goal.returns-in-Release-clause-comes
returns-in-Release-clause-comes g c =
    let before = c.args.receiver.now in
    let queue = c.args.reports.now in
    subst (λ call. Comes g.H.Hold (call_for (free_slots queue) (asked call)) before c.release.new.self queue queue) (sym c.in-Release.is)
    (c.release.ensures.after, (c.release.ensures.over_calls.releasing before c.release.new.self queue c.release.ensures.after).queued)

pub returns-in-Levels-clause-comes : goal.returns-in-Levels-clause-comes
returns-in-Levels-clause-comes g c =
    let before = c.args.receiver.now in
    let after = c.symbols-in-Levels.new.self in
    let queue = c.args.reports.now in
    let later = c.symbols-in-Levels.new.reports in
    subst (λ call. Comes g.H.Hold (call_for (free_slots queue) (asked call)) before after queue later) (sym c.in-Levels.is)
    (subst (λ l. Comes g.H.Hold (Some (call_symbols (map is_negative l) (free_slots queue))) before after queue later) c.as_slice-in-Levels.ensures.value
    (c.symbols-in-Levels.ensures.after, c.symbols-in-Levels.ensures.queued))
