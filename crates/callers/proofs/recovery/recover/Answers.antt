-- Idle with a release in its middle. Assumes nothing.
use Rattle.std.proofs.Common.{◌/◌, length, take, drop, ap, ◌∙◌}
use Rattle.std.proofs.lemmas.List.{map-id}
use Rattle.callers.proofs.Used.{accepted, used_on, heard}
use Rattle.callers.proofs.Recovered.{around_a_release, back_in_search}
use Rattle.callers.proofs.recovery.recover.Goals as goal

pub returns-clause-ran : goal.returns-clause-ran
returns-clause-ran g c =
    let hold = g.H.Hold in
    let runs = c.symbols.ensures.over_calls in
    let half = length c.args.memory.now / 2 in
    around_a_release hold _ _ _ _ _ _ _ _ _ _ _ runs
    (c.split_at.ensures.front ∙ ap (λ n. take (n / 2) c.write_idle.new.memory) c.write_idle.auto.memory ∙ ap (take half) c.write_idle.ensures)
    (c.split_at.ensures.back ∙ ap (λ n. drop (n / 2) c.write_idle.new.memory) c.write_idle.auto.memory ∙ ap (drop half) c.write_idle.ensures)
    (heard hold c.split_at.result.0.now _ _ _ c.args.reports.now _ runs (map-id _) c.symbols.ensures.after c.symbols.ensures.queued)
    (runs.releasing _ _ _ c.release.ensures.after)
    (heard hold c.split_at.result.1.now _ _ _ c.symbols.new.reports _ runs (map-id _) c.symbols-2.ensures.after c.symbols-2.ensures.queued)

pub returns-clause-back : goal.returns-clause-back
returns-clause-back g c used enough =
    let hold = g.H.Hold in
    let runs = c.symbols.ensures.over_calls in
    let after = used_on hold _ _ _ c.symbols-2.ensures.after (used_on hold _ _ _ c.release.ensures.after (used_on hold _ _ _ c.symbols.ensures.after used)) in
    back_in_search hold c.args.first (length c.args.memory.now) c.args.receiver.now c.symbols-2.new.self c.args.reports.now c.symbols-2.new.reports
    runs (returns-clause-ran g c) (runs.was_up c.args.receiver.now (accepted _ _ c.in_ok-carrier_is_up.ensures)) after used enough

pub returns-clause-in_use : goal.returns-clause-in_use
returns-clause-in_use g c used =
    let hold = g.H.Hold in
    used_on hold _ _ _ c.symbols-2.ensures.after (used_on hold _ _ _ c.release.ensures.after (used_on hold _ _ _ c.symbols.ensures.after used))
