-- A command, once what was finished is released. Assumes nothing.
use Rattle.std.proofs.lemmas.List.{map-id}
use Rattle.callers.proofs.Used.{used_on, heard}
use Rattle.callers.proofs.Commanded.{commanded, copied_in_front}
use Rattle.callers.proofs.command.receive_command.Goals as goal
use Rattle.callers.proofs.command.receive_command.Goals.{After-copy_oldest}

pub returns-clause-heard : goal.returns-clause-heard
returns-clause-heard g c up =
    let runs = c.symbols.ensures.over_calls in
    record {
      ran = runs.joined _ _ _ c.release_all.new.receiver _ _ c.args.reports.now _ (c.release_all.ensures.released runs c.args.reports.now)
          (heard g.H.Hold c.args.symbols.now _ _ _ c.args.reports.now _ runs (map-id _) c.symbols.ensures.after c.symbols.ensures.queued);
      copied = c.copy_oldest.ensures.answer;
      memory_after = c.copy_oldest.ensures.memory;
    }

pub returns-clause-received : goal.returns-clause-received
returns-clause-received g c back frame command =
    let hold = g.H.Hold in
    let runs = c.symbols.ensures.over_calls in
    let released = c.release_all.ensures.released runs c.args.reports.now in
    let ran = runs.joined _ _ c.args.receiver.now c.release_all.new.receiver c.symbols.new.self c.args.reports.now c.args.reports.now c.symbols.new.reports released
    (heard hold c.args.symbols.now _ _ _ c.args.reports.now _ runs (map-id _) c.symbols.ensures.after c.symbols.ensures.queued) in
    let used = used_on hold _ _ _ c.symbols.ensures.after (c.release_all.ensures.in_use back.in_use) in
    let received = commanded hold frame c.args.symbols.now c.args.receiver.now c.symbols.new.self _ _ runs back command ran used in
    (received.0, received.1, λ enough. copied_in_front frame _ _ _ _ received.0 enough c.copy_oldest.ensures.answer c.copy_oldest.ensures.memory)

pub returns-clause-in_use : goal.returns-clause-in_use
returns-clause-in_use g c used = used_on g.H.Hold _ _ _ c.symbols.ensures.after (c.release_all.ensures.in_use used)
