-- Two frames that are received. Assumes nothing.
use Rattle.std.proofs.Common.{take}
use Rattle.callers.proofs.Used.{accepted, used_on}
use Rattle.callers.proofs.Received.{two_received}
use Rattle.callers.proofs.both_ends.send_two.Goals as goal

pub returns-clause-received : goal.returns-clause-received
returns-clause-received g c used fits =
    let hold = g.H.Hold in
    let front = c.in_ok-octets.ensures in
    let over = c.carrier_up.ensures.over_calls in
    let ran = over.joined _ _ c.args.receiver.now c.carrier_up.new.self c.hear.new.receiver c.args.reports.now c.args.reports.now c.hear.new.reports
    (over.raising c.args.receiver.now c.carrier_up.new.self c.args.reports.now c.carrier_up.ensures.after) (c.hear.ensures.ran over) in
    two_received hold c.args.settings c.args.acquisition c.args.first.now c.args.second.now (take c.in_ok-octets.octets c.write_two.new.memory)
    c.args.receiver.now c.hear.new.receiver c.args.reports.now c.hear.new.reports front.promise over
    front.written.written front.written.fit (accepted _ _ c.in_ok-carrier_up.ensures.answer) ran
    (c.hear.ensures.in_use (used_on hold _ _ _ c.carrier_up.ensures.after used)) used fits

pub returns-clause-in_use : goal.returns-clause-in_use
returns-clause-in_use g c used = c.hear.ensures.in_use (used_on g.H.Hold _ _ _ c.carrier_up.ensures.after used)
