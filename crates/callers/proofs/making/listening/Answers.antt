-- A receiver that was just made, and its carrier up. Assumes nothing.
use Rattle.std.proofs.Common.{[], ap}
use Rattle.decoding.specs.Meaning.{held_in}
use Rattle.callers.proofs.Raised.{raised}
use Rattle.callers.proofs.making.listening.Goals as goal

pub returns-clause-ready : goal.returns-clause-ready
returns-clause-ready g c =
    let hold = g.H.Hold in
    let made = c.new-receiver.ensures in
    raised hold c.new-receiver.result c.carrier_up.new.self c.carrier_up.ensures.over_calls
    (record { over = held_in hold c.args.hold; calls = []; came = made.came }) (ap (λ s. s.phase) made.state) c.carrier_up.ensures.after
