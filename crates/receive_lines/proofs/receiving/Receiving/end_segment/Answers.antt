-- The end of a segment. Assumes nothing.
use Rattle.std.proofs.Common.{refl}
use Rattle.std.proofs.lemmas.Result.{on_ok_weaker}
use Rattle.reception.specs.Rules.{carrier_down}
use Rattle.reception.specs.Calls.{call_down}
use Rattle.receiver.specs.Meaning.{free_slots}
use Rattle.receive_lines.proofs.Passes.{told_is_taken, passed_one}
use Rattle.receive_lines.proofs.receiving.Receiving.end_segment.Goals as goal

pub invariant_of-self-clause-nothing_waits : goal.invariant_of-self-clause-nothing_waits
invariant_of-self-clause-nothing_waits g c =
    let took =
    told_is_taken g.H.Hold (call_down (free_slots c.args.self.now.queue)) carrier_down c.args.self.now c.carrier_down.new.reports c.take.new.self c.take.result refl
    c.carrier_down.ensures.queued c.take.ensures.answer c.take.ensures.accepted c.take.ensures.refused in
    took.none_left

pub invariant_of-self-clause-room_for_one : goal.invariant_of-self-clause-room_for_one
invariant_of-self-clause-room_for_one g c =
    let took =
    told_is_taken g.H.Hold (call_down (free_slots c.args.self.now.queue)) carrier_down c.args.self.now c.carrier_down.new.reports c.take.new.self c.take.result refl
    c.carrier_down.ensures.queued c.take.ensures.answer c.take.ensures.accepted c.take.ensures.refused in
    took.one_free

pub returns-clause-passed : goal.returns-clause-passed
returns-clause-passed g c =
    let took =
    told_is_taken g.H.Hold (call_down (free_slots c.args.self.now.queue)) carrier_down c.args.self.now c.carrier_down.new.reports c.take.new.self c.take.result refl
    c.carrier_down.ensures.queued c.take.ensures.answer c.take.ensures.accepted c.take.ensures.refused in
    on_ok_weaker c.tell_any.result
    (passed_one g.H.Hold _ carrier_down c.args.self.now _ _ _ _ _ refl c.carrier_down.ensures.after refl c.carrier_down.ensures.queued took c.ok-report.ensures.value)
    c.tell_any.ensures

pub returns-clause-place : goal.returns-clause-place
returns-clause-place g c = on_ok_weaker c.tell_any.result (λ told. told.place) c.tell_any.ensures
