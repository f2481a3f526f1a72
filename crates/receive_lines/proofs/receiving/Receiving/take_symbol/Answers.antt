-- A symbol. Assumes nothing.
use Rattle.std.proofs.Common.{[], ◌∷◌, refl, ap, ◌∙◌}
use Rattle.std.proofs.lemmas.Result.{on_ok_weaker}
use Rattle.reception.specs.Rules.{symbol}
use Rattle.reception.specs.Calls.{call_symbols}
use Rattle.receiver.specs.Meaning.{free_slots}
use Rattle.receive_lines.specs.Pass.{place_in}
use Rattle.receive_lines.proofs.Passes.{told_is_taken, passed_one, symbol_passed}
use Rattle.receive_lines.proofs.receiving.Receiving.take_symbol.Goals as goal

pub invariant_of-self-clause-nothing_waits : goal.invariant_of-self-clause-nothing_waits
invariant_of-self-clause-nothing_waits g c =
    let took =
    told_is_taken g.H.Hold (call_symbols (c.args.bit ∷ []) (free_slots c.args.self.now.queue)) (symbol c.args.bit) c.args.self.now c.symbols.new.reports c.take.new.self c.take.result refl
    c.symbols.ensures.queued c.take.ensures.answer c.take.ensures.accepted c.take.ensures.refused in
    took.none_left

pub invariant_of-self-clause-room_for_one : goal.invariant_of-self-clause-room_for_one
invariant_of-self-clause-room_for_one g c =
    let took =
    told_is_taken g.H.Hold (call_symbols (c.args.bit ∷ []) (free_slots c.args.self.now.queue)) (symbol c.args.bit) c.args.self.now c.symbols.new.reports c.take.new.self c.take.result refl
    c.symbols.ensures.queued c.take.ensures.answer c.take.ensures.accepted c.take.ensures.refused in
    took.one_free

pub returns : goal.returns
returns g c =
    let took =
    told_is_taken g.H.Hold (call_symbols (c.args.bit ∷ []) (free_slots c.args.self.now.queue)) (symbol c.args.bit) c.args.self.now c.symbols.new.reports c.take.new.self c.take.result refl
    c.symbols.ensures.queued c.take.ensures.answer c.take.ensures.accepted c.take.ensures.refused in
    on_ok_weaker c.tell_any.result
    (λ told. symbol_passed g.H.Hold c.args.bit _ c.args.self.now _ _ (ap (place_in c.args.self.now.place.segment) c.in_ok-symbol.ensures) told
    (passed_one g.H.Hold _ (symbol c.args.bit) c.args.self.now _ _ _ _ _ refl c.symbols.ensures.after refl c.symbols.ensures.queued took c.ok-report.ensures.value told))
    c.tell_any.ensures
