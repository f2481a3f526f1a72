-- An acquisition, and two frames behind it. Assumes nothing.
use Rattle.std.proofs.Common.{Ok, Err, IfOk, ap, sym, subst, ◌∙◌}
use Rattle.std.proofs.lemmas.Result.{err_from_is_err_and}
use Rattle.procedures.specs.Reception.{SessionPromise}
use Rattle.callers.specs.BothEnds.{IsStretchInFront}
use Rattle.callers.proofs.Sent.{first_sent, two_answered, second_refused, both_in_memory, both_in_front}
use Rattle.callers.proofs.both_ends.write_two.Goals as goal

pub returns-in_err-sent : goal.returns-in_err-sent
returns-in_err-sent c =
    let p = err_from_is_err_and c.from_residual-in_err-sent.result c.from_residual-in_err-sent.ensures.1 in
    let told = c.in-Ok.ensures in
    let so_far =
    first_sent c.args.settings c.args.acquisition c.args.first.now c.args.second.now c.args.memory.now c.acquire.new.memory c.send_behind.new.memory
    c.in_ok-session.session c.raise.result c.in-Ok.done c.in_ok-session-2.session c.in_ok-session-2.sent
    c.in_ok-session.ensures.made (ap (λ carrier. carrier.settings) c.raise.ensures.answer) told.answer told.memory told.stretch
    c.acquire.auto.memory c.send_behind.auto.memory c.in_ok-session-2.ensures.behind c.in_ok-session-2.ensures.answer in
    let answer = two_answered _ _ _ _ _ _ _ _ so_far (Err c.in_err-sent.field-0.0) c.in_err-sent.ensures.answer in
    record {
      answer = p.1 ∙ ap (λ why. Err why) p.2 ∙ answer;
      memory = second_refused _ _ _ _ _ _ _ _ so_far c.in_err-sent.field-0.0 _ answer c.in_err-sent.ensures.refused;
      written = subst
          (λ r. IfOk r (IsStretchInFront c.args.settings c.args.acquisition c.args.first.now c.args.second.now c.send_behind-2.new.memory)) (sym p.1) tt;
      promise = subst (λ r. IfOk r (λ _. SessionPromise)) (sym p.1) tt;
    }

pub returns : goal.returns
returns c =
    let told = c.in-Ok.ensures in
    let so_far =
    first_sent c.args.settings c.args.acquisition c.args.first.now c.args.second.now c.args.memory.now c.acquire.new.memory c.send_behind.new.memory
    c.in_ok-session.session c.raise.result c.in-Ok.done c.in_ok-session-2.session c.in_ok-session-2.sent
    c.in_ok-session.ensures.made (ap (λ carrier. carrier.settings) c.raise.ensures.answer) told.answer told.memory told.stretch
    c.acquire.auto.memory c.send_behind.auto.memory c.in_ok-session-2.ensures.behind c.in_ok-session-2.ensures.answer in
    let answer = two_answered _ _ _ _ _ _ _ _ so_far (Ok c.in_ok-sent.sent) c.in_ok-sent.ensures.answer in
    record {
      answer = answer;
      memory = both_in_memory _ _ _ _ _ _ _ _ so_far _ c.in_ok-sent.field-0-0 _ c.in_ok-sent.ensures.behind answer;
      written = both_in_front _ _ _ _ _ _ _ _ so_far _ c.in_ok-sent.field-0-0 _ c.in_ok-sent.ensures.behind;
      promise = told.promise;
    }
