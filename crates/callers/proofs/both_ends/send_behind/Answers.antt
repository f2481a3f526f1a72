-- A frame behind what was written. Assumes nothing.
use Rattle.std.proofs.Common.{◌≡◌, ◌-◌, length, take, drop, Ok, Err, refl, ap, ◌∙◌, length-take, length-drop, arith}
use Rattle.std.proofs.lemmas.Result.{err_from_is_err_and}
use Rattle.session.specs.Writing.{parameters_of}
use Rattle.callers.specs.BothEnds.{counted}
use Rattle.callers.proofs.Sent.{sent_behind}
use Rattle.callers.proofs.Answered.{sent_on}
use Rattle.callers.proofs.both_ends.send_behind.Goals as goal

pub returns-clause-behind : goal.returns-clause-behind
returns-clause-behind c =
    sent_behind _ _ _ c.args.memory.now c.send_frame.new.memory _ c.args.written c.in_ok-session.sent _ c.requires.within refl refl c.send_frame.auto.memory c.in_ok-session.ensures.front

pub returns-in_err-session-clause-answer : goal.returns-in_err-session-clause-answer
returns-in_err-session-clause-answer c =
    let p = err_from_is_err_and c.from_residual.result c.from_residual.ensures.1 in
    let w = c.args.written in
    let memory = c.args.memory.now in
    let lent : length (take (length memory - w) (drop w memory)) ≡ length memory - w = omega (arith, length-take (length memory - w) (drop w memory), length-drop w memory) in
    ap counted p.1 ∙ ap (λ why. Err why) p.2 ∙ sent_on c.args.session.settings.sender.limit.count (parameters_of c.args.session.settings) (length memory) _ w c.args.frame.now (Err c.in_err-session.field-0.0) c.requires.within lent c.in_err-session.ensures.answer

pub returns-clause-answer : goal.returns-clause-answer
returns-clause-answer c =
    let w = c.args.written in
    let memory = c.args.memory.now in
    let lent : length (take (length memory - w) (drop w memory)) ≡ length memory - w = omega (arith, length-take (length memory - w) (drop w memory), length-drop w memory) in
    sent_on c.args.session.settings.sender.limit.count (parameters_of c.args.session.settings) (length memory) _ w c.args.frame.now (Ok c.in_ok-session.sent) c.requires.within lent c.in_ok-session.ensures.answer
