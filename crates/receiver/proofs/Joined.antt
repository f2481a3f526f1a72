-- Calls as runs over a receiver and a queue. Assumes nothing.
use Rattle.std.proofs.Common.{◌≡◌, ℕ, ◌+◌, ◌-◌, min, List, [], length, ◌++◌, None, refl, sym, ap, ◌∙◌, subst, arith}
use Rattle.hold.specs.declared.Hold.{Ghosts}
use Rattle.hold.specs.Candidates.{open_codeblocks}
use Rattle.queue.specs.declared.slots.Queue.{Queue}
use Rattle.reception.specs.declared.Report.{Report}
use Rattle.reception.specs.Decoding.{Held, added}
use Rattle.reception.specs.Rules.{Phase, INACTIVE, SEARCH, DECODE}
use Rattle.reception.specs.Runs.{CarrierIsUp, Clear}
use Rattle.reception.specs.Calls.{lost_after, refused_if_up, refused_if_down}
use Rattle.reception.proofs.Promises.{receiver_promise}
use Rattle.decoding.specs.Meaning.{rules_of}
use Rattle.receiver.specs.declared.receiver_state.ReceiverState.TheVariants.{Search}
use Rattle.receiver.specs.Meaning.{settings_of, lost_of, held_by, state_of, free_slots}
use Rattle.receiver.specs.Calls.{named, reports_made}
use Rattle.receiver.specs.Joined.{PromiseOverCalls}
use Rattle.receiver.specs.Events.{Queued}
use Rattle.receiver.proofs.Queues.{queued_none, lost_none}
use Rattle.receiver.proofs.Ran.{ran_then, up_is_quiet}

-- what no report leaves, however many slots are free
no_report : (free other lost : ℕ) (reports : List Report) → reports ≡ [] → lost_after free lost reports ≡ lost_after other lost reports
no_report free other lost reports none = by (length reports) (ap length none)
  where
    by : (n : ℕ) → n ≡ 0 → min 65535 (lost + (n - free)) ≡ min 65535 (lost + (n - other))
    by n e = omega arith

queued_as_it_was : (reports : List Report) (queue : Queue Report) → reports ≡ [] → Queued reports queue queue
queued_as_it_was reports queue none = subst (λ l. Queued l queue queue) (sym none) (queued_none queue)

down_before : (p : Phase) → refused_if_up p ≡ None → p ≡ INACTIVE
down_before INACTIVE e = refl
down_before (SEARCH count window) e = absurd (cc)
down_before (DECODE r) e = absurd (cc)

up_before : (p : Phase) → refused_if_down p ≡ None → CarrierIsUp p
up_before INACTIVE e = absurd (cc)
up_before (SEARCH count window) e = tt
up_before (DECODE r) e = tt

clear_answers : (p : Phase) (h : Held) → Clear p h → (named p ≡ Search) × (added h ≡ 0)
clear_answers INACTIVE h clear = absurd clear
clear_answers (SEARCH count window) h clear = (refl, ap open_codeblocks clear.0)
clear_answers (DECODE r) h clear = absurd clear

module _ {X : Type 0} (hold : Ghosts X) where
  pub promise_over_calls : PromiseOverCalls hold
  promise_over_calls =
      record {
        promise = λ r. receiver_promise (rules_of (settings_of r)) hold.showing;
        bringing = λ call before after queue later free called queued.
            record { state = called.state; settings = called.settings; lost = called.lost ∙ ap (λ n. lost_after n (lost_of before) (reports_made hold before call)) free; queued = queued };
        raising = λ before after queue called.
            let none = ap (λ l. l ++ []) (up_is_quiet (state_of hold before).phase (state_of hold before).held) in
            record {
              state = called.state;
              settings = called.settings;
              lost = called.lost ∙ no_report 0 (free_slots queue) (lost_of before) _ none;
              queued = queued_as_it_was _ queue none;
            };
        releasing = λ before after queue called.
            record { state = called.state; settings = called.settings; lost = called.lost ∙ no_report 0 (free_slots queue) (lost_of before) [] refl; queued = queued_none queue };
        joined = λ first then before between after queue later last ran more. ran_then hold first then before between after queue later last ran more;
        nothing = λ r queue. record { state = refl; settings = refl; lost = lost_none (free_slots queue) (lost_of r) r.state.lost_few; queued = queued_none queue };
        was_down = λ r accepted. down_before (state_of hold r).phase accepted;
        was_up = λ r accepted. up_before (state_of hold r).phase accepted;
        clear = λ r clear. clear_answers (state_of hold r).phase (held_by hold r) clear;
      }
