-- Events one after the other: what they make of a receiver and of the caller's queue. Assumes nothing.
use Rattle.std.proofs.Common.{◌≡◌, ℕ, ◌+◌, Bool, List, [], ◌∷◌, ◌++◌, length, Some, sym, refl, ap, ◌∙◌, subst, ap₂, append_assoc, arith}
use Rattle.std.proofs.lemmas.List.{length-append}
use Rattle.refusals.specs.declared.Refusal.{Refusal}
use Rattle.hold.specs.declared.Hold.{Ghosts}
use Rattle.hold.specs.Candidates.{Showing}
use Rattle.queue.specs.declared.slots.Queue.{Queue}
use Rattle.reception.specs.declared.Report.{Report}
use Rattle.reception.specs.Decoding.{Settings, Held}
use Rattle.reception.specs.Rules.{Phase, INACTIVE, SEARCH, DECODE, State, state, Event, at_up, at_event}
use Rattle.reception.specs.Runs.{after_events, reports_of}
use Rattle.reception.specs.Calls.{Call, symbol_events, events_in, refused_if_down, after_call, after_calls, lost_after}
use Rattle.reception.proofs.Refused.{symbols_refused}
use Rattle.reception.proofs.Brings.{after_append}
use Rattle.receiver.specs.declared.receiver.Receiver.{Receiver}
use Rattle.decoding.specs.Meaning.{rules_of}
use Rattle.receiver.specs.Phases.{phase_of}
use Rattle.receiver.specs.Meaning.{settings_of, lost_of, held_by, state_of, free_slots}
use Rattle.receiver.specs.Calls.{free_in, CameBy, Called}
use Rattle.receiver.specs.Events.{reports_at, Queued, Ran}
use Rattle.receiver.proofs.Queues.{queued_none, queued_then, lost_none, lost_then, fewer_slots}

-- carrier up makes no report
pub up_is_quiet : (p : Phase) (h : Held) → (at_up p h).reports ≡ []
up_is_quiet INACTIVE h = refl
up_is_quiet (SEARCH count window) h = refl
up_is_quiet (DECODE r) h = refl

-- symbols are refused in INACTIVE alone
pub is_inactive : (p : Phase) (why : Refusal) → Some why ≡ refused_if_down p → p ≡ INACTIVE
is_inactive INACTIVE why e = refl
is_inactive (SEARCH count window) why e = absurd (let z : ◌≡◌ {A = ℕ} 0 1 = cc in omega arith)
is_inactive (DECODE r) why e = absurd (let z : ◌≡◌ {A = ℕ} 0 1 = cc in omega arith)

reports_append : (settings : Settings) (showing : Showing) (es fs : List Event) (s : State) →
    reports_of settings showing s (es ++ fs) ≡ reports_of settings showing s es ++ reports_of settings showing (after_events settings showing s es) fs
reports_append settings showing [] fs s = refl
reports_append settings showing (e ∷ es) fs s =
    ap (λ l. (at_event settings showing s e).reports ++ l) (reports_append settings showing es fs (at_event settings showing s e).after)
    ∙ sym (append_assoc (at_event settings showing s e).reports (reports_of settings showing (at_event settings showing s e).after es) _)

module _ {X : Type 0} (hold : Ghosts X) where
  reports_then : (es fs : List Event) (a b : Receiver X) (q mid : Queue Report) → Ran hold es a b q mid → reports_at hold a es ++ reports_at hold b fs ≡ reports_at hold a (es ++ fs)
  reports_then es fs a b q mid first =
      let rules = rules_of (settings_of a) in
      ap (λ l. reports_at hold a es ++ l) (ap₂ (λ set s. reports_of (rules_of set) hold.showing s fs) first.settings first.state)
      ∙ sym (reports_append rules hold.showing es fs (state_of hold a))

  pub made_then : (es fs : List Event) (a b : Receiver X) (q mid : Queue Report) (m n : ℕ) → Ran hold es a b q mid → m ≡ length (reports_at hold a es) → n ≡ length (reports_at hold b fs) → m + n ≡ length (reports_at hold a (es ++ fs))
  made_then es fs a b q mid m n first some more =
      ap₂ ◌+◌ some more ∙ sym (length-append (reports_at hold a es) (reports_at hold b fs)) ∙ ap length (reports_then es fs a b q mid first)

  pub ran_then : (es fs : List Event) (a b c : Receiver X) (q mid later : Queue Report) → Ran hold es a b q mid → Ran hold fs b c mid later → Ran hold (es ++ fs) a c q later
  ran_then es fs a b c q mid later first second =
      let rules = rules_of (settings_of a) in
      let shown = hold.showing in
      let all = reports_then es fs a b q mid first in
      record {
        state = second.state ∙ ap₂ (λ set s. after_events (rules_of set) shown s fs) first.settings first.state ∙ sym (after_append rules shown es fs (state_of hold a));
        settings = second.settings ∙ first.settings;
        lost = second.lost ∙ ap (λ n. lost_after (free_slots mid) n (reports_at hold b fs)) first.lost
            ∙ lost_then (free_slots q) (free_slots mid) (lost_of a) (reports_at hold a es) (reports_at hold b fs) (fewer_slots (reports_at hold a es) q mid first.queued)
            ∙ ap (lost_after (free_slots q) (lost_of a)) all;
        queued = subst (λ l. Queued l q later) all (queued_then (reports_at hold a es) (reports_at hold b fs) q mid later first.queued second.queued);
      }

  -- symbols in INACTIVE
  pub ran_in_vain : (bits : List Bool) (r : Receiver X) (q : Queue Report) → phase_of r.state.phase ≡ INACTIVE → Ran hold (symbol_events bits) r r q q
  ran_in_vain bits r q e =
      let rules = rules_of (settings_of r) in
      let here = ap (λ p. state p (held_by hold r)) e in
      let none = symbols_refused rules hold.showing bits (held_by hold r) in
      let no_report : reports_at hold r (symbol_events bits) ≡ [] = ap (λ s. reports_of rules hold.showing s (symbol_events bits)) here ∙ none.1 in
      record {
        state = here ∙ sym none.0 ∙ ap (λ s. after_events rules hold.showing s (symbol_events bits)) (sym here);
        settings = refl;
        lost = lost_none (free_slots q) (lost_of r) r.state.lost_few ∙ ap (lost_after (free_slots q) (lost_of r)) (sym no_report);
        queued = subst (λ l. Queued l q q) (sym no_report) (queued_none q);
      }

  -- a call whose events ran
  pub came_more : (call : Call) (before after : Receiver X) → state_of hold after ≡ after_call (rules_of (settings_of before)) hold.showing (state_of hold before) call → settings_of after ≡ settings_of before →
      (over : Held) (calls : List Call) → CameBy hold over calls before → CameBy hold over (call ∷ calls) after
  came_more call before after state settings over calls came =
      state ∙ ap (λ s. after_call (rules_of (settings_of before)) hold.showing s call) came
      ∙ ap (λ set. after_calls (rules_of set) hold.showing over (call ∷ calls)) (sym settings)

  pub called : (call : Call) (before after : Receiver X) (q later : Queue Report) → free_in call ≡ free_slots q → Ran hold (events_in call) before after q later → Called hold call before after
  called call before after q later free ran =
      record {
        state = ran.state;
        settings = ran.settings;
        lost = ran.lost ∙ ap (λ n. lost_after n (lost_of before) (reports_at hold before (events_in call))) (sym free);
        came = came_more call before after ran.state ran.settings;
      }
