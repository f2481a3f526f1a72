-- A receiver whose carrier goes up. Assumes nothing.
use Rattle.std.proofs.Common.{◌≡◌, true, [], ◌∷◌, refl, sym, ap, ◌∙◌, subst}
use Rattle.hold.specs.declared.Hold.{Ghosts}
use Rattle.reception.specs.Rules.{INACTIVE, carrier_up, made}
use Rattle.reception.specs.Runs.{after_events, Clear}
use Rattle.reception.specs.Calls.{call_up, events_of_calls}
use Rattle.decoding.specs.Meaning.{rules_of}
use Rattle.receiver.specs.declared.receiver.Receiver.{Receiver}
use Rattle.receiver.specs.Meaning.{settings_of, held_by, state_of}
use Rattle.receiver.specs.Calls.{Called}
use Rattle.receiver.specs.Joined.{PromiseOverCalls}
use Rattle.callers.specs.InUse.{InUse, BackInSearch}
use Rattle.callers.proofs.Used.{used_on, by_its_events, back}

module _ {X : Type 0} (hold : Ghosts X) where
  pub raised : (before after : Receiver X) → PromiseOverCalls hold → InUse hold before → (state_of hold before).phase ≡ INACTIVE → Called hold call_up before after → BackInSearch hold after
  raised before after over used inactive called =
      let rules = rules_of (settings_of before) in
      let shown = hold.showing in
      let earlier = events_of_calls used.calls in
      let here = by_its_events hold before used over in
      let there : state_of hold after ≡ after_events rules shown (after_events rules shown (made used.over) earlier) (carrier_up ∷ []) =
      called.state ∙ ap (λ s. after_events rules shown s (carrier_up ∷ [])) here in
      let ready = (over.promise before).ready used.over earlier [] (ap (λ s. s.phase) (sym here) ∙ inactive) (tt, (true, 0, refl)) in
      let clear : Clear (state_of hold after).phase (held_by hold after) = subst (λ s. Clear s.phase s.held) (sym there) ready in
      back hold after over (used_on hold call_up before after called used) clear
