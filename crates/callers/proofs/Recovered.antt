-- Idle that brings a receiver back. Assumes nothing.
use Rattle.std.proofs.Common.{◌≡◌, ℕ, ◌≤◌, ◌/◌, Bool, List, [], ◌∷◌, ◌++◌, take, drop, sym, ap, ◌∙◌, subst, ap₂}
use Rattle.std.proofs.lemmas.List.{take-append-drop}
use Rattle.hold.specs.declared.Hold.{Ghosts}
use Rattle.queue.specs.declared.slots.Queue.{Queue}
use Rattle.reception.specs.declared.Report.{Report}
use Rattle.reception.specs.Rules.{release, made}
use Rattle.reception.specs.Runs.{after_events, symbols_in, CarrierStaysUp, CarrierIsUp, Clear, idle}
use Rattle.reception.specs.Calls.{symbol_events, events_of_calls}
use Rattle.decoding.specs.Meaning.{rules_of}
use Rattle.receiver.specs.declared.receiver.Receiver.{Receiver}
use Rattle.receiver.specs.Meaning.{settings_of, held_by, state_of}
use Rattle.receiver.specs.Events.{Ran}
use Rattle.receiver.specs.Joined.{PromiseOverCalls}
use Rattle.callers.specs.InUse.{InUse, BackInSearch, idle_needed, idle_around_a_release}
use Rattle.callers.proofs.Used.{by_its_events, back}

module _ {X : Type 0} (hold : Ghosts X) where
  pub around_a_release : (first : Bool) (bits : ℕ) (front behind : List Bool) (a b c d : Receiver X) (q r s : Queue Report) → PromiseOverCalls hold →
      front ≡ take (bits / 2) (idle first bits) → behind ≡ drop (bits / 2) (idle first bits) →
      Ran hold (symbol_events front) a b q r → Ran hold (release ∷ []) b c r r → Ran hold (symbol_events behind) c d r s →
      Ran hold (idle_around_a_release first bits) a d q s
  around_a_release first bits front behind a b c d q r s runs e f heard released again =
      subst (λ es. Ran hold es a d q s) (ap₂ (λ x y. symbol_events x ++ ((release ∷ []) ++ symbol_events y)) e f)
      (runs.joined (symbol_events front) ((release ∷ []) ++ symbol_events behind) a b d q r s heard
      (runs.joined (release ∷ []) (symbol_events behind) b c d r r s released again))

  pub back_in_search : (first : Bool) (bits : ℕ) (before after : Receiver X) (q s : Queue Report) → PromiseOverCalls hold →
      Ran hold (idle_around_a_release first bits) before after q s → CarrierIsUp (state_of hold before).phase →
      InUse hold after → InUse hold before → idle_needed before ≤ bits → BackInSearch hold after
  back_in_search first bits before after q s over ran up used_after used enough =
      let rules = rules_of (settings_of before) in
      let shown = hold.showing in
      let earlier = events_of_calls used.calls in
      let front = take (bits / 2) (idle first bits) in
      let behind = drop (bits / 2) (idle first bits) in
      let later = idle_around_a_release first bits in
      let here = by_its_events hold before used over in
      let promise = over.promise before in
      let joined = promise.joined in
      let stays : CarrierStaysUp later =
      joined.up (symbol_events front) ((release ∷ []) ++ symbol_events behind) (joined.up_called front) (joined.up_called behind) in
      let symbols : symbols_in later ≡ idle first bits =
      joined.symbols (symbol_events front) ((release ∷ []) ++ symbol_events behind)
      ∙ ap₂ ◌++◌ (joined.symbols_called front) (joined.symbols_called behind) ∙ take-append-drop (bits / 2) (idle first bits) in
      let there-back = promise.promise.back used.over earlier later first bits (subst (λ s. CarrierIsUp s.phase) here up) stays symbols enough in
      let there : state_of hold after ≡ after_events rules shown (after_events rules shown (made used.over) earlier) later =
      ran.state ∙ ap (λ s. after_events rules shown s later) here in
      let clear : Clear (state_of hold after).phase (held_by hold after) = subst (λ s. Clear s.phase s.held) (sym there) there-back in
      back hold after over used_after clear
