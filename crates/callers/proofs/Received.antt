-- Two frames of a session as a receiver takes them. Assumes nothing.
use Rattle.std.proofs.Common.{◌≡◌, ℕ, ◌≤◌, List, [], ◌∷◌, ◌++◌, drop, sym, ap, ◌∙◌, subst, ap₂, arith, None}
use Rattle.bch.specs.Bits.{bits_of}
use Rattle.cltu.specs.Cltu.{filled}
use Rattle.hold.specs.declared.Hold.{Ghosts}
use Rattle.queue.specs.declared.slots.Queue.{Queue}
use Rattle.reception.specs.declared.Report.{Report}
use Rattle.reception.specs.Decoding.{room}
use Rattle.reception.specs.Rules.{carrier_up, made, at_event}
use Rattle.reception.specs.Runs.{after_events, Clear}
use Rattle.reception.specs.Calls.{symbol_events, refused_if_up, events_of_calls}
use Rattle.reception.specs.Finished.{releases_accepted}
use Rattle.decoding.specs.Meaning.{rules_of}
use Rattle.receiver.specs.declared.receiver.Receiver.{Receiver}
use Rattle.receiver.specs.Meaning.{settings_of, held_by, state_of}
use Rattle.receiver.specs.Joined.{PromiseOverCalls}
use Rattle.receiver.specs.Events.{Ran}
use Rattle.procedures.specs.Stretch.{stretch_octets}
use Rattle.procedures.specs.Reception.{FramesWithin, codeblocks_of, SessionPromise}
use Rattle.callers.specs.declared.both_ends.SenderSettings.{SenderSettings}
use Rattle.callers.specs.InUse.{InUse, BackInSearch}
use Rattle.callers.specs.BothEnds.{parameters, two_frames, raised_for, FitsTheSender}
use Rattle.callers.proofs.Used.{by_its_events, back}

module _ {X : Type 0} (hold : Ghosts X) where
  pub two_received : (sender : SenderSettings) (acquisition : ℕ) (first second octets : List ℕ) (before after : Receiver X) (q s : Queue Report) →
      SessionPromise → PromiseOverCalls hold →
      octets ≡ stretch_octets (parameters sender) acquisition (two_frames first second) → FramesWithin sender.«limit» (first ∷ second ∷ []) →
      refused_if_up (state_of hold before).phase ≡ None → Ran hold (raised_for octets) before after q s → InUse hold after →
      InUse hold before → FitsTheSender hold before sender first second →
      ((held_by hold after).finished ≡ (held_by hold before).finished ++ filled first ∷ filled second ∷ []) × BackInSearch hold after
  two_received sender acquisition first second octets before after q s session over written within raised ran used_after used fits =
      let rules = rules_of (settings_of before) in
      let shown = hold.showing in
      let earlier = events_of_calls used.calls in
      let then = after_events rules shown (made used.over) earlier in
      let later = symbol_events (bits_of octets) in
      let joined = (over.promise before).joined in
      let here : state_of hold before ≡ then = by_its_events hold before used over in
      let got = session.stretch rules shown (parameters sender) acquisition (two_frames first second) used.over earlier later
      (ap (λ u. u.phase) (sym here) ∙ over.was_down before raised) (joined.up_called (bits_of octets)) (joined.symbols_called (bits_of octets) ∙ ap bits_of written)
      (session.higher_limit sender.«limit» rules.limit (first ∷ second ∷ []) fits.limits within)
      (subst (λ u. codeblocks_of (first ∷ second ∷ []) ≤ room u.held) here fits.space) in
      let last = after_events rules shown then (carrier_up ∷ later) in
      let there : state_of hold after ≡ last = ran.state ∙ ap (λ u. after_events rules shown u (carrier_up ∷ later)) here in
      let none : releases_accepted rules shown then (carrier_up ∷ later) ≡ 0 =
      omega (arith, joined.none_released (at_event rules shown then carrier_up).after (bits_of octets)) in
      let finished : last.held.finished ≡ then.held.finished ++ filled first ∷ filled second ∷ [] =
      got.1.added ∙ ap₂ (λ n l. drop n (then.held.finished ++ l)) none (got.1.filled_frames fits.matches) in
      let clear : Clear (state_of hold after).phase (held_by hold after) = subst (λ u. Clear u.phase u.held) (sym there) got.0 in (
        ap (λ u. u.held.finished) there ∙ finished ∙ ap (λ u. u.held.finished ++ filled first ∷ filled second ∷ []) (sym here),
        back hold after over used_after clear,
      )
