-- A refused call changes nothing. Assumes nothing.
use Rattle.std.proofs.Common.{◌≡◌, ℕ, Bool, List, [], ◌∷◌, Some, sym, refl, ap, ◌∙◌, arith}
use Rattle.refusals.specs.declared.Refusal.{Refusal}
use Rattle.hold.specs.Candidates.{Candidate, Showing, after_release}
use Rattle.reception.specs.Decoding.{Settings, Held}
use Rattle.reception.specs.Rules.{Phase, INACTIVE, SEARCH, DECODE, state}
use Rattle.reception.specs.Runs.{after_events, reports_of}
use Rattle.reception.specs.Calls.{Call, call_up, call_down, call_symbols, call_release, symbol_events, refused_if_none, refusal, after_call, reports_in, ARefusedCallChangesNothing}

module _ (settings : Settings) (showing : Showing) where
  pub symbols_refused : (bits : List Bool) (h : Held) → (after_events settings showing (state INACTIVE h) (symbol_events bits) ≡ state INACTIVE h) × (reports_of settings showing (state INACTIVE h) (symbol_events bits) ≡ [])
  symbols_refused [] h = (refl, refl)
  symbols_refused (b ∷ bs) h = symbols_refused bs h

  by_phase : (p : Phase) (h : Held) (call : Call) (why : Refusal) → refusal (state p h) call ≡ Some why → (after_call settings showing (state p h) call ≡ state p h) × (reports_in settings showing (state p h) call ≡ [])
  by_phase INACTIVE h call_up why e = absurd (let z : ◌≡◌ {A = ℕ} 0 1 = cc in omega arith)
  by_phase (SEARCH c w) h call_up why e = (refl, refl)
  by_phase (DECODE r) h call_up why e = (refl, refl)
  by_phase INACTIVE h (call_down free) why e = (refl, refl)
  by_phase (SEARCH c w) h (call_down free) why e = absurd (let z : ◌≡◌ {A = ℕ} 0 1 = cc in omega arith)
  by_phase (DECODE r) h (call_down free) why e = absurd (let z : ◌≡◌ {A = ℕ} 0 1 = cc in omega arith)
  by_phase INACTIVE h (call_symbols bits free) why e = symbols_refused bits h
  by_phase (SEARCH c w) h (call_symbols bits free) why e = absurd (let z : ◌≡◌ {A = ℕ} 0 1 = cc in omega arith)
  by_phase (DECODE r) h (call_symbols bits free) why e = absurd (let z : ◌≡◌ {A = ℕ} 0 1 = cc in omega arith)
  by_phase p h call_release why e = none_waits h.finished refl e
    where
      none_waits : (fs : List Candidate) → h.finished ≡ fs → refused_if_none fs ≡ Some why → (after_call settings showing (state p h) call_release ≡ state p h) × (reports_in settings showing (state p h) call_release ≡ [])
      none_waits [] is e = (ap (λ fs. state p (record { capacity = h.capacity; finished = after_release fs; opened = h.opened })) is ∙ ap (λ fs. state p (record { capacity = h.capacity; finished = fs; opened = h.opened })) (sym is), refl)
      none_waits (c ∷ cs) is e = absurd (let z : ◌≡◌ {A = ℕ} 0 1 = cc in omega arith)

  pub a_refused_call_changes_nothing : ARefusedCallChangesNothing settings showing
  a_refused_call_changes_nothing s call why e = by_phase s.phase s.held call why e
