-- A run of events, and one behind it, are one run. Assumes nothing.
use Rattle.std.proofs.Common.{◌≡◌, ℕ, zero, suc, ◌+◌, List, [], ◌∷◌, ◌++◌, Bool, drop, replicate, refl, ap, ◌∙◌, arith}
use Rattle.std.proofs.Math.Seq.{drop-nil}
use Rattle.hold.specs.Candidates.{Candidate, Showing, after_release}
use Rattle.reception.specs.Decoding.{Settings, Held}
use Rattle.reception.specs.Rules.{Phase, INACTIVE, SEARCH, DECODE, State, state, Event, carrier_up, carrier_down, symbol, release, at_event}
use Rattle.reception.specs.Runs.{after_events, symbols_in, CarrierStaysUp, Clear}
use Rattle.reception.specs.Calls.{symbol_events}
use Rattle.reception.specs.Finished.{releases_accepted}
use Rattle.reception.specs.Gaps.{CarrierStaysDown}
use Rattle.reception.specs.Joined.{without_oldest, RunsAreJoined}
use Rattle.reception.proofs.Brings.{after_append, new_append, reports_append}

symbols_append : (es fs : List Event) → symbols_in (es ++ fs) ≡ symbols_in es ++ symbols_in fs
symbols_append [] fs = refl
symbols_append (carrier_up ∷ es) fs = symbols_append es fs
symbols_append (carrier_down ∷ es) fs = symbols_append es fs
symbols_append (symbol b ∷ es) fs = ap (λ l. b ∷ l) (symbols_append es fs)
symbols_append (release ∷ es) fs = symbols_append es fs

up_append : (es fs : List Event) → CarrierStaysUp es → CarrierStaysUp fs → CarrierStaysUp (es ++ fs)
up_append [] fs up then = then
up_append (carrier_up ∷ es) fs up then = up_append es fs up then
up_append (carrier_down ∷ es) fs up then = absurd up
up_append (symbol b ∷ es) fs up then = up_append es fs up then
up_append (release ∷ es) fs up then = up_append es fs up then

down_append : (es fs : List Event) → CarrierStaysDown es → CarrierStaysDown fs → CarrierStaysDown (es ++ fs)
down_append [] fs down then = then
down_append (carrier_up ∷ es) fs down then = absurd down
down_append (carrier_down ∷ es) fs down then = down_append es fs down then
down_append (symbol b ∷ es) fs down then = down_append es fs down then
down_append (release ∷ es) fs down then = down_append es fs down then

symbols_called : (bits : List Bool) → symbols_in (symbol_events bits) ≡ bits
symbols_called [] = refl
symbols_called (b ∷ bits) = ap (λ l. b ∷ l) (symbols_called bits)

symbols_joined : (bits more : List Bool) → symbol_events (bits ++ more) ≡ symbol_events bits ++ symbol_events more
symbols_joined [] more = refl
symbols_joined (b ∷ bits) more = ap (λ l. symbol b ∷ l) (symbols_joined bits more)

up_called : (bits : List Bool) → CarrierStaysUp (symbol_events bits)
up_called [] = tt
up_called (b ∷ bits) = up_called bits

abbrev with_finished : List Candidate → Held → Held
with_finished finished h = record { capacity = h.capacity; finished = finished; opened = h.opened }

still_clear : (p : Phase) (h : Held) (finished : List Candidate) → Clear p h → Clear p (with_finished finished h)
still_clear INACTIVE h finished clear = absurd clear
still_clear (SEARCH count window) h finished clear = clear
still_clear (DECODE r) h finished clear = absurd clear

rest : (count : ℕ) (finished : List Candidate) → drop count (after_release finished) ≡ drop (suc count) finished
rest count [] = drop-nil count
rest count (candidate ∷ more) = refl

module _ (settings : Settings) (showing : Showing) where
  releases_append : (es fs : List Event) (s : State) →
      releases_accepted settings showing s (es ++ fs) ≡ releases_accepted settings showing s es + releases_accepted settings showing (after_events settings showing s es) fs
  releases_append [] fs s = omega arith
  releases_append (e ∷ es) fs s = omega (arith, releases_append es fs (at_event settings showing s e).after)

  none_released : (bits : List Bool) (s : State) → releases_accepted settings showing s (symbol_events bits) ≡ 0
  none_released [] s = refl
  none_released (b ∷ bits) s = omega (arith, none_released bits (at_event settings showing s (symbol b)).after)

  released : (count : ℕ) (s : State) → after_events settings showing s (replicate count release) ≡ without_oldest count s
  released zero s = refl
  released (suc count) s = released count (at_event settings showing s release).after ∙ ap (λ l. state s.phase (with_finished l s.held)) (rest count s.held.finished)

  pub runs_are_joined : RunsAreJoined settings showing
  runs_are_joined =
      record {
        state = λ s first then. after_append settings showing first then s;
        reports = λ s first then. reports_append settings showing first then s;
        candidates = λ s first then. new_append settings showing first then s;
        releases = λ s first then. releases_append first then s;
        symbols = symbols_append;
        up = up_append;
        down = down_append;
        symbols_called = symbols_called;
        up_called = up_called;
        symbols_joined = symbols_joined;
        none_released = λ s bits. none_released bits s;
        released = λ s count. released count s;
        stays_clear = λ s count clear. still_clear s.phase s.held (drop count s.held.finished) clear;
      }
