-- What is new in a hold takes its space, and nothing else does. Assumes nothing.
use Rattle.std.proofs.Common.{◌≡◌, ℕ, zero, suc, ◌+◌, ◌*◌, ◌≤◌, Bool, true, false, cond, eqb, leb, List, [], ◌∷◌, ◌++◌, drop, Some, None, Option, refl, ap, ◌∙◌, arith}
use Rattle.bch.specs.declared.Accepted.{Accepted}
use Rattle.bch.specs.Reception.{verdict}
use Rattle.hold.specs.Candidates.{Candidate, Showing, finished_codeblocks, open_codeblocks}
use Rattle.reception.specs.declared.Reason.TheVariants.{Long, Full}
use Rattle.reception.specs.Symbols.{bit_value}
use Rattle.reception.specs.Searching.{is_start, next_count, next_window}
use Rattle.reception.specs.Decoding.{Settings, Held, abandoning, adding, room, reading, goes_on, ends, report, closing, decoded_by, with_symbol, read_word}
use Rattle.reception.specs.Rules.{Phase, INACTIVE, SEARCH, DECODE, State, state, Event, carrier_up, carrier_down, symbol, release, Outcome, at_window, at_decoded, at_event}
use Rattle.reception.specs.Runs.{after_events}
use Rattle.reception.specs.Finished.{new_candidates, releases_accepted}
use Rattle.procedures.specs.Reception.{TheCapacityStays}
use Rattle.reception.proofs.Finished.{run_keeps}
use Rattle.reception.proofs.Kept.{KeptState}

abbrev KeepsCapacity : Held → Outcome → Type 0
KeepsCapacity h o = o.after.held.capacity ≡ h.capacity

module _ (settings : Settings) (showing : Showing) where
  closing_keeps : (h : Held) (n k : ℕ) → KeepsCapacity h (at_decoded (closing h n k))
  closing_keeps h zero k = refl
  closing_keeps h (suc n) k = refl

  verdict_keeps : (h : Held) (n k : ℕ) (v : Option Accepted) → KeepsCapacity h (at_decoded (decoded_by settings showing h n k v))
  verdict_keeps h n k None = closing_keeps h n k
  verdict_keeps h n k (Some x) = by (leb settings.limit n) (eqb (room h) 0)
    where
      by : (many full : Bool) →
          KeepsCapacity h (at_decoded (cond many (ends (abandoning h) (report Long n k)) (cond full (ends (abandoning h) (report Full n k)) (goes_on (adding showing h x.information) (reading 0 0 (suc n) (k + bit_value x.corrected))))))
      by true full = refl
      by false true = refl
      by false false = refl

  symbol_keeps : (p : Phase) (h : Held) (b : Bool) → KeepsCapacity h (at_event settings showing (state p h) (symbol b))
  symbol_keeps INACTIVE h b = refl
  symbol_keeps (SEARCH c w) h b = by (is_start settings.mode (next_count c) (next_window w b))
    where
      by : (found : Bool) → KeepsCapacity h (at_window h (next_count c) (next_window w b) found)
      by true = refl
      by false = refl
  symbol_keeps (DECODE r) h b = by (eqb (suc r.count) 64)
    where
      by : (whole : Bool) → KeepsCapacity h (at_decoded (read_word settings showing h (with_symbol r b) whole))
      by true = verdict_keeps h r.codeblocks r.corrections (verdict settings.mode (2 * r.word + bit_value b))
      by false = refl

  up_keeps : (p : Phase) (h : Held) → KeepsCapacity h (at_event settings showing (state p h) carrier_up)
  up_keeps INACTIVE h = refl
  up_keeps (SEARCH c w) h = refl
  up_keeps (DECODE r) h = refl

  down_keeps : (p : Phase) (h : Held) → KeepsCapacity h (at_event settings showing (state p h) carrier_down)
  down_keeps INACTIVE h = refl
  down_keeps (SEARCH c w) h = refl
  down_keeps (DECODE r) h = refl

  event_keeps : (s : State) (e : Event) → KeepsCapacity s.held (at_event settings showing s e)
  event_keeps s carrier_up = up_keeps s.phase s.held
  event_keeps s carrier_down = down_keeps s.phase s.held
  event_keeps s (symbol b) = symbol_keeps s.phase s.held b
  event_keeps s release = refl

  pub capacity_stays : TheCapacityStays settings showing
  capacity_stays s [] = refl
  capacity_stays s (e ∷ es) = capacity_stays (at_event settings showing s e).after es ∙ event_keeps s e

  fewer_codeblocks : (n : ℕ) (cs : List Candidate) → finished_codeblocks (drop n cs) ≤ finished_codeblocks cs
  fewer_codeblocks zero cs = omega arith
  fewer_codeblocks (suc n) [] = omega arith
  fewer_codeblocks (suc n) (c ∷ cs) = omega (arith, fewer_codeblocks n cs)

  pub codeblocks_together : (cs ds : List Candidate) → finished_codeblocks (cs ++ ds) ≡ finished_codeblocks cs + finished_codeblocks ds
  codeblocks_together [] ds = omega arith
  codeblocks_together (c ∷ cs) ds = omega (arith, codeblocks_together cs ds)

  -- from one time when no candidate is open to another
  pub room_left : (s : State) (es : List Event) → KeptState settings.limit s → s.held.opened ≡ None → (after_events settings showing s es).held.opened ≡ None →
      room s.held ≤ room (after_events settings showing s es).held + finished_codeblocks (new_candidates settings showing s es)
  room_left s es kept none none-then =
      let new = new_candidates settings showing s es in
      omega (
        arith,
        capacity_stays s es,
        ap finished_codeblocks (run_keeps settings showing s es kept),
        fewer_codeblocks (releases_accepted settings showing s es) (s.held.finished ++ new),
        codeblocks_together s.held.finished new,
        ap open_codeblocks none,
        ap open_codeblocks none-then,
      )
