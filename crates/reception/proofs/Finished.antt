-- What is finished stays. Assumes nothing.
use Rattle.std.proofs.Common.{◌≡◌, ℕ, zero, suc, ◌+◌, ◌*◌, ◌≤◌, Bool, true, false, cond, eqb, leb, List, [], ◌∷◌, ◌++◌, length, drop, Some, None, Option, sym, refl, ap, ◌∙◌, append_assoc, append-nil, arith}
use Rattle.std.proofs.lemmas.List.{drop-append-le, drop-drop, length-append}
use Rattle.bch.specs.declared.Accepted.{Accepted}
use Rattle.bch.specs.Reception.{verdict}
use Rattle.hold.specs.Candidates.{Candidate, Showing, open_codeblocks, finished_after_finish, after_release}
use Rattle.reception.specs.declared.Reason.{Reason}
use Rattle.reception.specs.declared.Reason.TheVariants.{Closed, Empty, Long, Full, Down}
use Rattle.reception.specs.Symbols.{bit_value}
use Rattle.reception.specs.Searching.{is_start, next_count, next_window}
use Rattle.reception.specs.Decoding.{Settings, Held, abandoning, adding, added, room, reading, goes_on, ends, report, closing, counting_in, decoded_by, with_symbol, read_word}
use Rattle.reception.specs.Rules.{Phase, INACTIVE, SEARCH, DECODE, State, state, Event, carrier_up, carrier_down, symbol, release, Outcome, at_window, at_decoded, at_event, made}
use Rattle.reception.specs.Runs.{after_events}
use Rattle.reception.proofs.Kept.{Kept, KeptState, event_keeps as kept_on, kept_from_making}
use Rattle.reception.specs.Finished.{announced_by, announced, accepted_release, new_candidates, releases_accepted, WhatIsFinishedStays}

-- one outcome adds what it announces to what is finished
Adds : Held → Outcome → Type 0
Adds h o = o.after.held.finished ≡ h.finished ++ announced h.opened o.reports

nothing_new : (h : Held) → h.finished ≡ h.finished ++ []
nothing_new h = sym (append-nil h.finished)

-- the candidate that is closed is the one that is announced
open_closed : (h : Held) (opened : Option Candidate) (n k : ℕ) → open_codeblocks opened ≡ suc n → finished_after_finish h.finished opened ≡ h.finished ++ announced opened (report Closed (suc n) k ∷ [])
open_closed h None n k e = absurd (omega arith)
open_closed h (Some []) n k e = absurd (omega arith)
open_closed h (Some (x ∷ xs)) n k e = refl

-- nothing is announced by a report with another reason
nothing_announced : (opened : Option Candidate) (reason : Reason) (n k : ℕ) → ((candidate : Candidate) → announced_by (Some candidate) reason ≡ []) →
    announced opened (report reason n k ∷ []) ≡ []
nothing_announced None reason n k none = refl
nothing_announced (Some candidate) reason n k none = ap (λ l. l ++ []) (none candidate)

abandoned : (h : Held) (reason : Reason) (n k : ℕ) → ((candidate : Candidate) → announced_by (Some candidate) reason ≡ []) →
    h.finished ≡ h.finished ++ announced h.opened (report reason n k ∷ [])
abandoned h reason n k none = sym (ap (λ l. h.finished ++ l) (nothing_announced h.opened reason n k none) ∙ append-nil h.finished)

module _ (settings : Settings) (showing : Showing) where
  closing_adds : (h : Held) (n k : ℕ) → added h ≡ n → Adds h (at_decoded (closing h n k))
  unfolding Adds
  closing_adds h zero k e = abandoned h Empty 0 k (λ candidate. refl)
  closing_adds h (suc n) k e = open_closed h h.opened n k e

  counting_adds : (h : Held) (n k : ℕ) (octets : List ℕ) (corrected : Bool) → Adds h (at_decoded (counting_in settings showing h n k octets corrected))
  unfolding Adds
  counting_adds h n k octets corrected = by (leb settings.limit n) (eqb (room h) 0)
    where
      by : (many full : Bool) →
          Adds h (at_decoded (cond many (ends (abandoning h) (report Long n k)) (cond full (ends (abandoning h) (report Full n k)) (goes_on (adding showing h octets) (reading 0 0 (suc n) (k + bit_value corrected))))))
      by true full = abandoned h Long n k (λ candidate. refl)
      by false true = abandoned h Full n k (λ candidate. refl)
      by false false = nothing_new h

  decoding_adds : (h : Held) (n k : ℕ) (v : Option Accepted) → added h ≡ n → Adds h (at_decoded (decoded_by settings showing h n k v))
  decoding_adds h n k None held = closing_adds h n k held
  decoding_adds h n k (Some x) held = counting_adds h n k x.information x.corrected

  symbol_adds : (p : Phase) (h : Held) (b : Bool) → Kept settings.limit p h → Adds h (at_event settings showing (state p h) (symbol b))
  unfolding Adds
  symbol_adds INACTIVE h b kept = nothing_new h
  symbol_adds (SEARCH c w) h b kept = by (is_start settings.mode (next_count c) (next_window w b))
    where
      by : (found : Bool) → Adds h (at_window h (next_count c) (next_window w b) found)
      by true = nothing_new h
      by false = nothing_new h
  symbol_adds (DECODE r) h b kept = by (eqb (suc r.count) 64)
    where
      by : (whole : Bool) → Adds h (at_decoded (read_word settings showing h (with_symbol r b) whole))
      by true = decoding_adds h r.codeblocks r.corrections (verdict settings.mode (2 * r.word + bit_value b)) kept.held
      by false = nothing_new h

  up_adds : (p : Phase) (h : Held) → Adds h (at_event settings showing (state p h) carrier_up)
  unfolding Adds
  up_adds INACTIVE h = nothing_new h
  up_adds (SEARCH c w) h = nothing_new h
  up_adds (DECODE r) h = nothing_new h

  down_adds : (p : Phase) (h : Held) → Adds h (at_event settings showing (state p h) carrier_down)
  unfolding Adds
  down_adds INACTIVE h = nothing_new h
  down_adds (SEARCH c w) h = nothing_new h
  down_adds (DECODE r) h = abandoned h Down r.codeblocks r.corrections (λ candidate. refl)

  released : (fs : List Candidate) → after_release fs ≡ drop (accepted_release release fs) (fs ++ [])
  released [] = refl
  released (c ∷ cs) = sym (append-nil cs)

  -- one event, a release or another
  event_keeps : (s : State) (e : Event) → KeptState settings.limit s →
      (at_event settings showing s e).after.held.finished ≡ drop (accepted_release e s.held.finished) (s.held.finished ++ announced s.held.opened (at_event settings showing s e).reports)
  unfolding Adds
  event_keeps s carrier_up kept = up_adds s.phase s.held
  event_keeps s carrier_down kept = down_adds s.phase s.held
  event_keeps s (symbol b) kept = symbol_adds s.phase s.held b kept
  event_keeps s release kept = released s.held.finished

  few : (e : Event) (fs : List Candidate) → accepted_release e fs ≤ length fs
  few carrier_up fs = omega arith
  few carrier_down fs = omega arith
  few (symbol b) fs = omega arith
  few release [] = omega arith
  few release (c ∷ cs) = omega arith

  pub run_keeps : (s : State) (es : List Event) → KeptState settings.limit s →
      (after_events settings showing s es).held.finished ≡ drop (releases_accepted settings showing s es) (s.held.finished ++ new_candidates settings showing s es)
  run_keeps s [] kept = sym (append-nil s.held.finished)
  run_keeps s (e ∷ es) kept =
      let next = (at_event settings showing s e).after in
      let fs = s.held.finished in
      let one = announced s.held.opened (at_event settings showing s e).reports in
      let more = new_candidates settings showing next es in
      let a = accepted_release e fs in
      let r = releases_accepted settings showing next es in
      run_keeps next es (kept_on settings showing s e kept) ∙ ap (λ l. drop r (l ++ more)) (event_keeps s e kept)
      ∙ ap (drop r) (sym (drop-append-le a (fs ++ one) more (omega (arith, few e fs, length-append fs one))))
      ∙ drop-drop r a ((fs ++ one) ++ more) ∙ ap (drop (a + r)) (append_assoc fs one more)

  pub what_is_finished_stays : WhatIsFinishedStays settings showing
  what_is_finished_stays hold earlier later = run_keeps (after_events settings showing (made hold) earlier) later (kept_from_making settings showing hold earlier)
