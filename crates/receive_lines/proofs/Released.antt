-- Runs in which each candidate is released as soon as it is closed. Assumes nothing.
use Rattle.std.proofs.Common.{◌≡◌, ℕ, zero, suc, ◌+◌, ◌≤◌, ◌<◌, Bool, true, false, cond, List, [], ◌∷◌, ◌++◌, map, length, Some, None, Option, sym, refl, ap, ◌∙◌, subst, ap₂, append-nil, slice_get, arith}
use Rattle.std.proofs.lemmas.List.{length-append, map-append}
use Rattle.hold.specs.Candidates.{Candidate, Showing}
use Rattle.reception.specs.declared.Report.{Report}
use Rattle.reception.specs.Searching.{next_count, next_window, is_start}
use Rattle.reception.specs.Decoding.{Settings, Held, releasing, Decoded, goes_on, ends, read_symbol}
use Rattle.reception.specs.Rules.{State, state, Phase, INACTIVE, SEARCH, DECODE, Event, carrier_up, carrier_down, symbol, release, at_window, at_decoded, at_event}
use Rattle.reception.specs.Runs.{after_events, reports_of}
use Rattle.reception.specs.Finished.{announced, new_candidates}
use Rattle.reception.proofs.Brings.{reports_append, new_append}
use Rattle.reception.proofs.Kept.{KeptState, event_keeps}
use Rattle.receive_lines.specs.declared.place.Place.{Place}
use Rattle.receive_lines.specs.Lines.{Told, told_at, is_closed, reports_in}
use Rattle.receive_lines.specs.Pass.{Placed, placed, events_among}
use Rattle.receive_lines.specs.Released.{closes, with_release, with_releases, told_of, reports_by, FirstAt}
use Rattle.receive_lines.specs.Releasing.{after_telling, after_outcome}

-- an event makes one report at most
few_at_decoded : (d : Decoded) → length (at_decoded d).reports ≤ 1
few_at_decoded (goes_on h r) = omega arith
few_at_decoded (ends h one) = omega arith

few_at_window : (h : Held) (count window : ℕ) (found : Bool) → length (at_window h count window found).reports ≤ 1
few_at_window h count window true = omega arith
few_at_window h count window false = omega arith

pub few_reports : (settings : Settings) (showing : Showing) (p : Phase) (h : Held) (e : Event) → length (at_event settings showing (record { phase = p; held = h }) e).reports ≤ 1
few_reports settings showing INACTIVE h carrier_up = omega arith
few_reports settings showing (SEARCH c w) h carrier_up = omega arith
few_reports settings showing (DECODE r) h carrier_up = omega arith
few_reports settings showing INACTIVE h carrier_down = omega arith
few_reports settings showing (SEARCH c w) h carrier_down = omega arith
few_reports settings showing (DECODE r) h carrier_down = omega arith
few_reports settings showing INACTIVE h (symbol b) = omega arith
few_reports settings showing (SEARCH c w) h (symbol b) = few_at_window h (next_count c) (next_window w b) (is_start settings.mode (next_count c) (next_window w b))
few_reports settings showing (DECODE r) h (symbol b) = few_at_decoded (read_symbol settings showing h r b)
few_reports settings showing p h release = omega arith

reports_told : (place : Place) (reports : List Report) → reports_in (map (told_at place) reports) ≡ reports
reports_told place [] = refl
reports_told place (one ∷ reports) = ap (λ l. one ∷ l) (reports_told place reports)

module _ (settings : Settings) (showing : Showing) where
  abbrev after : State → List Event → State
  after = after_events settings showing

  abbrev tells : State → List Event → List Report
  tells = reports_of settings showing

  abbrev released : State → List Event → List Event
  released = with_releases settings showing

  abbrev made_by : State → Event → List Report
  made_by s e = (at_event settings showing s e).reports

  -- the state behind an event and its release
  abbrev pub next : State → Event → State
  next s e = after_events settings showing s (with_release settings showing s e)

  released_if : (t : State) (c : Bool) → cond c (state t.phase (releasing t.held)) t ≡ after t (cond c (release ∷ []) [])
  released_if t true = refl
  released_if t false = refl

  told_and_released : (t : State) (reports : List Report) → length reports ≤ 1 → after_telling t reports ≡ after t (cond (closes reports) (release ∷ []) [])
  told_and_released t [] few = refl
  told_and_released t (one ∷ []) few = released_if t (is_closed one.reason)
  told_and_released t (one ∷ two ∷ more) few = absurd (omega arith)

  pub outcome_is_next : (s : State) (e : Event) → after_outcome (at_event settings showing s e) ≡ next s e
  outcome_is_next s e = told_and_released (at_event settings showing s e).after (made_by s e) (few_reports settings showing s.phase s.held e)

  keeps_if : (t : State) (c : Bool) → KeptState settings.limit t → KeptState settings.limit (after t (cond c (release ∷ []) []))
  keeps_if t true kept = event_keeps settings showing t release kept
  keeps_if t false kept = kept

  pub next_keeps : (s : State) (e : Event) → KeptState settings.limit s → KeptState settings.limit (next s e)
  next_keeps s e kept = keeps_if (at_event settings showing s e).after (closes (made_by s e)) (event_keeps settings showing s e kept)

  -- a release reports nothing and announces nothing
  no_report : (t : State) (c : Bool) → tells t (cond c (release ∷ []) []) ≡ []
  no_report t true = refl
  no_report t false = refl

  none_new : (t : State) (c : Bool) → new_candidates settings showing t (cond c (release ∷ []) []) ≡ []
  none_new t true = refl
  none_new t false = refl

  pub reports_more : (s : State) (e : Event) (es : List Event) → tells s (released s (e ∷ es)) ≡ made_by s e ++ tells (next s e) (released (next s e) es)
  reports_more s e es =
      let t = (at_event settings showing s e).after in
      reports_append settings showing (with_release settings showing s e) (released (next s e) es) s
      ∙ ap (λ l. l ++ tells (next s e) (released (next s e) es)) (ap (λ l. made_by s e ++ l) (no_report t (closes (made_by s e))) ∙ append-nil (made_by s e))

  pub candidates_more : (s : State) (e : Event) (es : List Event) →
      new_candidates settings showing s (released s (e ∷ es)) ≡ announced s.held.opened (made_by s e) ++ new_candidates settings showing (next s e) (released (next s e) es)
  candidates_more s e es =
      let t = (at_event settings showing s e).after in
      let new = announced s.held.opened (made_by s e) in
      new_append settings showing (with_release settings showing s e) (released (next s e) es) s
      ∙ ap (λ l. l ++ new_candidates settings showing (next s e) (released (next s e) es)) (ap (λ l. new ++ l) (none_new t (closes (made_by s e))) ∙ append-nil new)

  -- what is told, without its places, is what is reported
  pub told_reports : (s : State) (ps : List Placed) → reports_in (told_of settings showing s ps) ≡ tells s (released s (events_among ps))
  told_reports s [] = refl
  told_reports s (p ∷ ps) =
      map-append (λ one. one.report) (map (told_at p.place) (made_by s p.event)) (told_of settings showing (next s p.event) ps)
      ∙ ap₂ ◌++◌ (reports_told p.place (made_by s p.event)) (told_reports (next s p.event) ps)
      ∙ sym (reports_more s p.event (events_among ps))

  reports_by_more : (s : State) (p : Placed) (ps : List Placed) → reports_by settings showing s (p ∷ ps) ≡ length (made_by s p.event) + reports_by settings showing (next s p.event) ps
  reports_by_more s p ps =
      ap length (reports_more s p.event (events_among ps)) ∙ length-append (made_by s p.event) (tells (next s p.event) (released (next s p.event) (events_among ps)))

  -- a report that one of the later events is the first to have
  later : (s : State) (p : Placed) (ps : List Placed) (n m : ℕ) (place : Place) → n ≡ length (made_by s p.event) + m → FirstAt settings showing (next s p.event) ps m place → FirstAt settings showing s (p ∷ ps) n place
  later s p ps n m place is first =
      record {
        before = p ∷ first.before;
        event = first.event;
        behind = first.behind;
        all = ap (λ l. p ∷ l) first.all;
        not_yet = omega (arith, is, reports_by_more s p first.before, first.not_yet);
        by_then = omega (arith, is, reports_by_more s p (first.before ++ placed place first.event ∷ []), first.by_then);
      }

  pub first_at : (s : State) (ps : List Placed) (n : ℕ) (one : Told) → slice_get (told_of settings showing s ps) n ≡ Some one → FirstAt settings showing s ps n one.place
  first_at s [] n one is = cc
  first_at s (p ∷ ps) n one is = by (made_by s p.event) n refl (few_reports settings showing s.phase s.held p.event) (λ m e. first_at (next s p.event) ps m one e) is
    where
      by : (reports : List Report) (n : ℕ) → made_by s p.event ≡ reports → length (made_by s p.event) ≤ 1 →
          ((m : ℕ) → slice_get (told_of settings showing (next s p.event) ps) m ≡ Some one → FirstAt settings showing (next s p.event) ps m one.place) →
          slice_get (map (told_at p.place) reports ++ told_of settings showing (next s p.event) ps) n ≡ Some one → FirstAt settings showing s (p ∷ ps) n one.place
      by [] n made few rest is = later s p ps n n one.place (omega (arith, ap length made)) (rest n is)
      by (r ∷ []) zero made few rest is =
          let same : told_at p.place r ≡ one = cc in
          let here : p.place ≡ one.place = ap (λ o. o.place) same in
          subst (λ place. FirstAt settings showing s (p ∷ ps) 0 place) here
          (record { before = []; event = p.event; behind = ps; all = refl; not_yet = omega arith; by_then = omega (arith, reports_by_more s p [], ap length made) })
      by (r ∷ []) (suc m) made few rest is = later s p ps (suc m) m one.place (omega (arith, ap length made)) (rest m is)
      by (r ∷ q ∷ more) n made few rest is = absurd (omega (arith, ap length made))
