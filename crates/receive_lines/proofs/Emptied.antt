-- A receiver whose candidates are released as soon as they are closed: what it writes, and that over as many cells as the
-- limit it reports what one reports that releases nothing and never fills. Assumes nothing.
use Rattle.std.proofs.Common.{◌≡◌, ◌≢◌, ℕ, zero, suc, ◌+◌, ◌<◌, ◌≤◌, Bool, true, false, cond, eqb, leb, List, [], ◌∷◌, ◌++◌, map, length, Some, None, Option, sym, refl, ap, ◌∙◌, subst, ap₂, arith}
use Rattle.std.specs.List.{AllByRecursion}
use Rattle.std.proofs.ByRecursion.{All-append}
use Rattle.std.proofs.lemmas.Bool.{leb-false, eqb-true}
use Rattle.bch.specs.declared.Accepted.{Accepted}
use Rattle.bch.specs.Reception.{verdict}
use Rattle.hold.specs.Candidates.{Candidate, Showing, shown_from, codeblocks_in, open_codeblocks, finished_codeblocks, free_space, after_release}
use Rattle.reception.specs.declared.Reason.{Reason}
use Rattle.reception.specs.declared.Reason.TheVariants.{Closed, Empty, Long, Full, Down}
use Rattle.reception.specs.declared.Report.{Report}
use Rattle.reception.specs.Symbols.{bit_value}
use Rattle.reception.specs.Searching.{next_count, next_window, is_start}
use Rattle.reception.specs.Decoding.{Settings, Held, abandoning, Reading, reading, Decoded, goes_on, ends, report, closing, counting_in, decoded_by, with_symbol, read_word}
use Rattle.reception.specs.Rules.{Phase, INACTIVE, SEARCH, DECODE, State, state, Event, carrier_up, carrier_down, symbol, release, Outcome, quietly, at_window, at_decoded, at_event}
use Rattle.reception.specs.Runs.{after_events, reports_of}
use Rattle.reception.specs.Finished.{announced_by, announced, new_candidates}
use Rattle.reception.proofs.Decoding.{IsOpen, held}
use Rattle.reception.proofs.Kept.{Kept, KeptState, event_keeps}
use Rattle.receive_lines.specs.declared.place.Place.{Place}
use Rattle.receive_lines.specs.Lines.{Told, told_at, Line, report_line, told_among, frames_among, is_closed, AFrameBehindEachClosed}
use Rattle.receive_lines.specs.Pass.{Placed, events_among}
use Rattle.receive_lines.specs.Released.{with_releases, told_of}
use Rattle.receive_lines.specs.Releasing.{lines_told, after_outcome, lines_of}
use Rattle.receive_lines.proofs.Lines.{told_among_append, frames_among_append, order_append}
use Rattle.receive_lines.proofs.Released.{next, outcome_is_next, next_keeps, reports_more, candidates_more}

abbrev pub NotFull : Report → Type 0
NotFull one = one.reason ≢ Full

-- lines that tell this and show these candidates
pub record Fits (lines : List Line) (tolds : List Told) (shown : List Candidate) : Type 0 where
  pub told : told_among lines ≡ tolds
  pub frames : frames_among lines ≡ shown
  pub order : AFrameBehindEachClosed false lines

fits_none : Fits [] [] []
fits_none = record { told = refl; frames = refl; order = refl }

fits_then : (a b : List Line) (r s : List Told) (c d : List Candidate) → Fits a r c → Fits b s d → Fits (a ++ b) (r ++ s) (c ++ d)
fits_then a b r s c d first second =
    record {
      told = told_among_append a b ∙ ap₂ ◌++◌ first.told second.told;
      frames = frames_among_append a b ∙ ap₂ ◌++◌ first.frames second.frames;
      order = order_append false a b first.order second.order;
    }

-- ---- what is written of an event where nothing is finished

record Written (place : Place) (opened : Option Candidate) (o : Outcome) : Type 0 where
  fits : Fits (lines_told place o) (map (told_at place) o.reports) (announced opened o.reports)
  none_left : (after_outcome o).held.finished ≡ []

-- a report that announces nothing
announces_none : (opened : Option Candidate) (reason : Reason) → is_closed reason ≡ false → announced_by opened reason ++ [] ≡ []
announces_none None reason e = refl
announces_none (Some candidate) Closed e = cc
announces_none (Some candidate) Empty e = refl
announces_none (Some candidate) Long e = refl
announces_none (Some candidate) Full e = refl
announces_none (Some candidate) Down e = refl

fits_one : (place : Place) (one : Report) (opened : Option Candidate) → is_closed one.reason ≡ false →
    Fits (report_line (told_at place one) ∷ []) (told_at place one ∷ []) (announced opened (one ∷ []))
fits_one place one opened other = record { told = refl; frames = sym (announces_none opened one.reason other); order = (refl, other) }

quiet_written : (place : Place) (opened : Option Candidate) (p : Phase) (h : Held) → h.finished ≡ [] → Written place opened (quietly p h)
quiet_written place opened p h none = record { fits = fits_none; none_left = none }

module _ (settings : Settings) (showing : Showing) (K : ℕ) (place : Place) where
  closing_written : (opened : Option Candidate) (m k : ℕ) → IsOpen opened → open_codeblocks opened ≡ m → Written place opened (at_decoded (closing (held K [] opened) m k))
  closing_written None m k o e = absurd o
  closing_written (Some candidate) zero k o e = record { fits = fits_one place (report Empty 0 k) (Some candidate) refl; none_left = refl }
  closing_written (Some []) (suc m) k o e = absurd (omega arith)
  closing_written (Some (x ∷ xs)) (suc m) k o e = record { fits = record { told = refl; frames = refl; order = (refl, (refl, refl)) }; none_left = refl }

  counting_written : (candidate : Candidate) (n k : ℕ) (octets : List ℕ) (corrected : Bool) → Written place (Some candidate) (at_decoded (counting_in settings showing (held K [] (Some candidate)) n k octets corrected))
  counting_written candidate n k octets corrected = by (leb settings.limit n) (eqb (free_space K [] (Some candidate)) 0)
    where
      by : (many full : Bool) → Written place (Some candidate) (at_decoded
          (cond many (ends (abandoning (held K [] (Some candidate))) (report Long n k))
          (cond full (ends (abandoning (held K [] (Some candidate))) (report Full n k))
          (goes_on (held K [] (cond full (Some candidate) (Some (candidate ++ shown_from showing (length candidate) octets)))) (reading 0 0 (suc n) (k + bit_value corrected))))))
      by true full = record { fits = fits_one place (report Long n k) (Some candidate) refl; none_left = refl }
      by false true = record { fits = fits_one place (report Full n k) (Some candidate) refl; none_left = refl }
      by false false = record { fits = fits_none; none_left = refl }

  decoded_written : (opened : Option Candidate) (n k : ℕ) (v : Option Accepted) → IsOpen opened → open_codeblocks opened ≡ n →
      Written place opened (at_decoded (decoded_by settings showing (held K [] opened) n k v))
  decoded_written None n k v o e = absurd o
  decoded_written (Some candidate) n k None o e = closing_written (Some candidate) n k tt e
  decoded_written (Some candidate) n k (Some x) o e = counting_written candidate n k x.information x.corrected

  symbol_written : (p : Phase) (opened : Option Candidate) (b : Bool) → Kept settings.limit p (held K [] opened) →
      Written place opened (at_event settings showing (state p (held K [] opened)) (symbol b))
  symbol_written INACTIVE opened b kept = quiet_written place opened INACTIVE (held K [] opened) refl
  symbol_written (SEARCH c w) opened b kept = by (is_start settings.mode (next_count c) (next_window w b))
    where
      by : (found : Bool) → Written place opened (at_window (held K [] opened) (next_count c) (next_window w b) found)
      by true = record { fits = fits_none; none_left = refl }
      by false = record { fits = fits_none; none_left = refl }
  symbol_written (DECODE r) opened b kept = by (eqb (suc r.count) 64)
    where
      by : (whole : Bool) → Written place opened (at_decoded (read_word settings showing (held K [] opened) (with_symbol r b) whole))
      by true = decoded_written opened r.codeblocks r.corrections (verdict settings.mode (with_symbol r b).word) kept.is_open kept.held
      by false = record { fits = fits_none; none_left = refl }

  event_written : (p : Phase) (opened : Option Candidate) (e : Event) → Kept settings.limit p (held K [] opened) →
      Written place opened (at_event settings showing (state p (held K [] opened)) e)
  event_written INACTIVE opened carrier_up kept = record { fits = fits_none; none_left = refl }
  event_written (SEARCH c w) opened carrier_up kept = record { fits = fits_none; none_left = refl }
  event_written (DECODE r) opened carrier_up kept = record { fits = fits_none; none_left = refl }
  event_written INACTIVE opened carrier_down kept = record { fits = fits_none; none_left = refl }
  event_written (SEARCH c w) opened carrier_down kept = record { fits = fits_none; none_left = refl }
  event_written (DECODE r) opened carrier_down kept = record { fits = fits_one place (report Down r.codeblocks r.corrections) opened refl; none_left = refl }
  event_written p opened (symbol b) kept = symbol_written p opened b kept
  event_written p opened release kept = record { fits = fits_none; none_left = refl }

module _ (settings : Settings) (showing : Showing) where
  -- where nothing is finished, in any state
  written_at : (place : Place) (s : State) (e : Event) → s.held.finished ≡ [] → KeptState settings.limit s → Written place s.held.opened (at_event settings showing s e)
  written_at place s e none kept =
      let same : state s.phase (held s.held.capacity [] s.held.opened) ≡ s = ap (λ f. state s.phase (held s.held.capacity f s.held.opened)) (sym none) in
      subst (λ t. Written place t.held.opened (at_event settings showing t e)) same
      (event_written settings showing s.held.capacity place s.phase s.held.opened e (subst (KeptState settings.limit) (sym same) kept))

  -- all events
  pub lines_fit : (s : State) (ps : List Placed) → s.held.finished ≡ [] → KeptState settings.limit s →
      Fits (lines_of settings showing s ps) (told_of settings showing s ps) (new_candidates settings showing s (with_releases settings showing s (events_among ps)))
  lines_fit s [] none kept = fits_none
  lines_fit s (p ∷ ps) none kept =
      let o = at_event settings showing s p.event in
      let one = written_at p.place s p.event none kept in
      let there = next settings showing s p.event in
      let same = outcome_is_next settings showing s p.event in
      let rest = lines_fit there ps (ap (λ t. t.held.finished) (sym same) ∙ one.none_left) (next_keeps settings showing s p.event kept) in
      let new = new_candidates settings showing there (with_releases settings showing there (events_among ps)) in
      subst (λ l. Fits (lines_told p.place o ++ l) (told_of settings showing s (p ∷ ps)) (new_candidates settings showing s (with_releases settings showing s (events_among (p ∷ ps)))))
      (ap (λ t. lines_of settings showing t ps) (sym same))
      (subst (Fits (lines_told p.place o ++ lines_of settings showing there ps) (told_of settings showing s (p ∷ ps))) (sym (candidates_more settings showing s p.event (events_among ps)))
      (fits_then (lines_told p.place o) (lines_of settings showing there ps) (map (told_at p.place) o.reports) (told_of settings showing there ps) (announced s.held.opened o.reports) new one.fits rest))

-- ---- as many cells as the limit

-- the codeblocks that a receiver has taken
abbrev pub being_read : Phase → ℕ
being_read INACTIVE = 0
being_read (SEARCH count window) = 0
being_read (DECODE r) = r.codeblocks

abbrev pub taken : State → ℕ
taken s = finished_codeblocks s.held.finished + being_read s.phase

-- the same receiver with nothing finished, over a hold of this capacity
abbrev pub emptied : ℕ → State → State
emptied capacity s = state s.phase (held capacity [] s.held.opened)

-- what an event makes of both
record Alike (capacity : ℕ) (before : State) (here there : Outcome) : Type 0 where
  after : after_outcome here ≡ emptied capacity there.after
  same : here.reports ≡ there.reports
  never_full : AllByRecursion NotFull there.reports
  room : there.after.held.capacity ≡ before.held.capacity
  grows : taken there.after ≤ suc (taken before)

finished_append : (fs : List Candidate) (c : Candidate) → finished_codeblocks (fs ++ c ∷ []) ≡ finished_codeblocks fs + codeblocks_in c
finished_append [] c = omega arith
finished_append (f ∷ fs) c = omega (arith, finished_append fs c)

fewer : (fs : List Candidate) → finished_codeblocks (after_release fs) ≤ finished_codeblocks fs
fewer [] = omega arith
fewer (f ∷ fs) = omega arith

module _ (settings : Settings) (showing : Showing) (capacity : ℕ) (enough : settings.limit ≤ capacity) where
  module _ (K : ℕ) (F : List Candidate) (r : Reading) where
    abbrev n : ℕ
    n = r.codeblocks

    abbrev before : Option Candidate → State
    before opened = state (DECODE r) (held K F opened)

    closing_alike : (opened : Option Candidate) (m k : ℕ) → m ≡ r.codeblocks → IsOpen opened → open_codeblocks opened ≡ m →
        Alike capacity (before opened) (at_decoded (closing (held capacity [] opened) m k)) (at_decoded (closing (held K F opened) m k))
    closing_alike None m k same o e = absurd o
    closing_alike (Some candidate) zero k same o e =
        record { after = refl; same = refl; never_full = (λ z. cc, tt); room = refl; grows = omega arith }
    closing_alike (Some []) (suc m) k same o e = absurd (omega arith)
    closing_alike (Some (x ∷ xs)) (suc m) k same o e =
        record {
          after = refl;
          same = refl;
          never_full = (λ z. cc, tt);
          room = refl;
          grows = omega (arith, finished_append F (x ∷ xs));
        }

    -- an accepted codeblock, by whether there are as many as the limit, and whether the hold is full
    abbrev counted : (candidate : Candidate) (k : ℕ) (octets : List ℕ) (corrected many full : Bool) (K : ℕ) (F : List Candidate) → Decoded
    counted candidate k octets corrected many full K F =
        cond many (ends (abandoning (held K F (Some candidate))) (report Long n k))
        (cond full (ends (abandoning (held K F (Some candidate))) (report Full n k))
        (goes_on (held K F (cond full (Some candidate) (Some (candidate ++ shown_from showing (length candidate) octets)))) (reading 0 0 (suc n) (k + bit_value corrected))))

    counting_alike : (candidate : Candidate) (k : ℕ) (octets : List ℕ) (corrected : Bool) → codeblocks_in candidate ≡ n → finished_codeblocks F + n < K →
        Alike capacity (before (Some candidate)) (at_decoded (counting_in settings showing (held capacity [] (Some candidate)) n k octets corrected))
        (at_decoded (counting_in settings showing (held K F (Some candidate)) n k octets corrected))
    counting_alike candidate k octets corrected e space =
        by (leb settings.limit n) (eqb (free_space capacity [] (Some candidate)) 0) (eqb (free_space K F (Some candidate)) 0) refl refl refl
      where
        by : (many full full' : Bool) → leb settings.limit n ≡ many → eqb (free_space capacity [] (Some candidate)) 0 ≡ full → eqb (free_space K F (Some candidate)) 0 ≡ full' →
            Alike capacity (before (Some candidate)) (at_decoded (counted candidate k octets corrected many full capacity [])) (at_decoded (counted candidate k octets corrected many full' K F))
        by true full full' m f g = record { after = refl; same = refl; never_full = (λ z. cc, tt); room = refl; grows = omega arith }
        by false true full' m f g = absurd (let few = leb-false settings.limit n m in let none = eqb-true (free_space capacity [] (Some candidate)) 0 f in omega arith)
        by false false true m f g = absurd (let none = eqb-true (free_space K F (Some candidate)) 0 g in omega arith)
        by false false false m f g = record { after = refl; same = refl; never_full = tt; room = refl; grows = omega arith }

    decoded_alike : (opened : Option Candidate) (k : ℕ) (v : Option Accepted) → IsOpen opened → open_codeblocks opened ≡ n → finished_codeblocks F + n < K →
        Alike capacity (before opened) (at_decoded (decoded_by settings showing (held capacity [] opened) n k v)) (at_decoded (decoded_by settings showing (held K F opened) n k v))
    decoded_alike None k v o e space = absurd o
    decoded_alike (Some candidate) k None o e space = closing_alike (Some candidate) n k refl tt e
    decoded_alike (Some candidate) k (Some x) o e space = counting_alike candidate k x.information x.corrected e space

  quiet_alike : (before : State) (p : Phase) (h : Held) → h.capacity ≡ before.held.capacity → finished_codeblocks h.finished + being_read p ≤ suc (taken before) →
      Alike capacity before (quietly p (held capacity [] h.opened)) (quietly p h)
  quiet_alike before p h room grows = record { after = refl; same = refl; never_full = tt; room = room; grows = grows }

  symbol_alike : (p : Phase) (h : Held) (b : Bool) → Kept settings.limit p h → taken (state p h) < h.capacity →
      Alike capacity (state p h) (at_event settings showing (emptied capacity (state p h)) (symbol b)) (at_event settings showing (state p h) (symbol b))
  symbol_alike INACTIVE h b kept space = quiet_alike (state INACTIVE h) INACTIVE h refl (omega arith)
  symbol_alike (SEARCH c w) h b kept space = by (is_start settings.mode (next_count c) (next_window w b))
    where
      by : (found : Bool) → Alike capacity (state (SEARCH c w) h) (at_window (held capacity [] h.opened) (next_count c) (next_window w b) found) (at_window h (next_count c) (next_window w b) found)
      by true = record { after = refl; same = refl; never_full = tt; room = refl; grows = omega arith }
      by false = record { after = refl; same = refl; never_full = tt; room = refl; grows = omega arith }
  symbol_alike (DECODE r) h b kept space = by (eqb (suc r.count) 64)
    where
      by : (whole : Bool) → Alike capacity (state (DECODE r) h) (at_decoded (read_word settings showing (held capacity [] h.opened) (with_symbol r b) whole)) (at_decoded (read_word settings showing h (with_symbol r b) whole))
      by true = decoded_alike h.capacity h.finished r h.opened r.corrections (verdict settings.mode (with_symbol r b).word) kept.is_open kept.held space
      by false = record { after = refl; same = refl; never_full = tt; room = refl; grows = omega arith }

  event_alike : (p : Phase) (h : Held) (e : Event) → Kept settings.limit p h → taken (state p h) < h.capacity →
      Alike capacity (state p h) (at_event settings showing (emptied capacity (state p h)) e) (at_event settings showing (state p h) e)
  event_alike INACTIVE h carrier_up kept space = quiet_alike (state INACTIVE h) (SEARCH 0 0) h refl (omega arith)
  event_alike (SEARCH c w) h carrier_up kept space = quiet_alike (state (SEARCH c w) h) (SEARCH c w) h refl (omega arith)
  event_alike (DECODE r) h carrier_up kept space = quiet_alike (state (DECODE r) h) (DECODE r) h refl (omega arith)
  event_alike INACTIVE h carrier_down kept space = quiet_alike (state INACTIVE h) INACTIVE h refl (omega arith)
  event_alike (SEARCH c w) h carrier_down kept space = quiet_alike (state (SEARCH c w) h) INACTIVE h refl (omega arith)
  event_alike (DECODE r) h carrier_down kept space =
      record { after = refl; same = refl; never_full = (λ z. cc, tt); room = refl; grows = omega arith }
  event_alike p h (symbol b) kept space = symbol_alike p h b kept space
  event_alike p h release kept space = record { after = refl; same = refl; never_full = tt; room = refl; grows = omega (arith, fewer h.finished) }

  -- how many codeblocks a run takes: one at an event, or none
  pub record TakesFew (s : State) (es : List Event) : Type 0 where
    pub kept : KeptState settings.limit (after_events settings showing s es)
    pub few : taken (after_events settings showing s es) ≤ taken s + length es
    pub same : (after_events settings showing s es).held.capacity ≡ s.held.capacity

  pub takes_few : (s : State) (es : List Event) → KeptState settings.limit s → taken s + length es ≤ s.held.capacity → TakesFew s es
  takes_few s [] kept space = record { kept = kept; few = omega arith; same = refl }
  takes_few s (e ∷ es) kept space =
      let one = event_alike s.phase s.held e kept (omega arith) in
      let next = (at_event settings showing s e).after in
      let rest = takes_few next es (event_keeps settings showing s e kept) (omega (arith, one.room, one.grows)) in
      record { kept = rest.kept; few = omega (arith, rest.few, one.grows); same = rest.same ∙ one.room }

  -- what is reported and announced, with releases over this capacity and without them
  pub record Same (s : State) (es : List Event) : Type 0 where
    pub reports : reports_of settings showing (emptied capacity s) (with_releases settings showing (emptied capacity s) es) ≡ reports_of settings showing s es
    pub new : new_candidates settings showing (emptied capacity s) (with_releases settings showing (emptied capacity s) es) ≡ new_candidates settings showing s es
    pub never_full : AllByRecursion NotFull (reports_of settings showing s es)

  pub never_filled : (s : State) (es : List Event) → KeptState settings.limit s → taken s + length es ≤ s.held.capacity → Same s es
  never_filled s [] kept space = record { reports = refl; new = refl; never_full = tt }
  never_filled s (e ∷ es) kept space =
      let here = at_event settings showing (emptied capacity s) e in
      let there = at_event settings showing s e in
      let one = event_alike s.phase s.held e kept (omega arith) in
      let rest = never_filled there.after es (event_keeps settings showing s e kept) (omega (arith, one.room, one.grows)) in
      let same : next settings showing (emptied capacity s) e ≡ emptied capacity there.after = sym (outcome_is_next settings showing (emptied capacity s) e) ∙ one.after in
      record {
        reports = reports_more settings showing (emptied capacity s) e es
            ∙ ap₂ ◌++◌ one.same (ap (λ t. reports_of settings showing t (with_releases settings showing t es)) same ∙ rest.reports);
        new = candidates_more settings showing (emptied capacity s) e es
            ∙ ap₂ ◌++◌ (ap (announced s.held.opened) one.same) (ap (λ t. new_candidates settings showing t (with_releases settings showing t es)) same ∙ rest.new);
        never_full = All-append NotFull there.reports (reports_of settings showing there.after es) one.never_full rest.never_full;
      }
