-- Events one after the other, with what they tell. Assumes nothing.
use Rattle.std.proofs.Common.{◌≡◌, ℕ, suc, ◌+◌, ◌≤◌, Bool, List, [], ◌∷◌, ◌++◌, map, length, take, drop, Option, Result, OnOk, OnErr, sym, refl, ap, ◌∙◌, subst, ap₂, append_assoc, append-nil, string_bytes, arith}
use Rattle.std.specs.Option.{option_to_list}
use Rattle.std.specs.Result.{result_ok}
use Rattle.std.proofs.lemmas.List.{take_all, nil_from_length, map-append, length-map, length-append, length-take, length-drop}
use Rattle.std.proofs.lemmas.Grind.{flat_map-append}
use Rattle.refusals.specs.declared.Refusal.{Refusal}
use Rattle.hold.specs.declared.Hold.{Ghosts}
use Rattle.hold.specs.Candidates.{Showing}
use Rattle.queue.specs.declared.slots.Queue.{Queue}
use Rattle.queue.specs.Waiting.{waiting, free, slots_of, without_oldest, take_answer}
use Rattle.reception.specs.declared.Report.{Report}
use Rattle.reception.specs.Decoding.{Settings}
use Rattle.reception.specs.Rules.{State, Event, carrier_up, carrier_down, symbol, at_event}
use Rattle.reception.specs.Runs.{after_events, reports_of}
use Rattle.reception.specs.Calls.{Call, call_up, symbol_events, events_in}
use Rattle.decoding.specs.Meaning.{rules_of}
use Rattle.receiver.specs.Meaning.{settings_of, state_of, free_slots}
use Rattle.receiver.specs.Calls.{reports_made, Called}
use Rattle.receiver.specs.Events.{Queued}
use Rattle.receiver.proofs.Ran.{up_is_quiet}
use Rattle.pass_record.specs.declared.segment.Segment.{Segment}
use Rattle.pass_record.specs.Segments.{symbols_in}
use Rattle.receive_lines.specs.declared.place.Place.{Place}
use Rattle.receive_lines.specs.declared.view.View.{View}
use Rattle.receive_lines.specs.declared.pass_log.PassLog.{PassLog}
use Rattle.receive_lines.specs.declared.receiving.Receiving.{Receiving}
use Rattle.receive_lines.specs.Lines.{Line, line_text, text_of, told_among, frames_among}
use Rattle.receive_lines.specs.Pass.{segment_events, pass_events, Placed, placed, place_in, next_symbol, placed_symbols, placed_segment, placed_segments, placed_pass, events_among}
use Rattle.receive_lines.specs.Releasing.{lines_for, after_telling, lines_told, after_outcome, after_run, lines_of, last_of, Writes, Tells, Passed, PassedSymbols}
use Rattle.receive_lines.proofs.Lines.{told_among_append, frames_among_append}
use Rattle.receive_lines.proofs.Released.{few_reports}

-- the queue after one event: its report waits, if it made one, and else the slot is free
pub record OneToldOf (queue : Queue Report) (reports : List Report) : Type 0 where
  pub waits : waiting queue ≡ reports
  pub few : length (waiting queue) + length (free queue) ≡ 1

one_told : (q later : Queue Report) (reports : List Report) → length (waiting q) ≡ 0 → length (free q) ≡ 1 → length reports ≤ 1 → Queued (reports ++ []) q later → OneToldOf later reports
one_told q later reports none one few queued =
    let all = ap (take (free_slots q)) (append-nil reports) ∙ take_all (free_slots q) reports (omega arith) in
    let waits = ap (λ s. s.waiting) queued ∙ ap₂ ◌++◌ (nil_from_length (waiting q) none) all in
    let left = ap (λ s. length s.free) queued ∙ ap (λ l. length (drop (length l) (free q))) all in
    record { waits = waits; few = omega (arith, ap length waits, left, length-drop (length reports) (free q)) }

-- what is taken from a queue where one report at most waits is all that waits, and the slot is free again
pub record AllTaken (full left : Queue Report) (taken : Result Report Refusal) : Type 0 where
  pub was : waiting full ≡ option_to_list (result_ok taken)
  pub none_left : length (waiting left) ≡ 0
  pub one_free : length (free left) ≡ 1

pub all_taken : (full left : Queue Report) (taken : Result Report Refusal) → length (waiting full) + length (free full) ≡ 1 → taken ≡ take_answer (waiting full) →
    OnOk taken (slots_of left ≡ without_oldest (slots_of full)) → OnErr taken (left ≡ full) → AllTaken full left taken
all_taken full left taken few answer accepted refused = by (waiting full) taken refl answer accepted refused
  where
    by : (records : List Report) (taken : Result Report Refusal) → waiting full ≡ records → taken ≡ take_answer (waiting full) →
        OnOk taken (slots_of left ≡ without_oldest (slots_of full)) → OnErr taken (left ≡ full) → AllTaken full left taken
    by [] taken is answer accepted refused =
        let why = answer ∙ ap take_answer is in
        let same : left ≡ full = subst (λ t. OnErr t (left ≡ full)) why refused in
        let empty = ap (λ q. waiting q) same ∙ is in
        record {
          was = is ∙ sym (ap (λ t. option_to_list (result_ok t)) why);
          none_left = ap length empty;
          one_free = omega (arith, ap length is, ap (λ q. length (free q)) same);
        }
    by (one ∷ more) taken is answer accepted refused =
        let ok = answer ∙ ap take_answer is in
        let out : slots_of left ≡ without_oldest (slots_of full) = subst (λ t. OnOk t (slots_of left ≡ without_oldest (slots_of full))) ok accepted in
        let alone : length more ≡ 0 = omega (arith, ap length is) in
        record {
          was = is ∙ ap (λ l. one ∷ l) (nil_from_length more alone) ∙ sym (ap (λ t. option_to_list (result_ok t)) ok);
          none_left = omega (arith, ap (λ s. length s.waiting) out, length-drop 1 (waiting full), ap length is);
          one_free = omega (arith, ap (λ s. length s.free) out, length-append (free full) (take 1 (waiting full)), length-take 1 (waiting full), ap length is);
        }

-- nothing is written, and lines and then more
writes_none : (log : PassLog) → Writes [] log log
writes_none log = record { view = refl; text = sym (append-nil (string_bytes log.text)); reports = omega arith; frames = omega arith }

pub writes_then : (xs ys : List Line) (a b c : PassLog) → Writes xs a b → Writes ys b c → Writes (xs ++ ys) a c
writes_then xs ys a b c first second =
    record {
      view = second.view ∙ first.view;
      text = second.text ∙ ap₂ (λ t view. t ++ text_of view ys) first.text first.view ∙ append_assoc (string_bytes a.text) (text_of a.view xs) (text_of a.view ys)
          ∙ ap (λ t. string_bytes a.text ++ t) (sym (flat_map-append (line_text a.view) xs ys));
      reports = omega (arith, first.reports, second.reports, ap length (told_among_append xs ys), length-append (told_among xs) (told_among ys));
      frames = omega (arith, first.frames, second.frames, ap length (frames_among_append xs ys), length-append (frames_among xs) (frames_among ys));
    }

module _ {X : Type 0} (hold : Ghosts X) where
  -- the queue after a call of one event
  pub told_after : (call : Call) (e : Event) (before : Receiving X hold) (full : Queue Report) → events_in call ≡ e ∷ [] → Queued (reports_made hold before.receiver call) before.queue full →
      OneToldOf full (at_event (rules_of (settings_of before.receiver)) hold.showing (state_of hold before.receiver) e).reports
  told_after call e before full one queued =
      let rules = rules_of (settings_of before.receiver) in
      let s = state_of hold before.receiver in
      one_told before.queue full (at_event rules hold.showing s e).reports before.nothing_waits before.room_for_one (few_reports rules hold.showing s.phase s.held e)
      (subst (λ l. Queued l before.queue full) (ap (reports_of rules hold.showing s) one) queued)

  -- and what is taken from it
  pub told_is_taken : (call : Call) (e : Event) (before : Receiving X hold) (full left : Queue Report) (taken : Result Report Refusal) → events_in call ≡ e ∷ [] →
      Queued (reports_made hold before.receiver call) before.queue full → taken ≡ take_answer (waiting full) →
      OnOk taken (slots_of left ≡ without_oldest (slots_of full)) → OnErr taken (left ≡ full) → AllTaken full left taken
  told_is_taken call e before full left taken one queued = all_taken full left taken (told_after call e before full one queued).few

  -- one event by a call, and what it tells at the place that the receiver has come to
  pub passed_one : (call : Call) (e : Event) (before mid after : Receiving X hold) (full : Queue Report) (taken : Result Report Refusal) (report : Option Report) → events_in call ≡ e ∷ [] →
      Called hold call before.receiver mid.receiver → mid.log ≡ before.log → Queued (reports_made hold before.receiver call) before.queue full →
      AllTaken full mid.queue taken → report ≡ result_ok taken →
      Tells hold (option_to_list report) mid after → Passed hold (placed mid.place e ∷ []) before after
  passed_one call e before mid after full taken report one called same queued took ok told =
      let rules = rules_of (settings_of before.receiver) in
      let s = state_of hold before.receiver in
      let outcome = at_event rules hold.showing s e in
      let there : state_of hold mid.receiver ≡ outcome.after = called.state ∙ ap (after_events rules hold.showing s) one in
      let waits : option_to_list report ≡ outcome.reports = ap option_to_list ok ∙ sym took.was ∙ (told_after call e before full one queued).waits in
      let lines : lines_for mid.place (state_of hold mid.receiver) (option_to_list report) ≡ lines_told mid.place outcome ++ [] =
      ap₂ (lines_for mid.place) there waits ∙ sym (append-nil (lines_told mid.place outcome)) in
      record {
        settings = told.goes.settings ∙ called.settings;
        come = told.goes.come ∙ ap₂ after_telling there waits;
        written = subst (λ l. Writes l before.log after.log) lines
            (subst (λ log. Writes (lines_for mid.place (state_of hold mid.receiver) (option_to_list report)) log after.log) same told.goes.written);
      }

  -- carrier up tells nothing
  pub passed_up : (place : Place) (before after : Receiving X hold) → Called hold call_up before.receiver after.receiver → after.log ≡ before.log → Passed hold (placed place carrier_up ∷ []) before after
  passed_up place before after called same =
      let s = state_of hold before.receiver in
      let outcome = at_event (rules_of (settings_of before.receiver)) hold.showing s carrier_up in
      let quiet = sym (up_is_quiet s.phase s.held) in
      record {
        settings = called.settings;
        come = called.state ∙ ap (after_telling outcome.after) quiet;
        written = subst (λ l. Writes (lines_for place outcome.after l ++ []) before.log after.log) quiet
            (subst (λ log. Writes [] before.log log) (sym same) (writes_none before.log));
      }

-- events, and then more
pub after_run_append : (settings : Settings) (showing : Showing) (es fs : List Placed) (s : State) → after_run settings showing s (es ++ fs) ≡ after_run settings showing (after_run settings showing s es) fs
after_run_append settings showing [] fs s = refl
after_run_append settings showing (p ∷ es) fs s = after_run_append settings showing es fs (after_outcome (at_event settings showing s p.event))

pub lines_of_append : (settings : Settings) (showing : Showing) (es fs : List Placed) (s : State) →
    lines_of settings showing s (es ++ fs) ≡ lines_of settings showing s es ++ lines_of settings showing (after_run settings showing s es) fs
lines_of_append settings showing [] fs s = refl
lines_of_append settings showing (p ∷ es) fs s =
    let first = lines_told p.place (at_event settings showing s p.event) in
    let next = after_outcome (at_event settings showing s p.event) in
    ap (λ l. first ++ l) (lines_of_append settings showing es fs next)
    ∙ sym (append_assoc first (lines_of settings showing next es) (lines_of settings showing (after_run settings showing next es) fs))

pub passed_none : {X : Type 0} (hold : Ghosts X) (a : Receiving X hold) → Passed hold [] a a
passed_none hold a = record { settings = refl; come = refl; written = writes_none a.log }

pub passed_then : {X : Type 0} (hold : Ghosts X) (es fs : List Placed) (a b c : Receiving X hold) → Passed hold es a b → Passed hold fs b c → Passed hold (es ++ fs) a c
passed_then hold es fs a b c first second =
    let rules = rules_of (settings_of a.receiver) in
    let s = state_of hold a.receiver in
    record {
      settings = second.settings ∙ first.settings;
      come = second.come ∙ ap₂ (λ set t. after_run (rules_of set) hold.showing t fs) first.settings first.come ∙ sym (after_run_append rules hold.showing es fs s);
      written = subst (λ l. Writes l a.log c.log)
          (ap (λ l. lines_of rules hold.showing s es ++ l) (ap₂ (λ set t. lines_of (rules_of set) hold.showing t fs) first.settings first.come) ∙ sym (lines_of_append rules hold.showing es fs s))
          (writes_then _ _ a.log b.log c.log first.written second.written);
    }

pub passed_as : {X : Type 0} {hold : Ghosts X} {es fs : List Placed} {a b : Receiving X hold} → es ≡ fs → Passed hold es a b → Passed hold fs a b
passed_as {X} {hold} {es} {fs} {a} {b} same passed = subst (λ l. Passed hold l a b) same passed

-- ---- symbols

last_of_append : (place : Place) (bits more : List Bool) → last_of (last_of place bits) more ≡ last_of place (bits ++ more)
last_of_append place bits more = ap (place_in place.segment) (omega (arith, length-append bits more))

pub placed_append : (place : Place) (bits more : List Bool) → placed_symbols place (bits ++ more) ≡ placed_symbols place bits ++ placed_symbols (last_of place bits) more
placed_append place [] more = ap (λ n. placed_symbols (place_in place.segment n) more) (omega arith)
placed_append place (b ∷ bits) more =
    ap (λ l. placed (next_symbol place) (symbol b) ∷ l)
    (placed_append (next_symbol place) bits more
    ∙ ap (λ n. placed_symbols (next_symbol place) bits ++ placed_symbols (place_in place.segment n) more) (omega arith))

pub no_symbols : {X : Type 0} (hold : Ghosts X) (a : Receiving X hold) → PassedSymbols hold [] a a
no_symbols hold a = record { place = ap (place_in a.place.segment) (omega arith); goes = passed_none hold a }

pub symbols_then : {X : Type 0} (hold : Ghosts X) (bits more : List Bool) (a b c : Receiving X hold) → PassedSymbols hold bits a b → PassedSymbols hold more b c → PassedSymbols hold (bits ++ more) a c
symbols_then hold bits more a b c first second =
    record {
      place = second.place ∙ ap (λ p. last_of p more) first.place ∙ last_of_append a.place bits more;
      goes = passed_as (ap (λ p. placed_symbols a.place bits ++ placed_symbols p more) first.place ∙ sym (placed_append a.place bits more))
          (passed_then hold (placed_symbols a.place bits) (placed_symbols b.place more) a b c first.goes second.goes);
    }

-- a symbol at the place that is come to
pub symbol_passed : {X : Type 0} (hold : Ghosts X) (bit : Bool) (report : Option Report) (before mid after : Receiving X hold) → mid.place ≡ next_symbol before.place →
    Tells hold (option_to_list report) mid after → Passed hold (placed mid.place (symbol bit) ∷ []) before after → PassedSymbols hold (bit ∷ []) before after
symbol_passed hold bit report before mid after come told passed =
    record {
      place = told.place ∙ come ∙ ap (place_in before.place.segment) (omega arith);
      goes = passed_as (ap (λ p. placed p (symbol bit) ∷ []) come) passed;
    }

-- ---- segments

pub segment_passed : {X : Type 0} (hold : Ghosts X) (bits : List Bool) (a b c d : Receiving X hold) → b.place ≡ place_in (suc a.place.segment) 0 →
    Passed hold (placed (place_in (suc a.place.segment) 0) carrier_up ∷ []) a b → PassedSymbols hold bits b c → Passed hold (placed c.place carrier_down ∷ []) c d →
    Passed hold (placed_segment (suc a.place.segment) bits) a d
segment_passed hold bits a b c d begun up symbols down =
    let k = suc a.place.segment in
    let at_end : c.place ≡ place_in k (length bits) = symbols.place ∙ ap (λ p. last_of p bits) begun ∙ ap (place_in k) (omega arith) in
    passed_as (ap (λ l. placed (place_in k 0) carrier_up ∷ l) (ap₂ (λ p q. placed_symbols p bits ++ placed q carrier_down ∷ []) begun at_end))
    (passed_then hold (placed (place_in k 0) carrier_up ∷ []) (placed_symbols b.place bits ++ placed c.place carrier_down ∷ []) a b d up
    (passed_then hold (placed_symbols b.place bits) (placed c.place carrier_down ∷ []) b c d symbols.goes down))

pub segments_append : (n : ℕ) (a b : List (List Bool)) → placed_segments n (a ++ b) ≡ placed_segments n a ++ placed_segments (n + length a) b
segments_append n [] b = ap (λ k. placed_segments k b) (omega arith)
segments_append n (x ∷ a) b =
    ap (λ l. placed_segment (suc n) x ++ l)
    (segments_append (suc n) a b ∙ ap (λ k. placed_segments (suc n) a ++ placed_segments k b) (omega arith))
    ∙ sym (append_assoc (placed_segment (suc n) x) (placed_segments (suc n) a) (placed_segments (n + suc (length a)) b))

pub one_more_segment : (n : ℕ) (segments : List Segment) (segment : Segment) →
    placed_segments n (map symbols_in segments) ++ placed_segment (suc (n + length segments)) (symbols_in segment) ≡ placed_segments n (map symbols_in (segments ++ segment ∷ []))
one_more_segment n segments segment =
    let before = map symbols_in segments in
    let one = symbols_in segment in
    ap (λ l. placed_segments n before ++ l)
    (ap (λ k. placed_segment (suc (n + k)) one) (sym (length-map segments symbols_in)) ∙ sym (append-nil (placed_segment (suc (n + length before)) one)))
    ∙ sym (segments_append n before (one ∷ []))
    ∙ ap (placed_segments n) (sym (map-append symbols_in segments (segment ∷ [])))

-- the events at their places are the events
events_append : (a b : List Placed) → events_among (a ++ b) ≡ events_among a ++ events_among b
events_append a b = map-append (λ p. p.event) a b

symbols_placed : (place : Place) (bits : List Bool) → events_among (placed_symbols place bits) ≡ symbol_events bits
symbols_placed place [] = refl
symbols_placed place (b ∷ bits) = ap (λ l. symbol b ∷ l) (symbols_placed (next_symbol place) bits)

segment_placed : (n : ℕ) (bits : List Bool) → events_among (placed_segment n bits) ≡ segment_events bits
segment_placed n bits =
    ap (λ l. carrier_up ∷ l)
    (events_append (placed_symbols (place_in n 0) bits) (placed (place_in n (length bits)) carrier_down ∷ [])
    ∙ ap (λ l. l ++ carrier_down ∷ []) (symbols_placed (place_in n 0) bits))

segments_placed : (n : ℕ) (segments : List (List Bool)) → events_among (placed_segments n segments) ≡ pass_events segments
segments_placed n [] = refl
segments_placed n (bits ∷ segments) =
    events_append (placed_segment (suc n) bits) (placed_segments (suc n) segments) ∙ ap₂ ◌++◌ (segment_placed (suc n) bits) (segments_placed (suc n) segments)

pub events_placed : (segments : List (List Bool)) → events_among (placed_pass segments) ≡ pass_events segments
events_placed segments = segments_placed 0 segments
