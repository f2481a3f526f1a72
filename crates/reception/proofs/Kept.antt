-- What every run from the making keeps: a candidate is open just in DECODE, has as many codeblocks as are counted, and is within the
-- limit. Assumes nothing.
use Rattle.std.proofs.Common.{◌≡◌, ℕ, suc, ◌+◌, ◌*◌, ◌<◌, ◌≤◌, Bool, true, false, eqb, List, [], ◌∷◌, Some, None, Option, sym, refl, ◌∙◌, ⊎_elim, arith}
use Rattle.std.proofs.lemmas.Bool.{eqb-false, cases_lt}
use Rattle.hold.specs.Candidates.{Candidate, Showing, open_codeblocks, after_open}
use Rattle.reception.specs.Symbols.{bit_value}
use Rattle.reception.specs.Searching.{next_count, next_window, is_start}
use Rattle.reception.specs.Decoding.{Settings, Held, opening, added, Reading, begun, Decoded, goes_on, ends, decoded, with_symbol, read_word}
use Rattle.reception.specs.Rules.{Phase, INACTIVE, SEARCH, DECODE, State, state, Event, carrier_up, carrier_down, symbol, release, at_window, at_decoded, at_event, made}
use Rattle.reception.specs.Runs.{after_events}
use Rattle.reception.proofs.Decoding.{IsOpen, GoesRight, codeblock_goes_right}

-- the candidate that is read
pub record Reads (limit : ℕ) (h : Held) (r : Reading) : Type 0 where
  pub is_open : IsOpen h.opened
  pub held : added h ≡ r.codeblocks
  pub within : r.codeblocks ≤ limit
  pub among : r.corrections ≤ r.codeblocks
  pub unfinished : r.count < 64
  pub none_read : r.count ≡ 0 → r.word ≡ 0

abbrev pub Kept : ℕ → Phase → Held → Type 0
Kept limit INACTIVE h = h.opened ≡ None
Kept limit (SEARCH count window) h = (h.opened ≡ None) × (count ≤ 16)
Kept limit (DECODE r) h = Reads limit h r

abbrev pub KeptState : ℕ → State → Type 0
KeptState limit s = Kept limit s.phase s.held

-- a symbol that does not make a codeblock whole
pub not_whole : (count : ℕ) → eqb (suc count) 64 ≡ false → count < 64 → suc count < 64
not_whole count e lt = ⊎_elim (λ l. l) (λ ge. absurd (let ne = eqb-false (suc count) 64 e in ne (omega arith))) (cases_lt (suc count) 64)

module _ (settings : Settings) (showing : Showing) where
  abbrev L : ℕ
  L = settings.limit

  pub began : (o : Option Candidate) → o ≡ None → IsOpen (after_open o) × (open_codeblocks (after_open o) ≡ 0)
  began None e = (tt, refl)
  began (Some candidate) e = absurd (let z : ◌≡◌ {A = ℕ} 0 1 = cc in omega arith)

  pub begins : (h : Held) → h.opened ≡ None → Kept L (DECODE begun) (opening h)
  begins h e =
      let o = began h.opened e in
      record { is_open = o.0; held = o.1; within = omega arith; among = omega arith; unfinished = omega arith; none_read = λ z. refl }

  -- a codeblock
  codeblock_keeps : (n k : ℕ) (d : Decoded) → k ≤ n → GoesRight L n k d → KeptState L (at_decoded d).after
  codeblock_keeps n k (ends g one) among right = (right.none_open, omega arith)
  codeblock_keeps n k (goes_on g r) among right =
      record {
        is_open = right.is_open;
        held = right.held ∙ sym right.counted;
        within = omega (arith, right.counted, right.within);
        among = omega (arith, right.counted, right.corrected);
        unfinished = omega (arith, right.none_read.0);
        none_read = λ z. right.none_read.1;
      }

  word_keeps : (h : Held) (r : Reading) → Kept L (DECODE r) h → (b whole : Bool) → eqb (suc r.count) 64 ≡ whole →
      KeptState L (at_decoded (read_word settings showing h (with_symbol r b) whole)).after
  word_keeps h r kept b true e =
      codeblock_keeps r.codeblocks r.corrections (decoded settings showing h r.codeblocks r.corrections (2 * r.word + bit_value b)) kept.among
      (codeblock_goes_right settings showing h r.codeblocks r.corrections (2 * r.word + bit_value b) kept.is_open kept.held)
  word_keeps h r kept b false e =
      record {
        is_open = kept.is_open;
        held = kept.held;
        within = kept.within;
        among = kept.among;
        unfinished = not_whole r.count e kept.unfinished;
        none_read = λ z. absurd (omega arith);
      }

  window_keeps : (h : Held) (count window : ℕ) (found : Bool) → h.opened ≡ None → count ≤ 16 → KeptState L (at_window h count window found).after
  window_keeps h count window true e few = begins h e
  window_keeps h count window false e few = (e, few)

  symbol_keeps : (p : Phase) (h : Held) (b : Bool) → Kept L p h → KeptState L (at_event settings showing (state p h) (symbol b)).after
  symbol_keeps INACTIVE h b kept = kept
  symbol_keeps (SEARCH count window) h b kept =
      window_keeps h (next_count count) (next_window window b) (is_start settings.mode (next_count count) (next_window window b)) kept.0 (omega arith)
  symbol_keeps (DECODE r) h b kept = word_keeps h r kept b (eqb (suc r.count) 64) refl

  up_keeps : (p : Phase) (h : Held) → Kept L p h → KeptState L (at_event settings showing (state p h) carrier_up).after
  up_keeps INACTIVE h kept = (kept, omega arith)
  up_keeps (SEARCH count window) h kept = kept
  up_keeps (DECODE r) h kept = kept

  down_keeps : (p : Phase) (h : Held) → Kept L p h → KeptState L (at_event settings showing (state p h) carrier_down).after
  down_keeps INACTIVE h kept = kept
  down_keeps (SEARCH count window) h kept = kept.0
  down_keeps (DECODE r) h kept = refl

  release_keeps : (p : Phase) (h : Held) → Kept L p h → KeptState L (at_event settings showing (state p h) release).after
  release_keeps INACTIVE h kept = kept
  release_keeps (SEARCH count window) h kept = kept
  release_keeps (DECODE r) h kept =
      record {
        is_open = kept.is_open;
        held = kept.held;
        within = kept.within;
        among = kept.among;
        unfinished = kept.unfinished;
        none_read = kept.none_read;
      }

  pub event_keeps : (s : State) (e : Event) → KeptState L s → KeptState L (at_event settings showing s e).after
  event_keeps s carrier_up kept = up_keeps s.phase s.held kept
  event_keeps s carrier_down kept = down_keeps s.phase s.held kept
  event_keeps s (symbol b) kept = symbol_keeps s.phase s.held b kept
  event_keeps s release kept = release_keeps s.phase s.held kept

  pub run_keeps : (s : State) (es : List Event) → KeptState L s → KeptState L (after_events settings showing s es)
  run_keeps s [] kept = kept
  run_keeps s (e ∷ es) kept = run_keeps (at_event settings showing s e).after es (event_keeps s e kept)

  pub kept_from_making : (hold : Held) (es : List Event) → KeptState L (after_events settings showing (made hold) es)
  kept_from_making hold es = run_keeps (made hold) es refl

  pub none_open_in_inactive : (hold : Held) (es : List Event) → (after_events settings showing (made hold) es).phase ≡ INACTIVE → (after_events settings showing (made hold) es).held.opened ≡ None
  none_open_in_inactive hold es inactive = let s = after_events settings showing (made hold) es in by s.phase s.held inactive (kept_from_making hold es)
    where
      by : (p : Phase) (h : Held) → p ≡ INACTIVE → Kept L p h → h.opened ≡ None
      by INACTIVE h e kept = kept
      by (SEARCH count window) h e kept = kept.0
      by (DECODE r) h e kept = absurd (let z : ◌≡◌ {A = ℕ} 0 1 = cc in omega arith)
