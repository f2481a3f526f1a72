-- What reports tell: corrections are among the codeblocks, and these are those of the candidate, within the limit. Assumes nothing.
use Rattle.std.proofs.Common.{◌≡◌, ℕ, suc, ◌+◌, ◌*◌, ◌≤◌, Bool, true, false, eqb, List, [], ◌∷◌, is_some, Some, None, Option, sym, refl, ap, ◌∙◌, arith}
use Rattle.std.specs.List.{AllByRecursion}
use Rattle.std.proofs.ByRecursion.{All-append}
use Rattle.hold.specs.Candidates.{Candidate, Showing}
use Rattle.reception.specs.declared.Report.{Report}
use Rattle.reception.specs.Symbols.{bit_value}
use Rattle.reception.specs.Searching.{next_count, next_window, is_start}
use Rattle.reception.specs.Decoding.{Settings, Held, added, Reading, Decoded, goes_on, ends, decoded, with_symbol, read_word}
use Rattle.reception.specs.Rules.{Phase, INACTIVE, SEARCH, DECODE, State, state, Event, carrier_up, carrier_down, symbol, release, at_window, at_decoded, at_event, made}
use Rattle.reception.specs.Runs.{after_events, reports_of}
use Rattle.reception.specs.Told.{is_decode, CorrectionsAreAmongTheCodeblocks, AReportTellsTheCodeblocksHeld, ACandidateIsOpenJustInDecode}
use Rattle.reception.proofs.Decoding.{IsOpen, GoesRight, codeblock_goes_right}
use Rattle.reception.proofs.Kept.{Kept, KeptState, event_keeps, kept_from_making}

-- of a candidate of so many codeblocks
abbrev TellsOf : (limit held : ℕ) → Report → Type 0
TellsOf limit held one = (one.corrections ≤ one.codeblocks) × (one.codeblocks ≤ limit) × (one.codeblocks ≡ held)

abbrev TellsRight : ℕ → Report → Type 0
TellsRight limit one = (one.corrections ≤ one.codeblocks) × (one.codeblocks ≤ limit)

tell_right : (limit held : ℕ) (reports : List Report) → AllByRecursion (TellsOf limit held) reports → AllByRecursion (TellsRight limit) reports
tell_right limit held [] all = tt
tell_right limit held (one ∷ more) all = ((all.0.0, all.0.1), tell_right limit held more all.1)

tell_held : (limit held : ℕ) (reports : List Report) → AllByRecursion (TellsOf limit held) reports → AllByRecursion (λ one. one.codeblocks ≡ held) reports
tell_held limit held [] all = tt
tell_held limit held (one ∷ more) all = (all.0.2, tell_held limit held more all.1)

module _ (settings : Settings) (showing : Showing) where
  abbrev L : ℕ
  L = settings.limit

  codeblock_tells : (h : Held) (n k : ℕ) (d : Decoded) → added h ≡ n → n ≤ L → k ≤ n → GoesRight L n k d → AllByRecursion (TellsOf L (added h)) (at_decoded d).reports
  codeblock_tells h n k (ends g one) held within among right =
      ((omega (arith, right.told, right.corrected), omega (arith, right.told), right.told ∙ sym held), tt)
  codeblock_tells h n k (goes_on g r) held within among right = tt

  word_tells : (h : Held) (r : Reading) → Kept L (DECODE r) h → (b whole : Bool) →
      AllByRecursion (TellsOf L (added h)) (at_decoded (read_word settings showing h (with_symbol r b) whole)).reports
  word_tells h r kept b true =
      codeblock_tells h r.codeblocks r.corrections (decoded settings showing h r.codeblocks r.corrections (2 * r.word + bit_value b)) kept.held kept.within kept.among
      (codeblock_goes_right settings showing h r.codeblocks r.corrections (2 * r.word + bit_value b) kept.is_open kept.held)
  word_tells h r kept b false = tt

  window_tells : (h : Held) (count window : ℕ) (found : Bool) → AllByRecursion (TellsOf L (added h)) (at_window h count window found).reports
  window_tells h count window true = tt
  window_tells h count window false = tt

  event_tells : (p : Phase) (h : Held) (e : Event) → Kept L p h → AllByRecursion (TellsOf L (added h)) (at_event settings showing (state p h) e).reports
  event_tells INACTIVE h carrier_up kept = tt
  event_tells (SEARCH c w) h carrier_up kept = tt
  event_tells (DECODE r) h carrier_up kept = tt
  event_tells INACTIVE h carrier_down kept = tt
  event_tells (SEARCH c w) h carrier_down kept = tt
  event_tells (DECODE r) h carrier_down kept = ((kept.among, kept.within, sym kept.held), tt)
  event_tells INACTIVE h (symbol b) kept = tt
  event_tells (SEARCH c w) h (symbol b) kept = window_tells h (next_count c) (next_window w b) (is_start settings.mode (next_count c) (next_window w b))
  event_tells (DECODE r) h (symbol b) kept = word_tells h r kept b (eqb (suc r.count) 64)
  event_tells p h release kept = tt

  run_tells : (s : State) (es : List Event) → KeptState L s → AllByRecursion (TellsRight L) (reports_of settings showing s es)
  run_tells s [] kept = tt
  run_tells s (e ∷ es) kept =
      let o = at_event settings showing s e in
      All-append (TellsRight L) o.reports (reports_of settings showing o.after es)
      (tell_right L (added s.held) o.reports (event_tells s.phase s.held e kept))
      (run_tells o.after es (event_keeps settings showing s e kept))

  pub corrections_are_among_the_codeblocks : CorrectionsAreAmongTheCodeblocks settings showing
  corrections_are_among_the_codeblocks hold earlier later =
      run_tells (after_events settings showing (made hold) earlier) later (kept_from_making settings showing hold earlier)

  pub a_report_tells_the_codeblocks_held : AReportTellsTheCodeblocksHeld settings showing
  a_report_tells_the_codeblocks_held hold earlier e =
      let then = after_events settings showing (made hold) earlier in
      tell_held L (added then.held) (at_event settings showing then e).reports (event_tells then.phase then.held e (kept_from_making settings showing hold earlier))

  open_just_in_decode : (p : Phase) (h : Held) → Kept L p h → is_some h.opened ≡ is_decode p
  open_just_in_decode INACTIVE h kept = ap is_some kept
  open_just_in_decode (SEARCH count window) h kept = ap is_some kept.0
  open_just_in_decode (DECODE r) h kept = some h.opened kept.is_open
    where
      some : (o : Option Candidate) → IsOpen o → is_some o ≡ true
      some None is = absurd is
      some (Some candidate) is = refl

  pub a_candidate_is_open_just_in_decode : ACandidateIsOpenJustInDecode settings showing
  a_candidate_is_open_just_in_decode hold earlier =
      let then = after_events settings showing (made hold) earlier in
      open_just_in_decode then.phase then.held (kept_from_making settings showing hold earlier)
