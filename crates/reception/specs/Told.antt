-- What a receiver tells is so: of the candidate that a report is about, and whether one is open. Assumes nothing.
use Rattle.std.specs.Prelude.{◌≡◌, ◌≤◌, Bool, true, false, List, is_some}
use Rattle.std.specs.List.{AllByRecursion}
use Rattle.hold.specs.Candidates.{Showing}
use Rattle.reception.specs.Decoding.{Settings, Held, added}
use Rattle.reception.specs.Rules.{Phase, INACTIVE, SEARCH, DECODE, Event, at_event, made}
use Rattle.reception.specs.Runs.{after_events, reports_of}

abbrev pub is_decode : Phase → Bool
is_decode INACTIVE = false
is_decode (SEARCH count window) = false
is_decode (DECODE r) = true

module _ (settings : Settings) (showing : Showing) where
  -- at most all codeblocks of a candidate are corrected, and it has no more than the limit
  abbrev pub CorrectionsAreAmongTheCodeblocks : Type 0
  CorrectionsAreAmongTheCodeblocks =
      (hold : Held) (earlier later : List Event) →
      let then = after_events settings showing (made hold) earlier in
      AllByRecursion (λ one. (one.corrections ≤ one.codeblocks) × (one.codeblocks ≤ settings.limit))
      (reports_of settings showing then later)

  -- a report tells of as many codeblocks as were held of its candidate
  abbrev pub AReportTellsTheCodeblocksHeld : Type 0
  AReportTellsTheCodeblocksHeld =
      (hold : Held) (earlier : List Event) (e : Event) →
      let then = after_events settings showing (made hold) earlier in
      AllByRecursion (λ one. one.codeblocks ≡ added then.held) (at_event settings showing then e).reports

  -- in SEARCH, where decoding opens a candidate, none is open; in DECODE, where it adds, finishes and abandons, one is
  abbrev pub ACandidateIsOpenJustInDecode : Type 0
  ACandidateIsOpenJustInDecode =
      (hold : Held) (earlier : List Event) →
      let then = after_events settings showing (made hold) earlier in
      is_some then.held.opened ≡ is_decode then.phase
