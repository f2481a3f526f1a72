-- A receiver whose candidates are written and released as soon as they are finished, and what its functions make of it.
-- No public contract speaks of this. Assumes nothing.
use Rattle.std.specs.Prelude.{◌≡◌, ◌+◌, cond, Bool, List, [], ◌∷◌, ◌++◌, length, string_bytes}
use Rattle.hold.specs.declared.Hold.{Ghosts}
use Rattle.hold.specs.Candidates.{Candidate, Showing}
use Rattle.reception.specs.declared.Report.{Report}
use Rattle.reception.specs.Decoding.{Settings, releasing}
use Rattle.reception.specs.Rules.{State, state, Outcome, at_event, carrier_up}
use Rattle.decoding.specs.Meaning.{rules_of}
use Rattle.receiver.specs.Meaning.{settings_of, state_of}
use Rattle.receive_lines.specs.declared.place.Place.{Place}
use Rattle.receive_lines.specs.declared.pass_log.PassLog.{PassLog}
use Rattle.receive_lines.specs.declared.receiving.Receiving.{Receiving}
use Rattle.receive_lines.specs.Lines.{Line, report_line, frame_line, told_at, text_of, told_among, frames_among, is_closed}
use Rattle.receive_lines.specs.Pass.{Placed, placed, place_in, placed_symbols}

-- the line for the oldest of the finished candidates
abbrev pub oldest_line : List Candidate → List Line
oldest_line [] = []
oldest_line (oldest ∷ rest) = frame_line oldest ∷ []

-- the lines for reports, and the state when these are written: behind *closed* comes the oldest candidate, which is
-- released
abbrev pub lines_at : Place → State → Report → List Line
lines_at place s one =
    report_line (told_at place one) ∷ cond (is_closed one.reason) (oldest_line s.held.finished) []

abbrev pub after_lines : State → Report → State
after_lines s one = cond (is_closed one.reason) (state s.phase (releasing s.held)) s

abbrev pub lines_for : Place → State → List Report → List Line
lines_for place s [] = []
lines_for place s (one ∷ more) = lines_at place s one ++ lines_for place (after_lines s one) more

abbrev pub after_telling : State → List Report → State
after_telling s [] = s
after_telling s (one ∷ more) = after_telling (after_lines s one) more

abbrev pub lines_told : Place → Outcome → List Line
lines_told place o = lines_for place o.after o.reports

abbrev pub after_outcome : Outcome → State
after_outcome o = after_telling o.after o.reports

module _ (settings : Settings) (showing : Showing) where
  abbrev pub after_run : State → List Placed → State
  after_run s [] = s
  after_run s (p ∷ ps) = after_run (after_outcome (at_event settings showing s p.event)) ps

  abbrev pub lines_of : State → List Placed → List Line
  lines_of s [] = []
  lines_of s (p ∷ ps) =
      lines_told p.place (at_event settings showing s p.event)
      ++ lines_of (after_outcome (at_event settings showing s p.event)) ps

-- lines more, which are counted
pub record Writes (more : List Line) (before after : PassLog) : Type 0 where
  pub view : after.view ≡ before.view
  pub text : string_bytes after.text ≡ string_bytes before.text ++ text_of before.view more
  pub reports : after.reports ≡ before.reports + length (told_among more)
  pub frames : after.frames ≡ before.frames + length (frames_among more)

-- the place of the last of some symbols behind a place
abbrev pub last_of : Place → List Bool → Place
last_of place symbols = place_in place.segment (place.symbol + length symbols)

-- a receiver comes to a state, and lines are written; the settings stay
module _ {X : Type 0} (hold : Ghosts X) where
  pub record GoesOn (before after : Receiving X hold) (to : State) (more : List Line) : Type 0 where
    pub settings : settings_of after.receiver ≡ settings_of before.receiver
    pub come : state_of hold after.receiver ≡ to
    pub written : Writes more before.log after.log

  -- reports are told, at the place that is come to
  pub record Tells (reports : List Report) (before after : Receiving X hold) : Type 0 where
    pub place : after.place ≡ before.place
    pub goes :
        let s = state_of hold before.receiver in
        GoesOn before after (after_telling s reports) (lines_for before.place s reports)

  -- events pass, with all told that they make
  abbrev pub Passed : List Placed → (before after : Receiving X hold) → Type 0
  Passed events before after =
      let rules = rules_of (settings_of before.receiver) in
      let s = state_of hold before.receiver in
      GoesOn before after (after_run rules hold.showing s events) (lines_of rules hold.showing s events)

  -- symbols pass, each at its place
  pub record PassedSymbols (symbols : List Bool) (before after : Receiving X hold) : Type 0 where
    pub place : after.place ≡ last_of before.place symbols
    pub goes : Passed (placed_symbols before.place symbols) before after
