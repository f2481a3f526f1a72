-- A receiver as its driver sees it: what is answered to what is asked, and what it comes to. Assumes nothing.
use Rattle.std.specs.Prelude.{ℕ, List, [], ◌∷◌, ◌++◌, length, Option, Some, None, codes}
use Rattle.std.specs.List.{flat_map}
use Rattle.hold.specs.declared.Hold.{Ghosts}
use Rattle.hold.specs.Candidates.{Showing}
use Rattle.reception.specs.declared.Report.{Report}
use Rattle.reception.specs.Reports.{report_text}
use Rattle.reception.specs.Decoding.{Settings, room, added}
use Rattle.reception.specs.Rules.{State}
use Rattle.reception.specs.Calls.{Call, call_up, call_down, call_symbols, call_release, refusal, answered, reports_put, lost_after, after_call, reports_in}
use Rattle.receiver.specs.declared.receiver.Receiver.{Receiver}
use Rattle.receiver.specs.Meaning.{lost_of, state_of}
use Rattle.receiver.specs.Calls.{named, free_in}
use Rattle.drive_lines.specs.Asked.{Asked, ask_up, ask_down, ask_release, ask_symbols, ask_oldest, ask_state}
use Rattle.drive_lines.specs.Answers.{done_text, made_text, oldest_text, state_text}

-- its state, and how many reports it lost
pub record Driven : Type 0 where
  pub state : State
  pub lost : ℕ

abbrev pub driven_of : {X : Type 0} → Ghosts X → Receiver X → Driven
driven_of hold r = record { state = state_of hold r; lost = lost_of r }

-- the call that is made, with a queue of so many free slots where it takes one; a question is none
abbrev pub call_for : (slots : ℕ) → Asked → Option Call
call_for slots ask_up = Some call_up
call_for slots ask_down = Some (call_down slots)
call_for slots ask_release = Some call_release
call_for slots (ask_symbols bits) = Some (call_symbols bits slots)
call_for slots ask_oldest = None
call_for slots ask_state = None

-- a line for each report
abbrev pub reports_text : List Report → List ℕ
reports_text reports = flat_map (λ one. report_text one ++ codes "\n") reports

module _ (settings : Settings) (showing : Showing) where
  -- the receiver after a call; a question changes nothing
  abbrev pub after_asked : Driven → Option Call → Driven
  after_asked d None = d
  after_asked d (Some call) = record {
    state = after_call settings showing d.state call;
    lost = lost_after (free_in call) d.lost (reports_in settings showing d.state call);
  }

  -- the reports of a call that find a free slot: these are printed, and the others are lost
  abbrev pub reports_after : (slots : ℕ) → Driven → Option Call → List Report
  reports_after slots d None = []
  reports_after slots d (Some call) = reports_put slots (reports_in settings showing d.state call)

  -- the answer, without its end: a refused call tells why
  abbrev pub answer_to : (slots : ℕ) → Driven → Asked → List ℕ
  answer_to slots d ask_up = done_text (answered (refusal d.state call_up) tt)
  answer_to slots d ask_down = done_text (answered (refusal d.state (call_down slots)) tt)
  answer_to slots d ask_release = done_text (answered (refusal d.state call_release) tt)
  answer_to slots d (ask_symbols bits) =
      made_text (answered (refusal d.state (call_symbols bits slots)) (length (reports_in settings showing d.state (call_symbols bits slots))))
  answer_to slots d ask_oldest = oldest_text d.state.held.finished
  answer_to slots d ask_state =
      state_text (named d.state.phase) d.lost (room d.state.held) (added d.state.held) (length d.state.held.finished)
