-- What is written for a pass record. Assumes nothing.
use Rattle.std.specs.Prelude.{◌≡◌, ◌≢◌, ℕ, ◌≤◌, Bool, false, List, [], ◌∷◌, Some, map, length, codes, slice_get}
use Rattle.std.specs.Int.Digits.{AllBelowBase}
use Rattle.std.specs.List.{AllByRecursion}
use Rattle.bch.specs.Bits.{bits_of}
use Rattle.randomizer.specs.declared.Randomizer.{Randomizer}
use Rattle.randomizer.specs.Sequence.{randomized}
use Rattle.cltu.specs.Cltu.{codeblocks_for, filled, cltu}
use Rattle.hold.specs.Candidates.{Showing}
use Rattle.reception.specs.declared.Reason.TheVariants.{Closed, Full}
use Rattle.reception.specs.Decoding.{Settings, report}
use Rattle.reception.specs.Rules.{Event}
use Rattle.reception.specs.Runs.{reports_of}
use Rattle.reception.specs.Finished.{new_candidates}
use Rattle.pass_record.specs.Record.{IsRecord}
use Rattle.receive_lines.specs.declared.setup.Setup.{Setup}
use Rattle.receive_lines.specs.declared.view.View.{View}
use Rattle.receive_lines.specs.Lines.{Told, Line, frame_line, told_among, reports_among, frames_among, AFrameBehindEachClosed, whole_text}
use Rattle.receive_lines.specs.Pass.{pass_events, Placed, placed_pass, rules_for, showing_for, over_cells, ready_for}
use Rattle.receive_lines.specs.Released.{with_releases, told_of, FirstAt}
use Rattle.receive_lines.specs.Sent.{SentSegment, segment_of, AllArriveWithin, anywhere, taken_off, lines_of_sent, TextApartFromPlaces}

-- lines tell what a receiver reports of events over a hold that never fills, and show each candidate that it finishes
pub record AsIfNeverFilled (rules : Settings) (showing : Showing) (events : List Event) (lines : List Line) : Type 0 where
  pub reports : reports_among lines ≡ reports_of rules showing (ready_for events) events
  pub frames : frames_among lines ≡ new_candidates rules showing (ready_for events) events
  pub never_full : AllByRecursion (λ one. one.reason ≢ Full) (reports_among lines)

-- the lines for these segments: they tell what a receiver over so many cells reports of their events, each candidate
-- being released as soon as it is closed, and show each candidate that it finishes, behind the report of it; each report
-- stands at the place that first has it; and where the cells are no fewer than the limit, they might be any number
pub record AreLinesOf (setup : Setup) (segments : List (List Bool)) (lines : List Line) : Type 0 where
  pub reports : let s = over_cells setup.cells in
      let run = with_releases (rules_for setup) (showing_for setup.randomizer) s (pass_events segments) in
      reports_among lines ≡ reports_of (rules_for setup) (showing_for setup.randomizer) s run
  pub frames : let s = over_cells setup.cells in
      let run = with_releases (rules_for setup) (showing_for setup.randomizer) s (pass_events segments) in
      frames_among lines ≡ new_candidates (rules_for setup) (showing_for setup.randomizer) s run
  pub order : AFrameBehindEachClosed false lines
  pub told : let s = over_cells setup.cells in
      told_among lines ≡ told_of (rules_for setup) (showing_for setup.randomizer) s (placed_pass segments)
  pub places : (number : ℕ) (one : Told) → slice_get (told_among lines) number ≡ Some one →
      FirstAt (rules_for setup) (showing_for setup.randomizer) (over_cells setup.cells) (placed_pass segments) number one.place
  pub never_filled : (rules_for setup).limit ≤ setup.cells →
      AsIfNeverFilled (rules_for setup) (showing_for setup.randomizer) (pass_events segments) lines

pub record IsTextOf (setup : Setup) (view : View) (segments : List (List Bool)) (text : List ℕ) : Type 0 where
  pub lines : List Line
  pub written : text ≡ whole_text view lines
  pub are : AreLinesOf setup segments lines

-- that is one text
abbrev pub OneText : Type 0
OneText = (setup : Setup) (view : View) (segments : List (List Bool)) (a b : List ℕ) →
    IsTextOf setup view segments a → IsTextOf setup view segments b → a ≡ b

-- one report and one frame: closed with all codeblocks and no correction, and the frame with its fill, with what its
-- sender added and the receiver took off
abbrev pub lines_alone : (receiver sender : Randomizer) → List ℕ → List Line
lines_alone receiver sender frame =
    anywhere (report Closed (codeblocks_for (length frame)) 0)
    ∷ (frame_line (taken_off receiver (randomized sender (filled frame))) ∷ [])

-- the text for a record of some segments; of segments in which all arrived within the allowance, and of one segment that
-- is the CLTU of a frame, undamaged, where the cells are no fewer than the limit; and for what is no record
pub record Answers (setup : Setup) (view : View) (octets text : List ℕ) : Type 0 where
  pub read : (segments : List (List Bool)) → IsRecord octets segments → IsTextOf setup view segments text
  pub sent : (sent : List SentSegment) → (rules_for setup).limit ≤ setup.cells →
      AllByRecursion (AllArriveWithin (rules_for setup)) sent → IsRecord octets (map segment_of sent) →
      TextApartFromPlaces view (lines_of_sent setup.randomizer sent) text
  pub alone : (randomizer : Randomizer) (frame : List ℕ) → (rules_for setup).limit ≤ setup.cells →
      AllBelowBase 256 frame → 1 ≤ length frame → codeblocks_for (length frame) ≤ (rules_for setup).limit →
      IsRecord octets (bits_of (cltu randomizer frame) ∷ []) →
      TextApartFromPlaces view (lines_alone setup.randomizer randomizer frame) text
  pub refused : ((segments : List (List Bool)) → IsRecord octets segments → ⊥) → text ≡ codes "refused 16\n"
