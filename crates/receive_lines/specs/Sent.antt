-- A pass in which each CLTU arrives within the allowance, and the lines that come of it. Assumes nothing.
use Rattle.std.specs.Prelude.{◌≡◌, ◌≢◌, ℕ, Bool, List, [], ◌∷◌, ◌++◌, map, length}
use Rattle.std.specs.Int.Digits.{AllBelowBase}
use Rattle.std.specs.List.{flat_map, AllByRecursion}
use Rattle.randomizer.specs.declared.Randomizer.{Randomizer}
use Rattle.randomizer.specs.declared.Randomizer.TheVariants.{On, Off}
use Rattle.randomizer.specs.Sequence.{randomized}
use Rattle.reception.specs.declared.Reason.TheVariants.{Closed}
use Rattle.reception.specs.declared.Report.{Report}
use Rattle.reception.specs.Decoding.{Settings, report}
use Rattle.reception.specs.Runs.{idle}
use Rattle.reception.specs.Allowance.{ReceivedCltu, symbols_of, wrong_in, WithinAllowance}
use Rattle.receive_lines.specs.declared.view.View.{View}
use Rattle.receive_lines.specs.declared.view.View.TheVariants.{Places}
use Rattle.receive_lines.specs.Lines.{Line, report_line, frame_line, told_at, whole_text}
use Rattle.receive_lines.specs.Pass.{place_in}

-- so many idle bits or none, then a CLTU: the octets that its codeblocks were made of (the frame with its fill, which
-- the sender may have randomized), and what was received of it
pub record SentCltu : Type 0 where
  pub first : Bool
  pub bits : ℕ
  pub information : List ℕ
  pub received : ReceivedCltu

-- a segment of such CLTUs, with idle or nothing behind the last
pub record SentSegment : Type 0 where
  pub cltus : List SentCltu
  pub first : Bool
  pub bits : ℕ

abbrev pub symbols_before : List Bool → List SentCltu → List Bool
symbols_before behind [] = behind
symbols_before behind (c ∷ cs) = idle c.first c.bits ++ (symbols_of c.received ++ symbols_before behind cs)

abbrev pub segment_of : SentSegment → List Bool
segment_of segment = symbols_before (idle segment.first segment.bits) segment.cltus

pub record ArrivesWithin (rules : Settings) (c : SentCltu) : Type 0 where
  pub octets : AllBelowBase 256 c.information
  pub within : WithinAllowance rules c.information c.received

abbrev pub AllArriveWithin : Settings → SentSegment → Type 0
AllArriveWithin rules segment = AllByRecursion (ArrivesWithin rules) segment.cltus

-- closed, with its codeblocks, and with as many corrections as bits of them arrived wrong
abbrev pub report_of : SentCltu → Report
report_of c = report Closed (length c.received.blocks) (wrong_in c.information c.received.blocks)

-- octets with the sequence taken off, if it is to be
abbrev pub taken_off : Randomizer → List ℕ → List ℕ
taken_off On octets = randomized On octets
taken_off Off octets = octets

-- a line apart from its place
abbrev pub anywhere : Report → Line
anywhere one = report_line (told_at (place_in 0 0) one)

abbrev pub without_place : Line → Line
without_place (report_line one) = anywhere one.report
without_place (frame_line candidate) = frame_line candidate

-- for each its report and its frame, and nothing else
abbrev pub lines_of_cltu : Randomizer → SentCltu → List Line
lines_of_cltu randomizer c = anywhere (report_of c) ∷ frame_line (taken_off randomizer c.information) ∷ []

abbrev pub all_cltus : List SentSegment → List SentCltu
all_cltus sent = flat_map (λ segment. segment.cltus) sent

abbrev pub lines_of_sent : Randomizer → List SentSegment → List Line
lines_of_sent randomizer sent = flat_map (lines_of_cltu randomizer) (all_cltus sent)

-- a text whose lines are these, apart from their places; where no places are shown, it is the text of these
pub record TextApartFromPlaces (view : View) (expected : List Line) (text : List ℕ) : Type 0 where
  pub lines : List Line
  pub written : text ≡ whole_text view lines
  pub same : map without_place lines ≡ expected
  pub without_places : view ≢ Places → text ≡ whole_text view expected
