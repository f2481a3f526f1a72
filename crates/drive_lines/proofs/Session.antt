-- One line behind others. Assumes nothing.
use Rattle.std.proofs.Common.{◌≡◌, ℕ, ◌+◌, false, List, [], ◌∷◌, ◌++◌, length, map, Option, Some, None, refl, sym, ap, ap₂, ◌∙◌, subst, append_assoc, append-nil, arith}
use Rattle.std.specs.Prelude.{All, IfSome, ◌==◌}
use Rattle.std.specs.Io.KnownBytes.{Consumes, IsAtEnd}
use Rattle.std.proofs.lemmas.List.{map-append}
use Rattle.std.proofs.lemmas.List.Splits.{slice_split_at, slice_split_none}
use Rattle.std.specs.List.{sum_by}
use Rattle.std.proofs.lemmas.List.Sums.{sum_by-append}
use Rattle.hold.specs.declared.Hold.{Ghosts}
use Rattle.hold.specs.Candidates.{Showing}
use Rattle.reception.specs.Decoding.{Settings}
use Rattle.decoding.specs.Meaning.{rules_of}
use Rattle.receiver.specs.declared.receiver.Receiver.{Receiver}
use Rattle.receiver.specs.Meaning.{settings_of}
use Rattle.drive_lines.specs.declared.driving.Driving.{Driving}
use Rattle.drive_lines.specs.Asked.{Reading, reading}
use Rattle.drive_lines.specs.Driven.{Driven, driven_of}
use Rattle.drive_lines.specs.Session.{lines_of, answered_in, after_line, reports_at, text_at, after_lines, text_for, reports_for, end_line, printed}
use Rattle.drive_lines.specs.Driving.{receiver_in, slots_in, lines_in, printed_in, Answers}

-- where lines end
module _ (taken : List ℕ) (lines : List (List ℕ)) (line : List ℕ) (splits : (further : List ℕ) → lines_of (taken ++ further) ≡ lines ++ lines_of further)
    (none : All (λ x. (x == 10) ≡ false) line) where
  pub splits_behind : (further : List ℕ) → lines_of ((taken ++ (line ++ 10 ∷ [])) ++ further) ≡ (lines ++ line ∷ []) ++ lines_of further
  splits_behind further =
      ap lines_of (append_assoc taken (line ++ 10 ∷ []) further ∙ ap (λ l. taken ++ l) (append_assoc line (10 ∷ []) further))
      ∙ splits (line ++ 10 ∷ further) ∙ ap (λ l. lines ++ l) (slice_split_at (λ x. x == 10) line 10 further none refl)
      ∙ sym (append_assoc lines (line ∷ []) (lines_of further))

  pub last_line : lines_of (taken ++ line) ≡ lines ++ line ∷ []
  last_line = splits line ∙ ap (λ l. lines ++ l) (slice_split_none (λ x. x == 10) line none)

-- what is at its end is at its end from the beginning
pub ends : (a b c : Option (List ℕ)) (octets : List ℕ) → Consumes a b octets → IfSome b (λ _. IsAtEnd c) → IfSome a (λ _. IsAtEnd c)
ends None b c octets given end = tt
ends (Some xs) None c octets given end = absurd given
ends (Some xs) (Some ys) c octets given end = end

module _ (settings : Settings) (showing : Showing) (slots : ℕ) where
  after_behind : (d : Driven) (lines : List Reading) (line : Reading) →
      after_lines settings showing slots d (lines ++ line ∷ []) ≡ after_line settings showing slots (after_lines settings showing slots d lines) line
  after_behind d [] line = refl
  after_behind d (first ∷ lines) line = after_behind (after_line settings showing slots d first) lines line

  text_behind : (d : Driven) (lines : List Reading) (line : Reading) →
      text_for settings showing slots d (lines ++ line ∷ [])
      ≡ text_for settings showing slots d lines ++ text_at settings showing slots (after_lines settings showing slots d lines) line
  text_behind d [] line = append-nil (text_at settings showing slots d line)
  text_behind d (first ∷ lines) line =
      let next = after_line settings showing slots d first in
      ap (λ t. text_at settings showing slots d first ++ t) (text_behind next lines line)
      ∙ sym (append_assoc (text_at settings showing slots d first) (text_for settings showing slots next lines) (text_at settings showing slots (after_lines settings showing slots next lines) line))

  reports_behind : (d : Driven) (lines : List Reading) (line : Reading) →
      reports_for settings showing slots d (lines ++ line ∷ [])
      ≡ reports_for settings showing slots d lines + length (reports_at settings showing slots (after_lines settings showing slots d lines) line)
  reports_behind d [] line = omega arith
  reports_behind d (first ∷ lines) line = omega (arith, reports_behind (after_line settings showing slots d first) lines line)

module _ {X : Type 0} (hold : Ghosts X) (slots : ℕ) (receiver : Receiver X) where
  abbrev rules : Settings
  rules = rules_of (settings_of receiver)

  abbrev begun : Driven
  begun = driven_of hold receiver

  -- a receiver that was driven by these lines, of which this is the text
  pub record SoFar (driving : Driving X) (lines : List Reading) (text : List ℕ) : Type 0 where
    pub settings : settings_of (receiver_in driving) ≡ settings_of receiver
    pub slots_are : slots_in driving ≡ slots
    pub comes : driven_of hold (receiver_in driving) ≡ after_lines rules hold.showing slots begun lines
    pub lines_are : lines_in driving ≡ sum_by answered_in lines
    pub reports_are : printed_in driving ≡ reports_for rules hold.showing slots begun lines
    pub text_is : text ≡ text_for rules hold.showing slots begun lines

  pub line_behind : (before after : Driving X) (lines : List Reading) (line : Reading) (text more : List ℕ) →
      SoFar before lines text → Answers hold line before after [] more → SoFar after (lines ++ line ∷ []) (text ++ more)
  line_behind before after lines line text more so_far answers =
      let there = after_lines rules hold.showing slots begun lines in
      record {
        settings = answers.settings ∙ so_far.settings;
        slots_are = answers.slots ∙ so_far.slots_are;
        comes = answers.comes ∙ ap (λ s. after_line (rules_of s) hold.showing (slots_in before) (driven_of hold (receiver_in before)) line) so_far.settings
            ∙ ap₂ (λ n d. after_line rules hold.showing n d line) so_far.slots_are so_far.comes ∙ sym (after_behind rules hold.showing slots begun lines line);
        lines_are = omega (arith, answers.lines, so_far.lines_are, sum_by-append answered_in lines (line ∷ []));
        reports_are = answers.reports
            ∙ ap (λ s. printed_in before + length (reports_at (rules_of s) hold.showing (slots_in before) (driven_of hold (receiver_in before)) line)) so_far.settings
            ∙ ap₂ (λ n d. printed_in before + length (reports_at rules hold.showing n d line)) so_far.slots_are so_far.comes
            ∙ ap (λ n. n + length (reports_at rules hold.showing slots there line)) so_far.reports_are ∙ sym (reports_behind rules hold.showing slots begun lines line);
        text_is = ap₂ ◌++◌ so_far.text_is
            (answers.written ∙ ap (λ s. text_at (rules_of s) hold.showing (slots_in before) (driven_of hold (receiver_in before)) line) so_far.settings
            ∙ ap₂ (λ n d. text_at rules hold.showing n d line) so_far.slots_are so_far.comes)
            ∙ sym (text_behind rules hold.showing slots begun lines line);
      }

  -- the same, of the octets of lines
  pub written_behind : (before after : Driving X) (lines : List (List ℕ)) (line text more : List ℕ) → SoFar before (map reading lines) text →
      Answers hold (reading line) before after [] more → SoFar after (map reading (lines ++ line ∷ [])) (text ++ more)
  written_behind before after lines line text more so_far answers =
      subst (λ all. SoFar after all (text ++ more)) (sym (map-append reading lines (line ∷ [])))
      (line_behind before after (map reading lines) (reading line) text more so_far answers)

  -- with the last line it is all that is printed
  pub all_printed : (driving : Driving X) (octets text : List ℕ) → SoFar driving (map reading (lines_of octets)) text →
      text ++ end_line (lines_in driving) (printed_in driving) ≡ printed rules hold.showing slots begun octets
  all_printed driving octets text so_far = ap₂ ◌++◌ so_far.text_is (ap₂ end_line so_far.lines_are so_far.reports_are)
