-- What the line of a driven receiver makes of it. Assumes nothing.
use Rattle.std.specs.Prelude.{◌≡◌, ℕ, ◌+◌, List, ◌++◌, length, Option, Some, None, IfSome}
use Rattle.std.specs.Io.KnownBytes.{Appends, Consumes, IsAtEnd}
use Rattle.hold.specs.declared.Hold.{Ghosts}
use Rattle.reception.specs.Decoding.{Settings}
use Rattle.reception.specs.Calls.{Call}
use Rattle.decoding.specs.Meaning.{rules_of}
use Rattle.receiver.specs.declared.receiver.Receiver.{Receiver}
use Rattle.receiver.specs.Meaning.{settings_of}
use Rattle.receiver.specs.Calls.{Called}
use Rattle.drive_lines.specs.declared.driving.Driving.{Driving}
use Rattle.drive_lines.specs.Asked.{Reading}
use Rattle.drive_lines.specs.Driven.{Driven, driven_of}
use Rattle.drive_lines.specs.Session.{call_in, answered_in, after_line, reports_at, text_at, printed}
use Rattle.drive_lines.specs.Calling.{StaysIfRefused}

module _ {X : Type 0} where
  -- the receiver, how many slots its queue has, and how many lines were answered and reports printed
  abbrev pub receiver_in : Driving X → Receiver X
  receiver_in driving = driving.receiver

  abbrev pub slots_in : Driving X → ℕ
  slots_in driving = driving.slots

  abbrev pub lines_in : Driving X → ℕ
  lines_in driving = driving.lines

  abbrev pub printed_in : Driving X → ℕ
  printed_in driving = driving.printed

module _ {X : Type 0} (hold : Ghosts X) where
  -- the receiver is called so, or not at all
  abbrev pub IsCalled : Option Call → (before after : Receiver X) → Type 0
  IsCalled None before after = after ≡ before
  IsCalled (Some call) before after = Called hold call before after

  -- a line: the text for it, behind what was written, the call that it makes, and what the receiver comes to
  pub record Answers (line : Reading) (before after : Driving X) (text text_after : List ℕ) : Type 0 where
    pub written : let rules = rules_of (settings_of (receiver_in before)) in
        text_after ≡ text ++ text_at rules hold.showing (slots_in before) (driven_of hold (receiver_in before)) line
    pub called : IsCalled (call_in (slots_in before) line) (receiver_in before) (receiver_in after)
    pub refused : StaysIfRefused hold (call_in (slots_in before) line) (receiver_in before) (receiver_in after)
    pub comes : let rules = rules_of (settings_of (receiver_in before)) in
        driven_of hold (receiver_in after)
        ≡ after_line rules hold.showing (slots_in before) (driven_of hold (receiver_in before)) line
    pub settings : settings_of (receiver_in after) ≡ settings_of (receiver_in before)
    pub slots : slots_in after ≡ slots_in before
    pub lines : lines_in after ≡ lines_in before + answered_in line
    pub reports : let rules = rules_of (settings_of (receiver_in before)) in
        printed_in after ≡ printed_in before
        + length (reports_at rules hold.showing (slots_in before) (driven_of hold (receiver_in before)) line)

  -- the octets that the reader gave are all that it had, as far as that is known, and the writer has got the text for them
  pub record PrintsAll (slots : ℕ) (receiver : Receiver X) (input input_after output output_after : Option (List ℕ)) : Type 0 where
    pub octets : List ℕ
    pub given : Consumes input input_after octets
    pub all : IfSome input (λ _. IsAtEnd input_after)
    pub text : Appends output output_after
        (printed (rules_of (settings_of receiver)) hold.showing slots (driven_of hold receiver) octets)
