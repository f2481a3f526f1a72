-- What a line gives: the CLTU that it tells, the CLTU of the frame that it is, or nothing. Assumes nothing.
use Rattle.std.specs.Prelude.{ℕ, ◌-◌, ◌/◌, ◌%◌, Bool, cond, ◌&&◌, ◌==◌, List, length, Option, Some, None, Ok, Err, Result, codes, nat_lt, nat_le, nat_eq, slice_index, vec_items}
use Rattle.std.specs.Char.{is_ascii_digit}
use Rattle.std.specs.List.{before_first, after_first, list_all, starts_with}
use Rattle.std.specs.Global.{Vec}
use Rattle.std.specs.Option.{option_map}
use Rattle.std.specs.Result.{result_ok}
use Rattle.std.specs.Str.{bytes_eq}
use Rattle.hex.specs.Hex.{decode_of}
use Rattle.refusals.specs.declared.Refusal.{Refusal}
use Rattle.cltu.specs.declared.Sender.{Sender}
use Rattle.cltu.specs.Writing.{sent_cltu, length_answer}
use Rattle.encode_lines.specs.Lines.{cltu_text}
use Rattle.pass_lines.specs.declared.line.LineFault.{LineFault}
use Rattle.pass_lines.specs.declared.line.LineFault.TheVariants.{Unreadable, NotACltu, Refused}

-- a text in front of its first blank, and behind it
abbrev pub is_blank : ℕ → Bool
is_blank x = x == 32

abbrev pub front_word : List ℕ → List ℕ
front_word text = before_first is_blank text

abbrev pub behind_word : List ℕ → List ℕ
behind_word text = after_first is_blank text

-- a number in decimal digits
abbrev pub is_number : List ℕ → Bool
is_number text = nat_lt 0 (length text) && list_all is_ascii_digit text

-- the line is `end` and two numbers
abbrev pub is_end_line : List ℕ → Bool
is_end_line line =
    starts_with nat_eq line (codes "end ")
    && (is_number (front_word (behind_word line)) && is_number (behind_word (behind_word line)))

-- of a line that tells a CLTU the digits, its fifth word, and the fill, the digit that its third begins with
abbrev pub told_digits : List ℕ → List ℕ
told_digits line = behind_word (behind_word (behind_word (behind_word line)))

abbrev pub told_fill : List ℕ → ℕ
told_fill line = slice_index (behind_word (behind_word line)) 0 - 48

-- a line is what `encode` prints for a CLTU of so many octets, with this fill and these digits: start sequence and tail
-- are 10 octets, a codeblock is 8, and the fill is less than the seven octets that a codeblock holds
abbrev pub is_printed : (line : List ℕ) (octets fill : ℕ) (digits : List ℕ) → Bool
is_printed line octets fill digits =
    (nat_le 10 octets && (octets % 8 == 2 && nat_lt fill 7))
    && bytes_eq line (cltu_text ((octets - 10) / 8) fill octets digits)

abbrev pub tells : (line octets : List ℕ) → Bool
tells line octets = is_printed line (length octets) (told_fill line) (told_digits line)

-- the octets that digits write, two an octet in either case
abbrev pub octets_written : List ℕ → Option (List ℕ)
octets_written digits = result_ok (decode_of digits)

-- the CLTU of these octets, if a line tells it
abbrev pub if_tells : List ℕ → Option (List ℕ) → Option (List ℕ)
if_tells line None = None
if_tells line (Some octets) = cond (tells line octets) (Some octets) None

abbrev pub told_cltu : List ℕ → Option (List ℕ)
told_cltu line = if_tells line (octets_written (told_digits line))

abbrev pub told_or_none : Option (List ℕ) → Result (Option (List ℕ)) LineFault
told_or_none None = Err NotACltu
told_or_none (Some octets) = Ok (Some octets)

-- the CLTU of a frame, if the sender does not refuse it
abbrev pub if_sent : (cltu : List ℕ) → Result ℕ Refusal → Result (Option (List ℕ)) LineFault
if_sent cltu (Ok octets) = Ok (Some cltu)
if_sent cltu (Err refusal) = Err (Refused refusal)

abbrev pub if_read : Sender → Option (List ℕ) → Result (Option (List ℕ)) LineFault
if_read sender None = Err Unreadable
if_read sender (Some frame) = if_sent (sent_cltu sender frame) (length_answer sender (length frame))

-- a line that begins with `cltu` tells a CLTU, an `end` line gives nothing, and any other is a frame
abbrev pub line_given : Sender → List ℕ → Result (Option (List ℕ)) LineFault
line_given sender line =
    cond (starts_with nat_eq line (codes "cltu ")) (told_or_none (told_cltu line))
    (cond (is_end_line line) (Ok None)
    (if_read sender (octets_written line)))

-- the octets of a CLTU that a line gave, or nothing
abbrev pub octets_given : Result (Option (Vec ℕ)) LineFault → Result (Option (List ℕ)) LineFault
octets_given (Ok given) = Ok (option_map vec_items given)
octets_given (Err fault) = Err fault
