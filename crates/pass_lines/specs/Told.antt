-- What is told of lines that become no pass. Assumes nothing.
use Rattle.std.specs.Prelude.{ℕ, List, ◌++◌, codes, decimal}
use Rattle.refusals.specs.Numbers.{refusal_text}
use Rattle.pass_lines.specs.declared.line.LineFault.{LineFault}
use Rattle.pass_lines.specs.declared.line.LineFault.TheVariants.{Unreadable, NotACltu, Refused}
use Rattle.pass_lines.specs.declared.error.PassError.{PassError}
use Rattle.pass_lines.specs.declared.error.PassError.TheVariants.{Memory, BadLine, PastTheEnd, RecordTooLong}

-- of a frame that is refused the number
abbrev pub fault_text : LineFault → List ℕ
fault_text Unreadable = codes "neither whole octets of hexadecimal digits nor a line that encode prints"
fault_text NotACltu = codes "no CLTU as encode prints one: its numbers and digits do not agree"
fault_text (Refused refusal) = refusal_text refusal

-- of a bad line its number, the first being 1; of a place past the end how many symbols there are
abbrev pub error_text : PassError → List ℕ
error_text Memory = codes "out of memory"
error_text (BadLine number fault) = codes "line " ++ (decimal number ++ (codes ": " ++ fault_text fault))
error_text (PastTheEnd place symbols) =
    codes "no symbol has the place " ++ (decimal place ++ (codes ": there are " ++ decimal symbols))
error_text RecordTooLong = codes "the record would have more than 65,535 octets"
