-- What is given by the lines that `encode` prints. Assumes nothing.
use Rattle.std.specs.Prelude.{◌≡◌, ℕ, ◌+◌, ◌*◌, ◌^◌, ◌<◌, List, ◌++◌, length, Some, None, Ok, codes, decimal}
use Rattle.hex.specs.Hex.{decode_of}
use Rattle.cltu.specs.declared.Sender.{Sender}
use Rattle.encode_lines.specs.Lines.{cltu_text}
use Rattle.pass_lines.specs.Given.{line_given}

-- whatever the sender: the line for a CLTU gives its octets, in digits of either case; the last line gives nothing
pub record PrintedLinesGive : Type 0 where
  pub cltu : (sender : Sender) (codeblocks fill : ℕ) (digits octets : List ℕ) →
      decode_of digits ≡ Ok octets → length octets ≡ 10 + 8 * codeblocks → fill < 7 → length octets < 2 ^ 64 →
      line_given sender (cltu_text codeblocks fill (length octets) digits) ≡ Ok (Some octets)
  pub end : (sender : Sender) (lines cltus : ℕ) → lines < 2 ^ 64 → cltus < 2 ^ 64 →
      line_given sender (codes "end " ++ (decimal lines ++ (codes " " ++ decimal cltus))) ≡ Ok None
