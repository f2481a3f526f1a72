-- The answer to a line with a frame in it. Assumes nothing.
use Rattle.std.specs.Prelude.{◌≡◌, ◌≢◌, ℕ, suc, List, ◌++◌, length, Some, Ok, Err, string_bytes, codes, decimal, Result}
use Rattle.refusals.specs.declared.Refusal.{Refusal}
use Rattle.refusals.specs.declared.Refusal.TheVariants.{MemoryTooShort}
use Rattle.refusals.specs.Numbers.{refusal_text}
use Rattle.cltu.specs.declared.Sender.{Sender}
use Rattle.cltu.specs.Cltu.{longest_frame, codeblocks_for, fill_for}
use Rattle.cltu.specs.Writing.{sent_cltu, length_answer}
use Rattle.hex.specs.Hex.{encode_upper as capital_digits}
use Rattle.answered_lines.specs.Meaning.{Meaning}
use Rattle.encode_lines.specs.declared.FrameAnswer.{FrameAnswer}
use Rattle.encode_lines.specs.declared.FrameAnswer.TheVariants.{Cltu, Refused}

-- `cltu`, the codeblocks, the fill octets, the octets and all of these in digits
abbrev pub cltu_text : (codeblocks fill octets : ℕ) (digits : List ℕ) → List ℕ
cltu_text codeblocks fill octets digits =
    codes "cltu " ++ (decimal codeblocks ++ (codes " " ++ (decimal fill ++ (codes " "
    ++ (decimal octets ++ (codes " " ++ digits))))))

-- `cltu`, the codeblocks, the fill octets, the octets and all of these in capitals; or `refused` and the number
abbrev pub frame_line : Sender → List ℕ → Result ℕ Refusal → List ℕ
frame_line sender frame (Ok octets) =
    cltu_text (codeblocks_for (length frame)) (fill_for (length frame)) octets (capital_digits (sent_cltu sender frame))
frame_line sender frame (Err refusal) = refusal_text refusal

-- one CLTU, or none
abbrev pub cltus : Result ℕ Refusal → ℕ
cltus (Ok octets) = 1
cltus (Err refusal) = 0

-- a frame is answered by its line, with its end, and counts if it is sent; octets behind the first that is too many
-- change nothing
abbrev pub encode_meaning : Sender → Meaning
encode_meaning sender = record {
  text = λ frame. frame_line sender frame (length_answer sender (length frame)) ++ codes "\n";
  count = λ frame. cltus (length_answer sender (length frame));
  most = Some (suc longest_frame);
}

-- the line that an answer prints as
abbrev pub answer_text : FrameAnswer → List ℕ
answer_text (Cltu codeblocks fill octets digits) = cltu_text codeblocks fill octets (string_bytes digits)
answer_text (Refused refusal) = refusal_text refusal

-- what writing the CLTU came to
abbrev pub outcome : FrameAnswer → Result ℕ Refusal
outcome (Cltu codeblocks fill octets digits) = Ok octets
outcome (Refused refusal) = Err refusal

-- an answer prints as the line for this frame, and is the case that says what writing it came to
pub record Answers (sender : Sender) (frame : List ℕ) (answer : FrameAnswer) : Type 0 where
  pub text : answer_text answer ≡ frame_line sender frame (length_answer sender (length frame))
  pub came_to : outcome answer ≡ length_answer sender (length frame)

-- it is never refusal 2: the memory in which a CLTU is written is never too short
abbrev pub IsNeverTooShort : FrameAnswer → Type 0
IsNeverTooShort answer = outcome answer ≢ Err MemoryTooShort
