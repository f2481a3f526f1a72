-- Memory for the longest CLTU is never too short. Assumes nothing.
use Rattle.std.proofs.Common.{◌≡◌, ◌≢◌, ℕ, Bool, true, false, cond, List, ◌++◌, length, take, drop, replicate, Ok, Err, Result, nat_lt, ◌∙◌, sym, ap, arith}
use Rattle.std.proofs.lemmas.List.{length-replicate, take_at}
use Rattle.refusals.specs.declared.Refusal.{Refusal}
use Rattle.refusals.specs.declared.Refusal.TheVariants.{FrameLength, MemoryTooShort}
use Rattle.refusals.specs.Numbers.{refusal_number}
use Rattle.cltu.specs.declared.Sender.{Sender}
use Rattle.cltu.specs.Writing.{frame_refused, sent_cltu, cltu_octets, length_answer, writing_answer}
use Rattle.cltu.proofs.Longest.{is_never_too_short}
use Rattle.encode_lines.specs.declared.FrameAnswer.{FrameAnswer}
use Rattle.encode_lines.specs.Lines.{frame_line, answer_text, outcome, Answers, IsNeverTooShort}

abbrev pub memory : List ℕ
memory = replicate 1186 0

pub in_the_memory : (sender : Sender) (frame : List ℕ) → writing_answer sender frame memory ≡ length_answer sender (length frame)
in_the_memory sender frame = is_never_too_short sender frame memory (omega (arith, length-replicate {A = ℕ}))

-- an answer that is what writing the CLTU came to
pub answers : (sender : Sender) (frame : List ℕ) (answer : FrameAnswer) (written : Result ℕ Refusal)
    → writing_answer sender frame memory ≡ written → answer_text answer ≡ frame_line sender frame written → outcome answer ≡ written → Answers sender frame answer
answers sender frame answer written is text came_to =
    let same : written ≡ length_answer sender (length frame) = sym is ∙ in_the_memory sender frame in
    record {
      text = text ∙ ap (frame_line sender frame) same;
      came_to = came_to ∙ same;
    }

-- the number of a refusal, and 0 where there is none
abbrev number_of : Result ℕ Refusal → ℕ
number_of (Ok octets) = 0
number_of (Err refusal) = refusal_number refusal

abbrev octets_of : Result ℕ Refusal → ℕ
octets_of (Ok octets) = octets
octets_of (Err refusal) = 0

length_if : (refused short : Bool) (n octets : ℕ) → cond refused (Err FrameLength) (cond short (Err MemoryTooShort) (Ok n)) ≡ Ok octets → n ≡ octets
length_if true short n octets e = let one : 1 ≡ 0 = ap number_of e in absurd (omega (arith, one))
length_if false true n octets e = let two : 2 ≡ 0 = ap number_of e in absurd (omega (arith, two))
length_if false false n octets e = ap octets_of e

-- what was written is the CLTU
pub written : (sender : Sender) (frame after : List ℕ) (octets : ℕ) → writing_answer sender frame memory ≡ Ok octets → after ≡ sent_cltu sender frame ++ drop octets memory → take octets after ≡ sent_cltu sender frame
written sender frame after octets e is =
    let all = length_if (frame_refused sender.limit.count (length frame)) (nat_lt (length memory) (length (sent_cltu sender frame))) (length (sent_cltu sender frame)) octets e in
    ap (take octets) is ∙ take_at (sent_cltu sender frame) (drop octets memory) octets all

not_2 : (refused : Bool) (octets : ℕ) → number_of (cond refused (Err FrameLength) (Ok octets)) ≢ 2
not_2 true octets e = omega (arith, e)
not_2 false octets e = omega (arith, e)

pub never_too_short : (sender : Sender) (frame : List ℕ) (answer : FrameAnswer) → Answers sender frame answer → IsNeverTooShort answer
never_too_short sender frame answer is e =
    not_2 (frame_refused sender.limit.count (length frame)) (cltu_octets (length frame)) (ap number_of (sym is.came_to ∙ e))
