-- What `frame_answer` answers where the CLTU is written. Assumes nothing.
use Rattle.std.proofs.Common.{◌≡◌, ◌-◌, ◌*◌, ◌++◌, length, drop, Ok, ◌∙◌, refl, ap, ap₂, rules}
use Rattle.hex.specs.Hex.{encode_upper}
use Rattle.cltu.specs.Writing.{sent_cltu, writing_answer}
use Rattle.encode_lines.specs.Lines.{cltu_text}
use Rattle.encode_lines.proofs.Memory.{memory, answers, written}
use Rattle.encode_lines.proofs.frame_answer.Goals as goal

pub returns-in_ok-encode_upper-in-Ok-clause-answer : goal.returns-in_ok-encode_upper-in-Ok-clause-answer
returns-in_ok-encode_upper-in-Ok-clause-answer c =
    let sender = c.args.sender in
    let frame = c.args.frame.now in
    let octets = c.in-Ok.octets in
    let is : writing_answer sender frame memory ≡ Ok octets = search rules in
    let after : c.write_cltu.new.memory ≡ sent_cltu sender frame ++ drop octets memory = search rules in
    let digits = c.in_ok-encode_upper-in-Ok.ensures ∙ ap encode_upper (written sender frame c.write_cltu.new.memory octets is after) in
    answers sender frame _ (Ok octets) is
    (ap₂ (λ n d. cltu_text n (7 * n - length frame) octets d) c.codeblocks_for-codeblocks.ensures.value digits)
    refl
