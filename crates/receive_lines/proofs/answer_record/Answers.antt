-- A record, and what is none. Assumes nothing.
use Rattle.std.proofs.Common.{◌≡◌, ◌++◌, codes, decimal, string_bytes, refl, ap, ◌∙◌}
use Rattle.std.specs.Fmt.{digits}
use Rattle.std.proofs.lemmas.Result.{IfOk-weaker}
use Rattle.refusals.specs.Numbers.{refusal_text}
use Rattle.pass_record.specs.Segments.{segments_in}
use Rattle.receive_lines.specs.Answers.{IsTextOf, Answers}
use Rattle.receive_lines.proofs.Lines.{one_text}
use Rattle.receive_lines.proofs.Sent.{answers_of}
use Rattle.receive_lines.proofs.answer_record.Goals as goal

pub returns-in-Ok-clause-answers : goal.returns-in-Ok-clause-answers
returns-in-Ok-clause-answers c =
    let known = c.in-Ok.ensures in
    IfOk-weaker c.pass_text.result (λ s. IsTextOf c.args.setup c.args.view (segments_in c.in-Ok.pass) (string_bytes s)) (λ s. Answers c.args.setup c.args.view c.args.octets.now (string_bytes s))
    (λ s. answers_of c.args.setup c.args.view c.args.octets.now (string_bytes s) (segments_in c.in-Ok.pass) known.answer known.one)
    c.pass_text.ensures

sixteen : decimal 16 ≡ codes "16"
unfolding digits
sixteen = refl

pub returns-in_ok-format-in-Err-clause-answers : goal.returns-in_ok-format-in-Err-clause-answers
returns-in_ok-format-in-Err-clause-answers c =
    let known = c.in-Err.ensures.answer in
    record {
      read = λ segments record_of. absurd (known.none segments record_of);
      sent = λ sent enough within record_of. absurd (known.none _ record_of);
      alone = λ randomizer frame enough octets some few record_of. absurd (known.none _ record_of);
      refused = λ none. c.in_ok-format-in-Err.ensures.ok ∙ ap (λ why. refusal_text why ++ codes "\n") known.reason ∙ ap (λ digits. codes "refused " ++ digits ++ codes "\n") sixteen;
    }

pub returns-in-Ok-clause-one : goal.returns-in-Ok-clause-one
returns-in-Ok-clause-one c = one_text

pub returns-in_ok-format-in-Err-clause-one : goal.returns-in_ok-format-in-Err-clause-one
returns-in_ok-format-in-Err-clause-one c = one_text

pub returns-in_err-format-in-Err-clause-one : goal.returns-in_err-format-in-Err-clause-one
returns-in_err-format-in-Err-clause-one c = one_text
