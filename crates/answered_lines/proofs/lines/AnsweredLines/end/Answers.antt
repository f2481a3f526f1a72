-- All is printed at the end. Assumes nothing.
use Rattle.std.proofs.Common.{◌++◌, sym, ap, ◌∙◌, append_assoc, string_bytes}
use Rattle.answered_lines.specs.Printed.{end_line, printed}
use Rattle.answered_lines.proofs.Steps.{printed_is}
use Rattle.answered_lines.proofs.lines.AnsweredLines.end.Goals as goal

pub returns : goal.returns
returns g c =
    let after = c.end_last_line.new.self in
    let done = c.in_ok-end_last_line.ensures.done in
    let last = end_line after.lines after.counted in (
      done.0 ++ last,
      c.in_ok-write_end.ensures ∙ ap (λ t. t ++ last) done.1 ∙ append_assoc (string_bytes c.args.text.now) done.0 last,
      λ octets all has.
          sym (append_assoc all done.0 last) ∙ printed_is g.A.Answering.meaning after octets (all ++ done.0) (done.2 octets all has)
          ∙ ap (λ a. printed (g.A.Answering.meaning a) octets) c.in_ok-end_last_line.ensures.answering,
    )
