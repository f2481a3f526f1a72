-- The answer of what is kept is the answer of the line. Assumes nothing.
use Rattle.std.proofs.Common.{◌++◌, sym, ap, ◌∙◌, string_bytes, codes}
use Rattle.std.specs.Option.{option_map, option_copied}
use Rattle.hexadecimal.specs.Text.{octets_written}
use Rattle.hexadecimal.specs.Kept.{kept}
use Rattle.answered_lines.specs.Printed.{text_of, count_of}
use Rattle.answered_lines.proofs.Told.{kept_is_told, nothing_is_kept}
use Rattle.answered_lines.proofs.lines.AnsweredLines.write_answer.Goals as goal

pub returns-in_ok-push_str-in-Some : goal.returns-in_ok-push_str-in-Some
returns-in_ok-push_str-in-Some g c =
    let meaning = g.A.Answering.meaning c.args.self.now.answering in
    let octets = c.in-Some.octets.now in
    let answer = c.in_ok-answer-in-Some.ensures in (
      meaning.text octets,
      c.in_ok-push_str-in-Some.ensures.bytes ∙ ap (λ t. string_bytes c.args.text.now ++ t) (c.as_str.ensures.value ∙ answer.text_is),
      λ line has most.
          let read = ap option_copied (sym c.in-Some.is) ∙ c.octets.ensures line has ∙ ap (λ n. option_map (kept n) (octets_written line)) most in
          let told = kept_is_told meaning (g.met.A.Answering.further_octets_change_nothing c.args.self.now.answering) (octets_written line) octets read in
          record { text_is = told.0; count_is = answer.count_is ∙ told.1 },
    )

pub returns-in_ok-push_str-in-None : goal.returns-in_ok-push_str-in-None
returns-in_ok-push_str-in-None g c =
    let meaning = g.A.Answering.meaning c.args.self.now.answering in (
      codes "unreadable\n",
      c.in_ok-push_str-in-None.ensures.bytes,
      λ line has most.
          let read = ap option_copied (sym c.in-None.is) ∙ c.octets.ensures line has ∙ ap (λ n. option_map (kept n) (octets_written line)) most in
          let none = nothing_is_kept meaning.most (octets_written line) read in
          record { text_is = ap (text_of meaning) (sym none); count_is = ap (count_of meaning) (sym none) },
    )
