-- The open line is answered at the end. Assumes nothing.
use Rattle.std.proofs.Common.{[], ◌++◌, sym, ap, subst, ◌∙◌, append-nil, string_bytes}
use Rattle.answered_lines.specs.Taken.{waiting, AnswersLine}
use Rattle.answered_lines.proofs.LinesOf.{opened}
use Rattle.answered_lines.proofs.Steps.{done_already, done_now}
use Rattle.answered_lines.proofs.lines.AnsweredLines.end_last_line.Goals as goal

pub returns-clause-done : goal.returns-clause-done
returns-clause-done g c =
    let meaning_of = g.A.Answering.meaning in
    let same = c.in_ok-read_return.ensures.same in
    let read = c.in_ok-read_return.ensures.read in
    let answered = c.in_ok-answer_line.ensures.line in (
      answered.0,
      answered.1,
      λ octets all has.
          let whole = has.line ++ waiting c.args.self.now.last in
          let most = read.1 ∙ has.most ∙ ap (λ a. (meaning_of a).most) (sym (ap (λ s. s.answering) same)) in
          done_now meaning_of c.args.self.now c.answer_line.new.self octets all has c.read_return.new.self.reader answered.0
          (opened c.args.self.now.last has.line c.in_default.not-Newline) (c.in_ok-answer_line.ensures.answering ∙ ap (λ s. s.answering) same)
          (subst (λ s. AnswersLine meaning_of s c.answer_line.new.self whole answered.0) same (answered.2 whole (read.0 has.line has.has_read) most)),
    )

pub returns-in-Newline-clause-done : goal.returns-in-Newline-clause-done
returns-in-Newline-clause-done g c = (
  [],
  sym (append-nil (string_bytes c.args.text.now)),
  λ octets all has.
      done_already g.A.Answering.meaning c.args.self.now c.args.self.now octets all has c.in-Newline.is,
)
