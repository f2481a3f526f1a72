-- The first line, with and without a newline behind it. Assumes nothing.
use Rattle.std.proofs.Common.{◌≡◌, ◌∷◌, ◌∙◌, ap, sym, arith}
use Rattle.answered_lines.specs.Lines.{lines_of}
use Rattle.pass_lines.proofs.FirstLine.{whole, stripped}
use Rattle.pass_lines.proofs.input.first_line.Goals as goal

pub returns-then-line-text-clause-lines : goal.returns-then-line-text-clause-lines
returns-then-line-text-clause-lines c =
    whole c.args.text.now c.cut.result.0.now c.cut.result.1.now c.cut.ensures.front c.cut.ensures.behind c.requires c.if-line-text.true

pub returns-clause-lines : goal.returns-clause-lines
returns-clause-lines c =
    stripped c.args.text.now c.cut.result.0.now c.cut.result.1.now c.cut.ensures.front c.cut.ensures.behind c.if-line-text.false
    ∙ ap (λ l. l ∷ lines_of c.cut.result.1.now) (sym c.without_return.ensures)
