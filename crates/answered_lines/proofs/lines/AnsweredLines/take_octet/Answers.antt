-- An octet is taken. Assumes nothing.
use Rattle.std.proofs.Common.{[], ◌∷◌, ◌++◌, sym, ap, subst, append_assoc, append-nil, string_bytes}
use Rattle.answered_lines.specs.Taken.{waiting, HasTaken}
use Rattle.answered_lines.proofs.LinesOf.{no_newline_waits, no_newline_append}
use Rattle.answered_lines.proofs.Steps.{newline_taken, octet_taken, reads_on}
use Rattle.answered_lines.proofs.lines.AnsweredLines.take_octet.Goals as goal

pub returns-then-octet-eq10-clause-taken : goal.returns-then-octet-eq10-clause-taken
returns-then-octet-eq10-clause-taken g c =
    let meaning_of = g.A.Answering.meaning in
    let answered = c.in_ok-answer_line.ensures.line in (
      answered.0,
      answered.1,
      λ octets all has.
          subst (λ x. HasTaken meaning_of c.answer_line.new.self (octets ++ x ∷ []) (all ++ answered.0)) (sym c.if-octet-eq10.true)
          (newline_taken meaning_of c.args.self.now c.answer_line.new.self octets all has c.in_ok-answer_line.ensures.answering answered.0
          (answered.2 has.line has.has_read has.most)),
    )

pub returns-then-octet-eq13-clause-taken : goal.returns-then-octet-eq13-clause-taken
returns-then-octet-eq13-clause-taken g c =
    let last = c.args.self.now.last in
    let same = c.in_ok-read_return.ensures.same in (
      [],
      sym (append-nil (string_bytes c.args.text.now)),
      λ octets all has.
          octet_taken g.A.Answering.meaning c.args.self.now _ octets all has c.args.octet (waiting last) c.in_ok-read_return.ensures.read
          (ap (λ x. waiting last ++ x ∷ []) (sym c.if-octet-eq13.true)) (no_newline_waits last) tt
          (ap (λ s. s.answering) same) (ap (λ s. s.lines) same) (ap (λ s. s.counted) same),
    )

pub returns-in_ok-read-clause-taken : goal.returns-in_ok-read-clause-taken
returns-in_ok-read-clause-taken g c =
    let last = c.args.self.now.last in
    let octet = c.args.octet in
    let same = c.in_ok-read_return.ensures.same in
    let more = waiting last ++ octet ∷ [] in (
      [],
      sym (append-nil (string_bytes c.args.text.now)),
      λ octets all has.
          octet_taken g.A.Answering.meaning c.args.self.now _ octets all has octet more
          (reads_on (waiting last) (octet ∷ []) c.args.self.now.reader c.read_return.new.self.reader c.read.new.self c.in_ok-read_return.ensures.read (c.in_ok-read.ensures.text, c.in_ok-read.ensures.most))
          (append-nil more) (no_newline_append (waiting last) (octet ∷ []) (no_newline_waits last) (c.if-octet-eq10.false, tt))
          (has.line ++ waiting last, octet, sym (append_assoc has.line (waiting last) (octet ∷ [])), c.if-octet-eq13.false)
          (ap (λ s. s.answering) same) (ap (λ s. s.lines) same) (ap (λ s. s.counted) same),
    )
