-- An octet more is taken. Assumes nothing.
use Rattle.std.proofs.Common.{◌++◌, take, sym, ap, subst, ◌∙◌, append_assoc, string_bytes}
use Rattle.std.proofs.lemmas.List.{take_more}
use Rattle.answered_lines.specs.Taken.{HasTaken}
use Rattle.answered_lines.proofs.lines.AnsweredLines.take.Goals as goal

pub loop-octet-preserved : goal.loop-octet-preserved
loop-octet-preserved g c =
    let now = c.args.octets.now in
    let n = c.loop-octet.octet-index in
    let before = c.loop-octet.invariant.1 in
    let next = c.in_ok-take_octet.ensures.taken in
    let one = take_more now n 0 c.loop-octet-test.true in (
      c.in_ok-take_octet.ensures.answering ∙ c.loop-octet.invariant.0,
      (
        before.0 ++ next.0,
        next.1 ∙ ap (λ t. t ++ next.0) before.1 ∙ append_assoc (string_bytes c.args.text.now) before.0 next.0,
        λ octets all has.
            subst (λ t. HasTaken g.A.Answering.meaning c.take_octet.new.self t (all ++ (before.0 ++ next.0)))
            (append_assoc octets (take n now) _ ∙ ap (λ l. octets ++ l) (sym one))
            (subst (HasTaken g.A.Answering.meaning c.take_octet.new.self _) (append_assoc all before.0 next.0)
            (next.2 (octets ++ take n now) (all ++ before.0) (before.2 octets all has))),
      ),
    )
