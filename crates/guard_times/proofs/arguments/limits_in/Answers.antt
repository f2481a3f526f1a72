-- A limit more, or a text that writes none. Assumes nothing.
use Rattle.std.proofs.Common.{ℕ, List, [], map, take, ◌+◌, subst, sym, Bor}
use Rattle.std.proofs.lemmas.Result.{err_from_is_err_and}
use Rattle.cltu.specs.declared.limit.CodeblockLimit.{CodeblockLimit}
use Rattle.guard_times.specs.Arguments.{WritesLimit, WriteLimits}
use Rattle.guard_times.proofs.Texts.{one_more, none}
use Rattle.guard_times.proofs.arguments.limits_in.Goals as goal

abbrev no_text : Bor (List ℕ)
no_text = record { ref_ptr = (0, 0); now = [] }

abbrev text_of : Bor (List ℕ) → List ℕ
text_of text = text.now

pub returns-in_err-limit-clause-refused : goal.returns-in_err-limit-clause-refused
returns-in_err-limit-clause-refused c =
    let p = err_from_is_err_and c.from_residual.result c.from_residual.ensures.1 in
    rw (p.1, p.2) (λ wrong limits write. none WritesLimit text_of c.args.texts.now c.loop-text.text-index no_text c.loop-text-test.true
    (λ limit writes. c.in_err-limit.ensures.refused wrong limit writes) limits write)

pub loop-text-preserved : goal.loop-text-preserved
loop-text-preserved c =
    let texts = c.args.texts.now in
    let i = c.loop-text.text-index in
    let limits = c.loop-text.limits.items in
    subst (λ (l : List CodeblockLimit). WriteLimits (map text_of (take (i + 1) texts)) l) (sym c.in_ok-push.ensures.items)
    (one_more WritesLimit text_of texts limits i no_text c.in_ok-limit.limit c.loop-text-test.true c.loop-text.invariant c.in_ok-limit.ensures.limit)
