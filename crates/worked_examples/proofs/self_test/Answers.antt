use Rattle.std.proofs.Common.{[], Some, None, false, IsTrue, get_or, subst, sym, refl, take_all}
use Rattle.std.specs.Option.{IsSomeAnd}
use Rattle.std.proofs.lemmas.Option.{slice_get-get_or}
use Rattle.worked_examples.proofs.First.{fails_first_once}
use Rattle.std.specs.List.{All}
use Rattle.std.proofs.lemmas.List.Elements.{All-more}
use Rattle.worked_examples.specs.Vectors.{IsCodeblock, IsAcceptedByBothModes, FailsFirst}
use Rattle.worked_examples.proofs.self_test.Goals as goal

pub loop-place-preserved : goal.loop-place-preserved
loop-place-preserved c =
    let vectors = c.args.vectors.now in
    let place = c.loop-place.place in
    let before = c.loop-place.invariant in
    let passed = c.if-not-passes.ensures in
    let there = c.loop-place-test.true in
    record {
      codeblocks = All-more IsCodeblock vectors place [] there before.codeblocks (passed.codeblock.0 refl);
      accepted = All-more IsAcceptedByBothModes vectors place [] there before.accepted (passed.accepted refl);
    }

pub returns-clause-first : goal.returns-clause-first
returns-clause-first c =
    subst (All IsCodeblock) (take_all _ c.args.vectors.now c.loop-place-test.false) c.loop-place.invariant.codeblocks

pub returns-clause-accepted : goal.returns-clause-accepted
returns-clause-accepted c =
    subst (All IsAcceptedByBothModes) (take_all _ c.args.vectors.now c.loop-place-test.false)
    c.loop-place.invariant.accepted

-- no other answer than the first that was met
pub returns-then-not-passes-clause-only : goal.returns-then-not-passes-clause-only
returns-then-not-passes-clause-only c other answer =
    let vectors = c.args.vectors.now in
    let place = c.loop-place.place in
    let found = slice_get-get_or vectors place [] c.loop-place-test.true in
    let fails : ¬ IsCodeblock (get_or vectors place []) =
    λ is. let passes : IsTrue false = c.if-not-passes.ensures.codeblock.1 is in cc
    in
    let here : FailsFirst vectors (Some place) =
    (c.loop-place.invariant.codeblocks, subst (λ v. IsSomeAnd v (λ w. ¬ IsCodeblock w)) (sym found) fails)
    in
    fails_first_once vectors other (Some place) answer here

pub returns-clause-only : goal.returns-clause-only
returns-clause-only c other answer = fails_first_once c.args.vectors.now other None answer (returns-clause-first c)
