-- A segment. Assumes nothing.
use Rattle.std.proofs.Common.{[], ◌∷◌, ◌++◌, refl, ap, ◌∙◌}
use Rattle.std.proofs.lemmas.Result.{on_ok_weaker}
use Rattle.pass_record.specs.Segments.{symbols_in}
use Rattle.receive_lines.proofs.Passes.{segment_passed}
use Rattle.receive_lines.proofs.receiving.Receiving.take_segment.Goals as goal

pub returns-clause-place : goal.returns-clause-place
returns-clause-place g c =
    on_ok_weaker c.end_segment.result
    (λ same. ap (λ p. p.segment) (same ∙ c.in_ok-take_symbols.ensures.place) ∙ ap (λ p. p.segment) c.in_ok-begin_segment.ensures.place)
    c.end_segment.ensures.place

pub returns-clause-passed : goal.returns-clause-passed
returns-clause-passed g c =
    on_ok_weaker c.end_segment.result
    (λ ended. segment_passed g.H.Hold (symbols_in c.args.segment) _ _ _ _ c.in_ok-begin_segment.ensures.place c.in_ok-begin_segment.ensures.passed c.in_ok-take_symbols.ensures ended)
    c.end_segment.ensures.passed
