-- One segment more. Assumes nothing.
use Rattle.std.proofs.Common.{◌+◌, [], ◌∷◌, suc, map, length, ap, ◌∙◌, arith}
use Rattle.std.proofs.lemmas.List.{length-append}
use Rattle.pass_record.specs.Segments.{symbols_in}
use Rattle.receive_lines.specs.Pass.{placed_segment, placed_segments}
use Rattle.receive_lines.proofs.Passes.{passed_none, passed_as, passed_then, one_more_segment}
use Rattle.receive_lines.proofs.receiving.Receiving.take_pass.Goals as goal

pub loop-segment-init : goal.loop-segment-init
loop-segment-init g c = record { passed = passed_none g.H.Hold _; place = omega arith }

pub loop-segment-preserved : goal.loop-segment-preserved
loop-segment-preserved g c =
    let inv = c.loop-segment.invariant in
    let first = c.args.self.now.place.segment in
    let took = c.in_ok-take_segment.ensures in
    let more = symbols_in c.in-Some.segment in
    record {
      passed = passed_as (one_more_segment first c.loop-segment.yielded c.in-Some.segment)
          (passed_then g.H.Hold (placed_segments first (map symbols_in c.loop-segment.yielded)) (placed_segment (suc (first + length c.loop-segment.yielded)) more) _ _ _ inv.passed
          (passed_as (ap (λ n. placed_segment (suc n) more) inv.place) took.passed));
      place = omega (arith, took.place, inv.place, length-append c.loop-segment.yielded (c.in-Some.segment ∷ []));
    }
