-- A segment begins. Assumes nothing.
use Rattle.std.proofs.Common.{[], ◌∷◌, refl, ap}
use Rattle.reception.specs.Rules.{carrier_up}
use Rattle.receive_lines.specs.Pass.{placed, place_in}
use Rattle.receive_lines.proofs.Passes.{passed_as, passed_up}
use Rattle.receive_lines.proofs.receiving.Receiving.begin_segment.Goals as goal

pub returns-clause-place : goal.returns-clause-place
returns-clause-place g c = ap (λ n. place_in n 0) c.in_ok-segment.ensures

pub returns-clause-passed : goal.returns-clause-passed
returns-clause-passed g c = passed_up g.H.Hold _ _ _ c.carrier_up.ensures.after refl
