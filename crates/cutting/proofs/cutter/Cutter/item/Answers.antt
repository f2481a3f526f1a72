-- An item, and what is to be cut behind it. Assumes nothing.
use Rattle.std.proofs.Common.{ap, ◌∙◌}
use Rattle.std.proofs.lemmas.List.{take_rest}
use Rattle.cutting.specs.Cutting.{part_in_front}
use Rattle.cutting.proofs.Parts.{comes_next}
use Rattle.cutting.proofs.cutter.Cutter.item.Goals as goal

pub returns-clause-next : goal.returns-clause-next
returns-clause-next c =
    let cutter = c.args.self.now in
    comes_next cutter c.item_in_front.result c.requires (c.item_in_front.ensures ∙ ap (part_in_front cutter.place) (take_rest cutter.candidate.now cutter.place))
