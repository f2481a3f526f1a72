-- The text of a ring, with a layer over it or without. Assumes nothing.
use Rattle.std.proofs.Common.{sym, ap, ◌∙◌}
use Rattle.std.proofs.lemmas.Result.{on_ok_weaker}
use Rattle.receive_lines.specs.Pass.{showing_for}
use Rattle.receive_lines.proofs.Texts.{prints_all, over_ring}
use Rattle.receive_lines.proofs.print_symbols.Goals as goal

pub returns-in-On : goal.returns-in-On
returns-in-On g c =
    let setup = c.args.setup in
    let ring = c.new-ring.ensures in
    let start = over_ring _ _ setup.cells _ (c.over-layer.ensures.capacity ∙ ring.capacity) (c.as_mut_slice.ensures.len ∙ c.in_ok-cells.ensures.cells) c.in_ok-cells.ensures.few (c.over-layer.ensures.finished ∙ ring.finished) in
    on_ok_weaker c.print_over.result (prints_all setup c.args.view c.args.form _ _ _ _ _ _ (ap showing_for (sym c.in-On.is)) start) c.print_over.ensures

pub returns : goal.returns
returns g c =
    let setup = c.args.setup in
    let ring = c.new-ring.ensures in
    let start = over_ring _ _ setup.cells _ ring.capacity (c.as_mut_slice.ensures.len ∙ c.in_ok-cells.ensures.cells) c.in_ok-cells.ensures.few ring.finished in
    on_ok_weaker c.print_over-in-Off.result (prints_all setup c.args.view c.args.form _ _ _ _ _ _ (ap showing_for (sym c.in-Off.is)) start) c.print_over-in-Off.ensures
