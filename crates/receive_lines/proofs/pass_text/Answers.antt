-- The text of a ring, with a layer over it or without. Assumes nothing.
use Rattle.std.proofs.Common.{string_bytes, sym, ap, ◌∙◌}
use Rattle.std.proofs.lemmas.Result.{IfOk-weaker}
use Rattle.pass_record.specs.Segments.{segments_in}
use Rattle.receive_lines.specs.Pass.{showing_for}
use Rattle.receive_lines.specs.Answers.{IsTextOf}
use Rattle.receive_lines.proofs.Texts.{is_text_of, over_ring}
use Rattle.receive_lines.proofs.pass_text.Goals as goal

pub returns-in-On : goal.returns-in-On
returns-in-On c =
    let setup = c.args.setup in
    let segments = segments_in c.args.pass in
    let ring = c.new-ring.ensures in
    let start = over_ring _ _ setup.cells _ (c.over.ensures.capacity ∙ ring.capacity) (c.as_mut_slice.ensures.len ∙ c.in_ok-cells.ensures.cells) c.in_ok-cells.ensures.few (c.over.ensures.finished ∙ ring.finished) in
    IfOk-weaker c.text_over.result _ (λ text. IsTextOf setup c.args.view segments (string_bytes text))
    (λ text is. is_text_of setup c.args.view segments (string_bytes text) _ _ (ap showing_for (sym c.in-On.is)) start is)
    c.text_over.ensures

pub returns : goal.returns
returns c =
    let setup = c.args.setup in
    let segments = segments_in c.args.pass in
    let ring = c.new-ring.ensures in
    let start = over_ring _ _ setup.cells _ ring.capacity (c.as_mut_slice.ensures.len ∙ c.in_ok-cells.ensures.cells) c.in_ok-cells.ensures.few ring.finished in
    IfOk-weaker c.text_over-in-Off.result _ (λ text. IsTextOf setup c.args.view segments (string_bytes text))
    (λ text is. is_text_of setup c.args.view segments (string_bytes text) _ _ (ap showing_for (sym c.in-Off.is)) start is)
    c.text_over-in-Off.ensures
