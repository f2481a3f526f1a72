-- The derandomized octets stand below at the places at which the layer's stand. Assumes nothing.
use Rattle.derandomizing.proofs.Shown.{added_over}
use Rattle.derandomizing.proofs.DerandomizingHold.add.Goals as goal

pub returns-clause-opened : goal.returns-clause-opened
returns-clause-opened g c =
    let whole = (g.met.H.Hold.sound c.args.self.now.below).open_whole in
    added_over g.H.Hold.showing _ _ _ _ _ _ _ c.add.ensures.opened c.derandomized.ensures c.open_codeblocks.ensures whole
