-- The hold that a layer stands over. Assumes nothing.
use Rattle.derandomizing.specs.declared.Derandomizing.{Derandomizing}

abbrev pub below_of : {H : Type 0} → Derandomizing H → H
below_of layer = layer.below
