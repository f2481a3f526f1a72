-- The showing of a derandomizing layer, by the showing below it. Assumes nothing.
use Rattle.std.specs.Prelude.{bit_xor}
use Rattle.randomizer.specs.Sequence.{sequence_octet}
use Rattle.hold.specs.Candidates.{Showing}

-- the sequence's eight bits of the place are added, and then the hold below shows the octet
abbrev pub derandomized : Showing → Showing
derandomized below place x = below place (bit_xor x (sequence_octet place))
