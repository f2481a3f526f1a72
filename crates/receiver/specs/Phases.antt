-- What the phase of a receiver means: a phase of the rules of reception. Assumes nothing.
use Rattle.reception.specs.Rules.{Phase, INACTIVE, SEARCH, DECODE}
use Rattle.searching.specs.Windows.{entered, last_bits}
use Rattle.decoding.specs.Outcomes.{reading_in}
use Rattle.receiver.specs.declared.phase.Phase.{Phase as Kept}
use Rattle.receiver.specs.declared.phase.Phase.TheVariants.{Inactive, Search, Decode}

abbrev pub phase_of : Kept → Phase
phase_of Inactive = INACTIVE
phase_of (Search window) = SEARCH (entered window) (last_bits window)
phase_of (Decode decoding) = DECODE (reading_in decoding)
