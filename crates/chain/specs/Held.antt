-- What a chain holds. Assumes nothing.
use Rattle.std.specs.Prelude.{ℕ, List, Option}
use Rattle.hold.specs.Candidates.{Candidate, Sound}
use Rattle.cells.specs.Held.{finished_of, opened_of, sound}
use Rattle.chain.specs.declared.chain.Chain.{Chain}
use Rattle.chain.specs.Links.{in_turn}

abbrev pub capacity_of : Chain → ℕ
capacity_of chain = chain.counts.cells

abbrev pub finished_in : Chain → List Candidate
finished_in chain = finished_of chain.counts (in_turn chain.cells.now chain.first)

abbrev pub opened_in : Chain → Option Candidate
opened_in chain = opened_of chain.counts (in_turn chain.cells.now chain.first)

pub sound_chain : (chain : Chain) → Sound (capacity_of chain) (finished_in chain) (opened_in chain)
sound_chain chain = sound chain.counts (in_turn chain.cells.now chain.first) chain.counted
