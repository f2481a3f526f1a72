-- What the randomizer's sequence is, and what adding it is. Assumes nothing.
pub mod Sequence
