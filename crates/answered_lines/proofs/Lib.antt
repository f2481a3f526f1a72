-- Proofs about the lines of an input. Assumes nothing.
pub mod LinesOf
pub mod Told
pub mod Steps
