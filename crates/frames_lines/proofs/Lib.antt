-- Proofs about the lines of a candidate. Assumes nothing.
pub mod Coming
