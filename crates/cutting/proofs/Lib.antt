-- Proofs about cutting. Assumes nothing.
pub mod Header
pub mod Parts
pub mod Whole
pub mod Sent
