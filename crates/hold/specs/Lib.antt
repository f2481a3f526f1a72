-- The meaning of a hold. Assumes nothing.
pub mod Candidates
pub mod Plain
