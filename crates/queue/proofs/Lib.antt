-- The lemmas that the proofs of this crate share, and laws for its callers. Assumes nothing.
mod Turns
pub mod Laws
