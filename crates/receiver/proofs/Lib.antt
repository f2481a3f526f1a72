-- What the proofs of several functions share. Assumes nothing.
pub mod Queues
pub mod Ran
pub mod Decided
pub mod Joined
