-- What the proofs of several functions share. Assumes nothing.
pub mod Lines
pub mod Released
pub mod Passes
pub mod Come
pub mod Emptied
pub mod Texts
pub mod Sent
