-- Laws of holds. Assumes nothing.
pub mod Copies
pub mod Plain
