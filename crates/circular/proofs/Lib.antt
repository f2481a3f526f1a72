-- Laws of circles. Assumes nothing.
pub mod Rounds
