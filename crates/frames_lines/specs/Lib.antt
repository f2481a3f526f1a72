-- The lines that tell what is cut out of a candidate. Assumes nothing.
pub mod Lines
pub mod Answers
