-- The worked examples, and what a self test answers. Assumes nothing.
pub mod Vectors
pub mod Worked
