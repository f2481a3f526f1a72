-- The limit of codeblocks, the CLTU of a frame, and writing one. Assumes nothing.
pub mod Limit
pub mod Cltu
pub mod Writing
